use Rattle.std.proofs.Common.{◌≡◌, ◌+◌, ◌-◌, length, arith}
use Rattle.report.proofs.Wholes.{somewhere, all_there}
use Rattle.report.proofs.pieces.put_pieces.Goals as goal

pub returns : goal.returns
returns g c =
    let out = c.args.out.now in
    let head = c.args.head.now in
    let stamp = g.K.Kind.written c.args.stamp.now in
    let start = c.args.start in
    let told = c.in_ok-end.ensures in
    let k = length out - 1 - 0 in
    let last : k + 1 ≡ length out = omega arith in
    record {
      place = somewhere out head stamp start k last c.write.new.out told.after c.in_ok-end.end told.place;
      after = all_there out head stamp start k last c.write.new.out told.after c.in_ok-end.end told.place c.put.new.out c.put.ensures.after;
    }
