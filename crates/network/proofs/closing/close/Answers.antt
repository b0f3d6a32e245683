use Rattle.network.specs.Tables.{InRange, Admitted}
use Rattle.network.proofs.Turns.{started, light_start, both_kept, closes}
use Rattle.network.proofs.closing.close.Goals as goal

pub returns : goal.returns
returns g c =
    let m = g.K.Kind in
    let n = c.args.width in
    let t = c.args.table.now in
    let range : InRange n t = c.in_ok-check_range.ensures.range.0 in
    let all : Admitted m.value m.bound n t = c.in_ok-check_admitted.ensures.admitted.0 in
    let begun = started m.group m.value n range.1 t c.ground.new.table c.ground.ensures in
    let light = light_start m.group m.value m.weight m.weighed n range.1 t c.ground.new.table all c.ground.ensures in
    record {
      closes = closes m.group m.value m.bound n t c.rounds.new.table c.rounds.result range all (c.rounds.ensures.ran.outcome t begun light);
      elsewhere = both_kept m.group m.value n t c.ground.new.table c.rounds.new.table c.ground.ensures c.rounds.ensures.ran.kept;
      light = c.rounds.ensures.light t begun light;
    }
