use Rattle.std.proofs.Common.{refl, arith}
use lib.Seq.{take-set-lt}
use Rattle.std.proofs.lemmas.List.{length-take}
use Rattle.lent.proofs.list.Lent.set.Goals as goal

pub returns-then-i-len : goal.returns-then-i-len
returns-then-i-len g c =
    let ms = c.args.self.now.items.now in
    let n = c.args.self.now.len in
    let e = length-take n ms in
    record {
      held_is = take-set-lt n ms c.args.i c.args.item (omega arith);
      within = λ _. refl;
      beyond = λ past. absurd (omega arith);
    }
