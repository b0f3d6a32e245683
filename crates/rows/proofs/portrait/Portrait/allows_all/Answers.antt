use Rattle.std.proofs.Common.{true, false, refl, arith, rules, tests}
use Rattle.std.proofs.lemmas.Iterator.{cases_from_all, YieldsList-from_range}
use Rattle.rows.proofs.Places.{every_place}
use Rattle.rows.proofs.Sums.{Limits, limits_decide}
use Rattle.rows.proofs.portrait.Portrait.allows_all.Goals as goal

pub returns : goal.returns
returns g c l k shown light q =
    let m = g.K.Kind in
    let p = c.args.self.now in
    let j = c.args.j in
    let x = m.value c.args.stamp.now in
    limits_decide m.group m.value p m.weight l k shown j q x light c.all.result
    (every_place (Limits m.group m.value p m.weight j x true) (Limits m.group m.value p m.weight j x false) p.width c.all.result
    (cases_from_all _ _ _ (Limits m.group m.value p m.weight j x true) (Limits m.group m.value p m.weight j x false) c.all.ensures.ran
    (YieldsList-from_range 0 p.width p.width refl (omega arith)) (λ i q r. search (rules, tests)) (λ i q r. search (rules, tests))))
