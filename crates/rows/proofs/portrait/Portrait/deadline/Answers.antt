use Rattle.std.proofs.Common.{◌<◌, not, arith, rules, tests}
use Rattle.std.proofs.lemmas.Iterator.{YieldsList-from_range}
use Rattle.std.proofs.lemmas.Iterator.Consumers.{YieldsList-from_filter}
use Rattle.kinds.specs.Bounds.{Smallest, meant}
use Rattle.kinds.specs.declared.bound.Bound.{Bound}
use Rattle.law.specs.Holding.{width, Latest}
use Rattle.network.specs.Steps.{Lesser}
use Rattle.rows.specs.Filled.{is_in}
use Rattle.rows.proofs.Least.{fold_smallest}
use Rattle.rows.proofs.Places.{fold_turns}
use Rattle.rows.proofs.Sums.{deadline_is}
use Rattle.rows.proofs.portrait.Portrait.deadline.Goals as goal

pub returns : goal.returns
returns g c l k shown =
    let m = g.K.Kind in
    let p = c.args.self.now in
    let (f, folds) = fold_turns _ _ _ _ c.fold.ensures.ran (YieldsList-from_filter _ (λ j. not (is_in p.filled.bits j)) (YieldsList-from_range 0 p.width p.width (cc) (omega arith)) c.filter.ensures.closure (λ x r q k. search (rules, tests))) in
    deadline_is m.group m.value p m.weight l k shown _
    (fold_smallest m.group (λ j. not (is_in p.filled.bits j)) (Latest m.group l k) m.value _ _ p.width
    (λ b j end inside lacks turn.
    let inside : j < width l = omega (arith, shown.portrays.wide) in
    let (last, due, low) : (a : Bound g.row.K.Denot) × Smallest m.group (Latest m.group l k j) (meant m.value a) × Lesser m.group (meant m.value b) (meant m.value a) (meant m.value end.1) = search (rules, tests) in
    (search (rules, tests), (meant m.value last, due, low)))
    (f, c.fold.result) folds)
