use Rattle.std.proofs.Common.{arith, rules, tests}
use Rattle.std.proofs.lemmas.Iterator.{YieldsList-from_range}
use Rattle.std.proofs.lemmas.Iterator.Consumers.{YieldsList-from_filter}
use Rattle.kinds.specs.Bounds.{meant}
use Rattle.kinds.specs.declared.bound.Bound.{Bound}
use Rattle.network.specs.Steps.{Lesser}
use Rattle.rows.specs.Filled.{is_in}
use Rattle.rows.proofs.Least.{fold_smallest}
use Rattle.rows.proofs.Places.{fold_turns}
use Rattle.rows.proofs.Sums.{Sum, AddsUp, latest_is, sum_here}
use Rattle.rows.proofs.portrait.Portrait.latest.Goals as goal

pub returns : goal.returns
returns g c l k shown q =
    let m = g.K.Kind in
    let p = c.args.self.now in
    let j = c.args.j in
    let (f, folds) = fold_turns _ _ _ _ c.fold.ensures.ran (YieldsList-from_filter _ (is_in p.filled.bits) (YieldsList-from_range 0 p.width p.width (cc) (omega arith)) c.filter.ensures.closure (λ x r q k. search (rules, tests))) in
    latest_is m.group m.value p m.weight l k shown j q _
    (fold_smallest m.group (is_in p.filled.bits) (Sum m.group m.value p j) m.value _ _ p.width
    (λ b i end inside yes turn.
    let (after, exact, low) : (a : Bound g.row.K.Denot) × AddsUp m.group m.value p m.weight j i (meant m.value a) × Lesser m.group (meant m.value b) (meant m.value a) (meant m.value end.1) = search (rules, tests) in
    (search (rules, tests), (meant m.value after, sum_here m.group m.value p m.weight l k shown j q i inside yes (meant m.value after) exact, low)))
    (f, c.fold.result) folds)
