use Rattle.std.proofs.Common.{◌≡◌, Bool, false, not, List, Some, None, Option, sym, subst, rules}
use Rattle.std.specs.Prelude.{MatchOption}
use Rattle.kinds.specs.declared.bound.Bound.TheVariants.{At}
use Rattle.kinds.specs.declared.kind.Kind.{Ghosts as Meaning}
use Rattle.forks.specs.declared.row.Row.{Row}
use Rattle.deadlines.specs.Queues.{Next, AnyBefore}
use Rattle.deadlines.proofs.Tops.{none_at_all, by_the_smallest}
use Rattle.deadlines.proofs.of_rows.any_before.Goals as goal

told : {K : Type 0} (kind : Meaning K) (rs : List (Row K)) (m : K) (first : Option K) (r : Bool) → MatchOption first (r ≡ false) (λ k. r ≡ not (kind.group.leq (kind.value m) (kind.value k))) → Next kind rs first → AnyBefore kind (At (kind.value m)) rs r
told kind rs m None r is next = subst (AnyBefore kind (At (kind.value m)) rs) (sym is) (none_at_all kind rs next (At (kind.value m)))
told kind rs m (Some k) r is next = by_the_smallest kind rs m k r is next

pub returns : goal.returns
returns g c rs holds = told g.K.Kind rs c.args.moment.now c.next.result c.is_some_and.result (search rules) (c.next.ensures rs holds)
