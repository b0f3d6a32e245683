-- The law of every history from what its calls owe.
use Rattle.std.proofs.Common.{List, [], ◌∷◌, ◌++◌, sym, subst}
use Rattle.kinds.specs.Ordered.{Ordered}
use Rattle.kinds.specs.declared.kind.Kind.{Ghosts as Meaning}
use Rattle.law.specs.Histories.{Act}
use Rattle.law.specs.Laws.{Moment, LawFollows}
use Rattle.law.specs.Refusals.{Lent}
use Rattle.law.specs.Telling.{Lawful}
use Rattle.law.proofs.Clocks.{clocks_alike}
use Rattle.law.proofs.Telling.{lawful_tells}

-- what was lawful stays so
pub lawful_then : {G : Type 0} (group : Ordered G) (g a : List (Act G)) → Moment g a → Lawful group a → Lawful group g
lawful_then {G} group g a (later, is-a) lawful = go later (subst (Lawful group) (sym is-a) lawful)
  where
    go : (later : List (Act G)) → Lawful group (later ++ g) → Lawful group g
    go [] l = l
    go (x ∷ xs) (owes, rows, l) = go xs l

pub law_follows_lem : {K : Type 0} (kind : Meaning K) (lent : Lent) → LawFollows kind lent
law_follows_lem kind lent h rows answered lawful reads = record {
  answers = answered;
  calls = lawful;
  rows_held = reads;
  lines_told = λ g m. lawful_tells kind.group g (lawful_then kind.group g _ m lawful);
  clocks = λ other lawful' f g m n parallel. clocks_alike kind.group f g (lawful_then kind.group f _ m lawful) (lawful_then kind.group g _ n lawful') parallel;
}
