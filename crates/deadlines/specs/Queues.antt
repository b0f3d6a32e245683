-- What a queue says of the rows whose deadlines it holds.
use Rattle.std.specs.Prelude.{◌≡◌, Bool, true, false, List, map, Some, None, Option}
use Rattle.std.specs.List.{ContainsAt as Has, AllByRecursion}
use Rattle.std.specs.List.Sorted.{IsPermutation}
use Rattle.kinds.specs.declared.bound.Bound.{Bound}
use Rattle.kinds.specs.declared.bound.Bound.TheVariants.{At, NoBound}
use Rattle.kinds.specs.declared.kind.Kind.{Ghosts as Meaning}
use Rattle.kinds.specs.Bounds.{at_most, meant}
use Rattle.forks.specs.declared.row.Row.{Row}
use Rattle.queue.specs.declared.heap.Heap.{Heap}
use Rattle.queue.specs.Heaps.{Heaped}
use Rattle.queue.specs.Held.{held}
use Rattle.deadlines.specs.declared.due.Due.{Due}
use Rattle.deadlines.specs.Ranking.{no_later}

abbrev pub due_of : {K : Type 0} → Row K → Due K
due_of r = record { at = r.deadline }

module _ {K : Type 0} (kind : Meaning K) where
  -- the queue holds the deadlines of just these rows, and is in order
  pub record QueueHolds (rs : List (Row K)) (q : Heap (Due K)) : Type 0 where
    pub bag : IsPermutation (map due_of rs) (held q)
    pub order : Heaped (no_later kind) (held q)

  -- what the deadline of a row means
  abbrev pub deadline : Row K → Bound kind.G
  deadline r = meant kind.value r.deadline

  -- no deadline of these rows is before b
  abbrev pub NoneBefore : Bound kind.G → List (Row K) → Type 0
  NoneBefore b rs = AllByRecursion (λ r. at_most kind.group b (deadline r) ≡ true) rs

  -- d is the smallest deadline of these rows; absent where none has one
  unfoldable pub Next : List (Row K) → Option K → Type 0
  Next rs None = AllByRecursion (λ r. deadline r ≡ NoBound) rs
  Next rs (Some d) = ((r : Row K) × Has rs r × (deadline r ≡ At (kind.value d))) × NoneBefore (At (kind.value d)) rs

  -- the deadline at the top of a queue is the smallest of these rows
  abbrev pub Top : List (Row K) → Option (Due K) → Type 0
  Top rs None = Next rs None
  Top rs (Some d) = (d.at ≡ NoBound → Next rs None) × ((k : K) → d.at ≡ At k → Next rs (Some k))

  -- whether some deadline of these rows is before b
  abbrev pub AnyBefore : Bound kind.G → List (Row K) → Bool → Type 0
  AnyBefore b rs false = NoneBefore b rs
  AnyBefore b rs true = (r : Row K) × Has rs r × (at_most kind.group b (deadline r) ≡ false)
