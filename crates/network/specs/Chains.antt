-- Chains of given bounds, the smallest sum over them, and what contradicts.
use Rattle.std.specs.Prelude.{◌≡◌, ℕ, false}
use Rattle.kinds.specs.Bounds.{Smallest}
use Rattle.kinds.specs.Ordered.{Ordered}
use Rattle.kinds.specs.declared.bound.Bound.{Bound}

-- a chain of given bounds from i to j with its sum; the empty chain from i to i sums to zero
pub data Chain {G : Type 0} (group : Ordered G) (Given : ℕ → ℕ → G → Type 0) : ℕ → ℕ → G → Type 0 where
  empty : {i : ℕ} → Chain group Given i i group.zero
  step : {i j k : ℕ} {c s : G} → Given i k c → Chain group Given k j s → Chain group Given i j (group.plus c s)

module _ {G : Type 0} (group : Ordered G) (Given : ℕ → ℕ → G → Type 0) where
  -- the closed bound from i to j: the smallest sum over all chains, or none where there is no chain
  abbrev pub Closed : ℕ → ℕ → Bound G → Type 0
  Closed i j bound = Smallest group (Chain group Given i j) bound

  -- some cycle sums below zero
  abbrev pub Contradictory : Type 0
  Contradictory = (i : ℕ) × (s : G) × Chain group Given i i s × (group.leq group.zero s ≡ false)
