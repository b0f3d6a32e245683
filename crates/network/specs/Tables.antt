-- A table of bounds: that from variable i to variable j, both counted from 0, lies at 8 i + j.
use Rattle.std.specs.Prelude.{◌≡◌, ℕ, ◌+◌, ◌*◌, ◌<◌, ◌≤◌, Bool, true, List, length, Ok, Err, Result, ◌≢◌, slice_index_or}
use Rattle.kinds.specs.Bounds.{admits, meant}
use Rattle.kinds.specs.Ordered.{Ordered}
use Rattle.kinds.specs.declared.bound.Bound.{Bound}
use Rattle.kinds.specs.declared.bound.Bound.TheVariants.{At, NoBound}
use Rattle.network.specs.Chains.{Closed, Contradictory}
use Rattle.network.specs.declared.closing.Unclosed.{Unclosed}
use Rattle.network.specs.declared.closing.Unclosed.TheVariants.{OutOfRange, NotAdmitted, Contradiction}

abbrev pub cell : ℕ → ℕ → ℕ
cell i j = 8 * i + j

-- the bound from i to j lies in the table
abbrev pub Inside : {X : Type 0} → ℕ → ℕ → List X → Type 0
Inside i j table = (i < 8) × (j < 8) × (64 ≤ length table)

-- 1 to 8 variables, and room for all their bounds
abbrev pub InRange : {X : Type 0} → ℕ → List X → Type 0
InRange n table = (1 ≤ n) × (n ≤ 8) × (64 ≤ length table)

-- a table changed at most among the bounds of its first n variables
abbrev pub Elsewhere : {K : Type 0} → ℕ → List (Bound K) → List (Bound K) → Type 0
Elsewhere n before after = (c : ℕ) → ((i j : ℕ) → i < n → j < n → c ≢ cell i j) → slice_index_or after c NoBound ≡ slice_index_or before c NoBound

-- the memory beyond a table of eight variables stays as it is
abbrev pub Beyond : {K : Type 0} → List (Bound K) → List (Bound K) → Type 0
Beyond before after = (c : ℕ) → 64 ≤ c → slice_index_or after c NoBound ≡ slice_index_or before c NoBound

module _ {K G : Type 0} (value : K → G) where
  abbrev pub entry : List (Bound K) → ℕ → ℕ → Bound G
  entry table i j = meant value (slice_index_or table (cell i j) NoBound)

  -- the bounds that a table gives among its first n variables
  abbrev pub Tabled : ℕ → List (Bound K) → ℕ → ℕ → G → Type 0
  Tabled n table i j c = (i < n) × (j < n) × (entry table i j ≡ At c)

  -- each of them is admitted
  abbrev pub Admitted : (G → Bool) → ℕ → List (Bound K) → Type 0
  Admitted bound n table = (i j : ℕ) → i < n → j < n → admits bound (entry table i j) ≡ true

  -- what closing a table answers and leaves
  abbrev pub Closes : Ordered G → (G → Bool) → ℕ → List (Bound K) → List (Bound K) → Result (Unit {0}) Unclosed → Type 0
  Closes group bound n before after (Ok _) =
      InRange n before × Admitted bound n before × (Contradictory group (Tabled n before) → ⊥)
      × ((i j : ℕ) → i < n → j < n → Closed group (Tabled n before) i j (entry after i j))
  Closes group bound n before after (Err OutOfRange) = (InRange n before → ⊥) × (after ≡ before)
  Closes group bound n before after (Err NotAdmitted) = InRange n before × (Admitted bound n before → ⊥) × (after ≡ before)
  Closes group bound n before after (Err Contradiction) =
      InRange n before × Admitted bound n before × Contradictory group (Tabled n before)
