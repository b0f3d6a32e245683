-- The order within a heap, and the element that leads it.
use Rattle.std.specs.Prelude.{◌≡◌, ℕ, ◌+◌, ◌*◌, ◌<◌, ◌≤◌, Bool, true, List, [], ◌∷◌, length, Some, None, Option, slice_index_or}
use Rattle.std.specs.List.{ContainsAt, AllByRecursion}

-- no parent from `low` on comes later than a child of it; the children of p are at 2p + 1 and 2p + 2
pub record HeapedFrom {X : Type 0} (leq : X → X → Bool) (low : ℕ) (xs : List X) : Type 0 where
  pub over : (p k : ℕ) (d : X) → low ≤ p → p * 2 + 1 ≤ k → k ≤ p * 2 + 2 → k < length xs → leq (slice_index_or xs p d) (slice_index_or xs k d) ≡ true

abbrev pub Heaped : {X : Type 0} → (X → X → Bool) → List X → Type 0
Heaped leq xs = HeapedFrom leq 0 xs

abbrev pub first : {X : Type 0} → List X → Option X
first [] = None
first (x ∷ xs) = Some x

-- x is one of xs and comes no later than any; none where there is none
abbrev pub Leads : {X : Type 0} → (X → X → Bool) → List X → Option X → Type 0
Leads leq xs None = xs ≡ []
Leads leq xs (Some x) = ContainsAt xs x × AllByRecursion (λ y. leq x y ≡ true) xs
