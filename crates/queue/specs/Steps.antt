-- What the steps of a heap find out.
use Rattle.std.specs.Prelude.{◌≡◌, ℕ, ◌+◌, ◌*◌, ◌<◌, ◌≤◌, Bool, true, List, length, slice_index_or}

module _ {X : Type 0} (leq : X → X → Bool) where
  -- r says whether the element at i comes no later than the one at j
  abbrev pub Tells : ℕ → ℕ → List X → Bool → Type 0
  Tells i j xs r = (d : X) → leq (slice_index_or xs i d) (slice_index_or xs j d) ≡ r

  -- c is a child of j that comes no later than any
  pub record Foremost (j c : ℕ) (xs : List X) : Type 0 where
    pub above : j * 2 + 1 ≤ c
    pub below : c ≤ j * 2 + 2
    pub inside : c < length xs
    pub first : (k : ℕ) (d : X) → j * 2 + 1 ≤ k → k ≤ j * 2 + 2 → k < length xs → leq (slice_index_or xs c d) (slice_index_or xs k d) ≡ true
