-- Two elements in each other's place, as `swap` leaves them.
use Rattle.std.proofs.Common.{◌≡◌, ℕ, List, length, get_or, ap, ◌∙◌}
use Rattle.std.specs.List.Sorted.{IsPermutation}
use Rattle.std.proofs.lemmas.List.Sorted.{length_permutation}

pub record Swapped {X : Type 0} (xs ys : List X) (a b : ℕ) : Type 0 where
  pub long : length ys ≡ length xs
  pub first : (m : ℕ) (d : X) → m ≡ a → get_or ys m d ≡ get_or xs b d
  pub second : (m : ℕ) (d : X) → m ≡ b → get_or ys m d ≡ get_or xs a d
  pub other : (m : ℕ) (d : X) → (m ≡ a → ⊥) → (m ≡ b → ⊥) → get_or ys m d ≡ get_or xs m d

pub swapped : {X : Type 0} (xs ys : List X) (a b : ℕ) → IsPermutation xs ys
    → ((d : X) → get_or ys a d ≡ get_or xs b d) → ((d : X) → get_or ys b d ≡ get_or xs a d)
    → ((k : ℕ) (d : X) → (k ≡ a → ⊥) → (k ≡ b → ⊥) → get_or ys k d ≡ get_or xs k d) → Swapped xs ys a b
swapped xs ys a b bag first second other = record {
  long = length_permutation xs ys bag;
  first = λ m d e. ap (λ n. get_or ys n d) e ∙ first d;
  second = λ m d e. ap (λ n. get_or ys n d) e ∙ second d;
  other = other;
}
