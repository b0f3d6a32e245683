-- What the proofs of rising and sinking share.
use Rattle.std.proofs.Common.{◌≡◌, ℕ, ◌+◌, ◌*◌, ◌<◌, ◌≤◌, Bool, true, false, List, length, get_or, ◌∙◌, ⊎_elim}
use Rattle.std.proofs.lemmas.Bool.{both_ways}
use Rattle.queue.specs.Ranks.{Ranks}

module _ {X : Type 0} (leq : X → X → Bool) where
  -- the parent of j, from `low` on, comes no later than the children of j
  abbrev pub Past : ℕ → ℕ → List X → Type 0
  Past low j xs = (p k : ℕ) (d : X) → low ≤ p → p * 2 + 1 ≤ j → j ≤ p * 2 + 2 → j * 2 + 1 ≤ k → k ≤ j * 2 + 2 → k < length xs → leq (get_or xs p d) (get_or xs k d) ≡ true

  -- the test answers alike of equals
  pub alike : {a b x y : X} → a ≡ x → b ≡ y → leq x y ≡ true → leq a b ≡ true
  alike p q h = (λ k. leq (p k) (q k)) ∙ h

  module _ (o : Ranks leq) where
    pub itself : (x : X) → leq x x ≡ true
    itself x = ⊎_elim (λ h. h) (λ h. h) (o.total x x)

    pub turned : (x y : X) → leq x y ≡ false → leq y x ≡ true
    turned x y no_later = ⊎_elim (λ h. absurd (both_ways (leq x y) no_later h)) (λ h. h) (o.total x y)
