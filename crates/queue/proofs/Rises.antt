-- An element rises in a heap, past each parent that comes after it.
use Rattle.std.proofs.Common.{◌≡◌, ℕ, ◌+◌, ◌-◌, ◌*◌, ◌/◌, ◌<◌, ◌≤◌, Bool, true, false, List, length, get_or, take, ◌∙◌, ⊎_elim, arith}
use Rattle.std.specs.List.Sorted.{IsPermutation}
use Rattle.std.proofs.lemmas.List.Sorted.{IsPermutation-trans}
use Rattle.std.proofs.lemmas.Bool.{cases_eq}
use Rattle.queue.specs.Ranks.{Ranks}
use Rattle.queue.specs.Heaps.{Heaped}
use Rattle.queue.specs.Steps.{Tells}
use Rattle.queue.proofs.Order.{Past, alike, turned}
use Rattle.queue.proofs.Swaps.{Swapped}

module _ {X : Type 0} (leq : X → X → Bool) where
  -- a heap but for the element at j, which may come before its parent
  pub record Rising (j : ℕ) (xs : List X) : Type 0 where
    pub rest : (p k : ℕ) (d : X) → p * 2 + 1 ≤ k → k ≤ p * 2 + 2 → k < length xs → (k ≡ j → ⊥) → leq (get_or xs p d) (get_or xs k d) ≡ true
    pub past : Past leq 0 j xs

  -- the last of xs has risen to `place` in ys
  pub record Risen (xs : List X) (place : ℕ) (ys : List X) : Type 0 where
    pub within : place < length ys
    pub shuffled : IsPermutation xs ys
    pub rising : Heaped leq (take (length xs - 1) xs) → Rising place ys

  module _ (j : ℕ) (xs : List X) (some : 0 < j) (o : Ranks leq) (ys : List X) (inside : j < length xs) (s : Swapped xs ys ((j - 1) / 2) j) {r : Bool} (t : Tells leq ((j - 1) / 2) j xs r) (later : r ≡ false) where
    sooner : (d : X) → leq (get_or xs j d) (get_or xs ((j - 1) / 2) d) ≡ true
    sooner d = turned leq o _ _ (t d ∙ later)

    rises : Rising j xs → Rising ((j - 1) / 2) ys
    rises was = record {
      rest = λ p k d a b h k≢up. ⊎_elim
          (λ e. alike leq (s.first p d (omega arith)) (s.second k d e) (sooner d))
          (λ k≢j. ⊎_elim
          (λ e. alike leq (s.first p d e) (s.other k d k≢up k≢j) (o.chain _ _ _ (sooner d) (was.rest ((j - 1) / 2) k d (omega arith) (omega arith) (omega arith) k≢j)))
          (λ p≢up. ⊎_elim
          (λ e. alike leq (s.second p d e) (s.other k d k≢up k≢j) (was.past ((j - 1) / 2) k d (omega arith) (omega arith) (omega arith) (omega arith) (omega arith) (omega arith)))
          (λ p≢j. alike leq (s.other p d p≢up p≢j) (s.other k d k≢up k≢j) (was.rest p k d a b (omega arith) k≢j))
          (cases_eq p j))
          (cases_eq p ((j - 1) / 2)))
          (cases_eq k j);
      past = λ p k d _ a b e f h.
          let over = was.rest p ((j - 1) / 2) d a b (omega arith) (omega arith) in
          let kept = s.other p d (omega arith) (omega arith) in
          ⊎_elim
          (λ is. alike leq kept (s.second k d is) over)
          (λ k≢j. alike leq kept (s.other k d (omega arith) k≢j) (o.chain _ _ _ over (was.rest ((j - 1) / 2) k d e f (omega arith) k≢j)))
          (cases_eq k j);
    }

    pub risen_more : (ws : List X) → IsPermutation xs ys → Risen ws j xs → Risen ws ((j - 1) / 2) ys
    risen_more ws bag sofar = record { within = omega (arith, s.long); shuffled = IsPermutation-trans ws xs ys sofar.shuffled bag; rising = λ r. rises (sofar.rising r) }
