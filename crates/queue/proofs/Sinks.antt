-- An element sinks in a heap, past each foremost child that comes before it.
use Rattle.std.proofs.Common.{◌≡◌, ℕ, ◌+◌, ◌*◌, ◌<◌, ◌≤◌, Bool, true, false, List, length, get_or, ◌∙◌, ⊎_elim, arith}
use Rattle.std.specs.List.Sorted.{IsPermutation}
use Rattle.std.proofs.lemmas.List.Sorted.{IsPermutation-trans}
use Rattle.std.proofs.lemmas.Bool.{cases_eq}
use Rattle.queue.specs.Ranks.{Ranks}
use Rattle.queue.specs.Heaps.{HeapedFrom}
use Rattle.queue.specs.Steps.{Tells, Foremost}
use Rattle.queue.proofs.Order.{Past, alike, turned}
use Rattle.queue.proofs.Swaps.{Swapped}

module _ {X : Type 0} (leq : X → X → Bool) where
  -- a heap from `low` on but for the element at j, which may come after its children
  pub record Sinking (low j : ℕ) (xs : List X) : Type 0 where
    pub rest : (p k : ℕ) (d : X) → low ≤ p → p * 2 + 1 ≤ k → k ≤ p * 2 + 2 → k < length xs → (p ≡ j → ⊥) → leq (get_or xs p d) (get_or xs k d) ≡ true
    pub past : Past leq low j xs

  -- what began at `root` in xs has sunk to `place` in ys
  pub record Sunk (root : ℕ) (xs : List X) (place : ℕ) (ys : List X) : Type 0 where
    pub above : root ≤ place
    pub shuffled : IsPermutation xs ys
    pub sinking : HeapedFrom leq (root + 1) xs → Sinking root place ys

  module _ (o : Ranks leq) (low j c : ℕ) (xs : List X) (best : Foremost leq j c xs) (ys : List X) (s : Swapped xs ys j c) {r : Bool} (t : Tells leq j c xs r) (later : r ≡ false) (from : low ≤ j) where
    sinks : Sinking low j xs → Sinking low c ys
    sinks was = record {
      rest = λ p k d a b e h p≢c. ⊎_elim
          (λ is. ⊎_elim
          (λ at_c. alike leq (s.first p d is) (s.second k d at_c) (turned leq o _ _ (t d ∙ later)))
          (λ k≢c. alike leq (s.first p d is) (s.other k d (omega arith) k≢c) (best.first k d (omega arith) (omega arith) (omega arith)))
          (cases_eq k c))
          (λ p≢j. ⊎_elim
          (λ at_j. alike leq (s.other p d p≢j p≢c) (s.first k d at_j) (was.past p c d a (omega arith) (omega arith) best.above best.below best.inside))
          (λ k≢j. alike leq (s.other p d p≢j p≢c) (s.other k d k≢j (omega (arith, best.above, best.below))) (was.rest p k d a b e (omega arith) p≢j))
          (cases_eq k j))
          (cases_eq p j);
      past = λ p k d a b e f g h. alike leq (s.first p d (omega (arith, best.above, best.below))) (s.other k d (omega (arith, best.above)) (omega arith)) (was.rest c k d (omega (arith, best.above)) f g (omega arith) (omega (arith, best.above)));
    }

    pub sunk_more : (ws : List X) → IsPermutation xs ys → Sunk low ws j xs → Sunk low ws c ys
    sunk_more ws bag sofar = record {
      above = omega (arith, best.above);
      shuffled = IsPermutation-trans ws xs ys sofar.shuffled bag;
      sinking = λ h. sinks (sofar.sinking h);
    }
