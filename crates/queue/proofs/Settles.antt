-- All elements come into order, one parent after the other.
use Rattle.std.proofs.Common.{ℕ, ◌+◌, ◌-◌, ◌<◌, Bool, List, arith}
use Rattle.std.specs.List.Sorted.{IsPermutation}
use Rattle.std.proofs.lemmas.List.Sorted.{IsPermutation-trans}
use Rattle.queue.specs.Heaps.{HeapedFrom}

module _ {X : Type 0} (leq : X → X → Bool) where
  -- ys is xs with the parents from `low` on above their children
  pub record Settling (low : ℕ) (xs ys : List X) : Type 0 where
    pub shuffled : IsPermutation xs ys
    pub heaped : HeapedFrom leq low ys

  pub settling_more : (low : ℕ) (xs ys zs : List X) → 0 < low → IsPermutation ys zs → (HeapedFrom leq (low - 1 + 1) ys → HeapedFrom leq (low - 1) zs) → Settling low xs ys → Settling (low - 1) xs zs
  settling_more low xs ys zs some bag sinks sofar = record {
    shuffled = IsPermutation-trans xs ys zs sofar.shuffled bag;
    heaped = sinks (record { over = λ p k d a. sofar.heaped.over p k d (omega arith) });
  }
