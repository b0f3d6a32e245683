-- What `all` over a range decides.
use Rattle.std.proofs.Common.{ℕ, ◌<◌, Bool, true, false, length, Decides, MatchBool, ◌∙◌, subst, refl, zero-add, arith}
use Rattle.std.proofs.lemmas.Bool.{false≢true}
use Rattle.std.specs.List.{AllWithin, HoldsAt, range_with_len}
use Rattle.std.proofs.lemmas.List.FromFn.{get_or-range_with_len, length-range_with_len}

module _ (n : ℕ) (Yes No : ℕ → Type 0) (apart : (j : ℕ) → Yes j → No j → ⊥) where
  pub decides_below : (r : Bool) → MatchBool r (AllWithin Yes (range_with_len 0 n) 0 (length (range_with_len 0 n))) ((k : ℕ) × (k < length (range_with_len 0 n)) × HoldsAt No (range_with_len 0 n) k) → Decides r ((j : ℕ) → j < n → Yes j)
  decides_below true all = (λ _ j h. subst Yes (get_or-range_with_len 0 n j 0 h ∙ zero-add j) (all j 0 (omega arith) (omega (arith, length-range_with_len 0 n))), λ _. refl)
  decides_below false (k, h, misses) = (λ e. absurd (false≢true e), λ all. let l : k < n = omega (arith, length-range_with_len 0 n) in absurd (apart k (all k l) (subst No (get_or-range_with_len 0 n k 0 l ∙ zero-add k) (misses 0))))
