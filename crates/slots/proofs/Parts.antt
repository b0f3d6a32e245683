-- What writing the part of one slot leaves of the parts of all.
use Rattle.std.proofs.Common.{◌≡◌, ℕ, ◌+◌, ◌-◌, ◌*◌, ◌≤◌, leb, List, ◌++◌, length, take, drop, MatchBool, sym, ap, ◌∙◌, subst, ⊎_elim, arith}
use borrow.Rule.Slice.PartMut.{put_mid}
use Rattle.std.proofs.lemmas.List.{drop-take, length-append, length-take, length-drop}
use Rattle.std.proofs.lemmas.Slice.{take-put_mid_below, drop-put_mid, between-put_mid}
use Rattle.std.proofs.lemmas.Bool.{cases_order, le-leb}
use Rattle.slots.specs.Loads.{slot_table, OthersKept}

module _ {X : Type 0} (s start k : ℕ) (xs ys : List X) (at-start : start ≡ 64 * (s - 1)) (whole : k ≡ 64) (one : 1 ≤ s) (room : start + 64 ≤ length xs) (long : length ys ≡ k) where
  pub part_written : slot_table s (put_mid start k xs ys) ≡ ys
  part_written =
      ap (λ n. take 64 (drop n (put_mid start k xs ys))) (sym at-start)
      ∙ ap (λ n. take n (drop start (put_mid start k xs ys))) (let e : 64 ≡ (start + 64) - start = omega arith in e)
      ∙ between-put_mid start k xs ys (start + 64) (omega arith) (omega arith)

  below : (n : ℕ) → n + 64 ≤ start → take 64 (drop n (put_mid start k xs ys)) ≡ take 64 (drop n xs)
  below n h = sym (drop-take n 64 (put_mid start k xs ys)) ∙ ap (drop n) (take-put_mid_below start k xs ys (n + 64) h (omega arith)) ∙ drop-take n 64 xs

  above : (n : ℕ) → start + 64 ≤ n → take 64 (drop n (put_mid start k xs ys)) ≡ take 64 (drop n xs)
  above n h = ap (take 64) (drop-put_mid start k xs ys n (omega arith) (omega arith) long)

  pub others_kept : OthersKept s xs (put_mid start k xs ys)
  others_kept t one' other = ⊎_elim
      (λ e. absurd (other e))
      (⊎_elim (λ h. below (64 * (t - 1)) (omega arith)) (λ h. above (64 * (t - 1)) (omega arith)))
      (cases_order t s)

  pub memory_kept : length (put_mid start k xs ys) ≡ length xs
  memory_kept =
      length-append (take start xs) (ys ++ drop k (drop start xs))
      ∙ (let front = length-take start xs in let back = length-append ys (drop k (drop start xs)) in let rest = length-drop k (drop start xs) in let tail = length-drop start xs in omega arith)

-- a part of 64 entries
pub part_long : {X : Type 0} (start k : ℕ) (xs : List X) → k ≡ 64 → start + 64 ≤ length xs → length (take k (drop start xs)) ≡ 64
part_long start k xs whole room = simp (length-take, length-drop) (omega arith)

pub when_long : (P Q : Type 0) (n : ℕ) → 64 ≤ n → MatchBool (leb 64 n) P Q → P
when_long P Q n h w = subst (λ b. MatchBool b P Q) (le-leb 64 n h) w
