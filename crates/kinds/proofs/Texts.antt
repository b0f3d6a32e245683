-- What is written is read back.
use Rattle.std.proofs.Common.{◌≡◌, ℕ, suc, ◌^◌, ◌<◌, ◌≤◌, true, not, ◌&&◌, eqb, leb, List, [], ◌∷◌, length, ℤ, pos, negsuc, Some, decimal, refl, ap, ◌∙◌, arith, rules}
use lib.Signed.{mag}
use Rattle.std.specs.Fmt.{signed_decimal}
use Rattle.std.proofs.lemmas.Fmt.{digits_decimal, length_signed_le}
use Rattle.std.proofs.lemmas.Str.Parse.{numerals_by_fold}
use Rattle.std.proofs.lemmas.Bool.{and_from, and_parts, leb-true, ne_eqb, not_from_false, cond-true}
use Rattle.text.specs.Numbers.{all_digits, read_on, within}
use Rattle.text.specs.Split.{split, without}
use Rattle.text.proofs.Splits.{split-before, split-whole}
use Rattle.text.proofs.Wholes.{whole_signed}
use Rattle.kinds.specs.TickOrder.{at_most}
use Rattle.kinds.specs.PairOrder.{pair}
use Rattle.kinds.specs.Fields.{long, tick_means, pair_means, both, pair_text}
use Rattle.std.proofs.lemmas.Int.{ints}

pub long_signed : (z : ℤ) → mag z < 2 ^ 63 → long (signed_decimal z) ≡ Some z
long_signed z h =
    ap (within (negsuc 9223372036854775807) (pos 9223372036854775807)) (whole_signed z h)
    ∙ cond-true _ _ _ (and_from _ _ (at_most (negsuc 9223372036854775807) z (omega (arith, ints))) (at_most z (pos 9223372036854775807) (omega (arith, ints))))

decimal_digits : (n : ℕ) → n < 2 ^ 64 → all_digits (decimal n) ≡ true
decimal_digits = digits_decimal (numerals_by_fold (λ ds. all_digits ds ≡ true) (search rules) read_on (search rules))

-- no byte of a number is a tab
digits_clear : (ds : List ℕ) → all_digits ds ≡ true → without 9 ds ≡ true
digits_clear [] h = refl
digits_clear (d ∷ ds) h =
    let p = and_parts (leb 48 d && leb d 57) (all_digits ds) h in
    let q = leb-true 48 d (and_parts (leb 48 d) (leb d 57) p.0).0 in
    and_from (not (eqb d 9)) (without 9 ds) (not_from_false _ (ne_eqb d 9 (λ e. omega arith))) (digits_clear ds p.1)

pub signed_clear : (z : ℤ) → mag z < 2 ^ 63 → without 9 (signed_decimal z) ≡ true
signed_clear (pos n) h = digits_clear (decimal n) (decimal_digits n (omega arith))
signed_clear (negsuc n) h = digits_clear (decimal (suc n)) (decimal_digits (suc n) (omega arith))

pub tick_back : (z : ℤ) → mag z < 2 ^ 63 → tick_means (split 9 (signed_decimal z)) ≡ Some z
tick_back z h = ap tick_means (split-whole 9 (signed_decimal z) (signed_clear z h)) ∙ long_signed z h

pub pair_back : (t p : ℤ) → mag t < 2 ^ 63 → mag p < 2 ^ 63 → pair_means (split 9 (pair_text t p)) ≡ Some (pair t p)
pair_back t p h k =
    ap pair_means (split-before 9 (signed_decimal t) (signed_decimal p) (signed_clear t h) ∙ ap (λ ps. signed_decimal t ∷ ps) (split-whole 9 (signed_decimal p) (signed_clear p k)))
    ∙ ap (λ a. both a (long (signed_decimal p))) (long_signed t h) ∙ ap (both (Some t)) (long_signed p k)

pub signed_short : (z : ℤ) → mag z < 2 ^ 63 → length (signed_decimal z) ≤ 20
signed_short z h = length_signed_le 19 z (omega arith) h
