-- Numbers as they are read and as they are written: digit by digit, within 64 bits, and there and back.
use Rattle.std.proofs.Common.{◌≡◌, ℕ, zero, suc, ◌+◌, ◌-◌, ◌*◌, ◌^◌, ◌<◌, ◌≤◌, Bool, true, false, cond, ◌&&◌, eqb, leb, List, [], ◌∷◌, length, get_or, drop, ℤ, pos, negsuc, Some, None, decimal, Option, sym, refl, ap, ◌∙◌, inl, inr, arith, w64, SFits, to_z, of_z, rules}
use lib.Signed.{le_z, mag}
use Rattle.std.proofs.lemmas.Fmt.{decimal-digits_value, digits_value-decimal, digits_decimal, decimal_nonempty, first_decimal, decimal_digit}
use Rattle.std.proofs.lemmas.List.{drop_all, at_drop_more}
use Rattle.std.proofs.lemmas.Str.Parse.{IsNumeralModel, numerals_by_fold}
use Rattle.std.proofs.lemmas.Int.{to_z-of_z}
use Rattle.std.proofs.lemmas.Bool.{and_parts, and_left, and_right, leb-true, le-leb, lt-leb, cases_Bool, cases_lt, eqb-true, ne_eqb}
use Rattle.std.proofs.lemmas.Bool.Decides.{nat_tests}
use Rattle.std.specs.Bool.{then_some}
use Rattle.std.specs.Option.{option_map}
use Rattle.std.specs.Fmt.{signed_decimal}
use Rattle.text.specs.Numbers.{all_digits, read_on, is_numeral, natural, negative, whole, within, WrittenOneWay}
use Rattle.text.specs.Sizes.{sized, capped}

-- a digit among digits
pub digit_within : (ds : List ℕ) (i : ℕ) → all_digits ds ≡ true → i < length ds → (48 ≤ get_or ds i 0) × (get_or ds i 0 ≤ 57)
digit_within [] i h l = absurd (omega arith)
digit_within (c ∷ cs) zero h l =
    let p = and_parts (leb 48 c && leb c 57) (all_digits cs) h in
    let q = and_parts (leb 48 c) (leb c 57) p.0 in
    (leb-true 48 c q.0, leb-true c 57 q.1)
digit_within (c ∷ cs) (suc i) h l = digit_within cs i (and_parts (leb 48 c && leb c 57) (all_digits cs) h).1 (omega arith)

pub sized_past : (n : ℕ) → 2 ^ 63 < n → sized n ≡ None
sized_past n h = rw (lt-leb n (2 ^ 63) h)

pub sized_kept : (n : ℕ) → then_some (leb n (2 ^ 63)) n ≡ sized n
sized_kept n = by_test (leb n (2 ^ 63))
  where
    by_test : (b : Bool) → then_some b n ≡ cond b (Some n) None
    by_test true = refl
    by_test false = refl

-- a number only grows with more digits
pub read_on_grows : (n : ℕ) (ds : List ℕ) → n ≤ read_on n ds
read_on_grows n [] = omega arith
read_on_grows n (c ∷ cs) = omega (arith, read_on_grows (10 * n + (c - 48)) cs)

-- a step of the reading of digits, and its end
pub read_more : (n : ℕ) (ds : List ℕ) (i : ℕ) → i < length ds → read_on n (drop i ds) ≡ read_on (n * 10 + (get_or ds i 0 - 48)) (drop (i + 1) ds)
read_more n ds i l =
    let e : 10 * n + (get_or ds i 0 - 48) ≡ n * 10 + (get_or ds i 0 - 48) = omega arith in
    at_drop_more (read_on n) ds i 0 l ∙ ap (λ m. read_on m (drop (i + 1) ds)) e

-- where that step is past the limit, the whole is: a number only grows with more digits
pub read_past : (n : ℕ) (ds : List ℕ) (i : ℕ) → i < length ds → read_on n (drop i ds) ≡ read_on 0 ds → 2 ^ 63 < n * 10 + (get_or ds i 0 - 48) → sized (read_on 0 ds) ≡ None
read_past n ds i l sofar h =
    let more = read_more n ds i l in
    sized_past (read_on 0 ds) (omega (arith, read_on_grows (n * 10 + (get_or ds i 0 - 48)) (drop (i + 1) ds)))

pub read_none : (n : ℕ) (ds : List ℕ) (i : ℕ) → length ds ≤ i → read_on n (drop i ds) ≡ n
read_none n ds i h = rw (drop_all i ds h)

-- the code's limit is the range from -2 ^ 63 to 2 ^ 63
pub capped-negative : (o : Option ℕ) → negative (capped o) ≡ within (negsuc (2 ^ 63 - 1)) (pos (2 ^ 63)) (negative o)
capped-negative None = refl
capped-negative (Some zero) = refl
capped-negative (Some (suc n)) =
    elim (cases_lt (2 ^ 63 - 1) n) [
      | inl l ↦ let k : 2 ^ 63 < suc n = omega arith in rw (lt-leb (suc n) (2 ^ 63) k, lt-leb n (2 ^ 63 - 1) l)
      | inr g ↦ let k : suc n ≤ 2 ^ 63 = omega arith in rw (le-leb (suc n) (2 ^ 63) k, le-leb n (2 ^ 63 - 1) g)
    ]

too_high : (high : ℤ) (n : ℕ) → mag high < 2 ^ 63 → 2 ^ 63 < n → le_z (pos n) high ≡ false
too_high (pos h) n a l = lt-leb n h (omega arith)
too_high (negsuc h) n a l = refl

too_low : (low : ℤ) (n : ℕ) → mag low < 2 ^ 63 → 2 ^ 63 - 1 < n → le_z low (negsuc n) ≡ false
too_low (pos l) n a h = refl
too_low (negsuc l) n a h = lt-leb n l (omega arith)

-- which takes nothing from a range of 64 bits
pub within-range :
    (low high : ℤ) (o : Option ℤ) → mag low < 2 ^ 63 → mag high < 2 ^ 63 →
    within low high (within (negsuc (2 ^ 63 - 1)) (pos (2 ^ 63)) o) ≡ within low high o
within-range low high None a b = refl
within-range low high (Some (pos n)) a b =
    elim (cases_lt (2 ^ 63) n) [
      | inl l ↦ rw (lt-leb n (2 ^ 63) l, and_right (le_z low (pos n)) (le_z (pos n) high) (too_high high n b l))
      | inr g ↦ rw (le-leb n (2 ^ 63) g)
    ]
within-range low high (Some (negsuc n)) a b =
    elim (cases_lt (2 ^ 63 - 1) n) [
      | inl l ↦ rw (lt-leb n (2 ^ 63 - 1) l, and_left (le_z low (negsuc n)) (le_z (negsuc n) high) (too_low low n a l))
      | inr g ↦ rw (le-leb n (2 ^ 63 - 1) g)
    ]

-- limits that were passed on
pub within-passed :
    (low high : ℤ) (o r : Option ℤ) → SFits w64 low → SFits w64 high →
    r ≡ within (to_z w64 (of_z w64 low)) (to_z w64 (of_z w64 high)) o → r ≡ within low high o
within-passed low high o r a b e = rw (to_z-of_z w64 low a, to_z-of_z w64 high b) at e

-- the shelf's laws of decimals, for the words here
own : IsNumeralModel (λ ds. all_digits ds ≡ true) (read_on 0)
own = numerals_by_fold (λ ds. all_digits ds ≡ true) (search rules) read_on (search rules)

numeral_made : (ds : List ℕ) → all_digits ds ≡ true → 0 < length ds → (get_or ds 0 0 ≡ 48 → length ds ≡ 1) → is_numeral ds ≡ true
numeral_made ds a l z = grind (arith, nat_tests)

pub numeral_parts : (ds : List ℕ) → is_numeral ds ≡ true → (all_digits ds ≡ true) × (0 < length ds) × (get_or ds 0 0 ≡ 48 → length ds ≡ 1)
numeral_parts ds h = (grind (arith, nat_tests), grind (arith, nat_tests), grind (arith, nat_tests))

-- a number without a sign is its decimal writing
natural_decimal : (n : ℕ) → n < 2 ^ 64 → natural (decimal n) ≡ Some n
natural_decimal n h =
    let d = digits_decimal own n h in
    let s = decimal_nonempty n h in
    rw (numeral_made (decimal n) d s (zero_alone n h), digits_value-decimal own n h)
  where
    zero_alone : (n : ℕ) → n < 2 ^ 64 → get_or (decimal n) 0 0 ≡ 48 → length (decimal n) ≡ 1
    zero_alone zero h e = ap length (decimal_digit 0 (omega arith))
    zero_alone (suc n) h e = absurd (omega (arith, first_decimal (suc n) (omega arith) h))

decimal_natural : (ds : List ℕ) (n : ℕ) → n < 2 ^ 64 → natural ds ≡ Some n → ds ≡ decimal n
decimal_natural ds n h e =
    elim (cases_Bool (is_numeral ds)) [
      | inl t ↦
          let p = numeral_parts ds t in
          let v : read_on 0 ds ≡ n = let k = rw t at e in cc in
          sym (decimal-digits_value own ds p.0 p.1 p.2 (omega arith)) ∙ ap decimal v
      | inr f ↦ let k = rw f at e in let z : ◌≡◌ {A = ℕ} 0 1 = cc in absurd (omega arith)
    ]

pub whole_signed : (z : ℤ) → mag z < 2 ^ 63 → whole (signed_decimal z) ≡ Some z
whole_signed (pos n) h =
    let l : n < 2 ^ 64 = omega arith in
    let d = digit_within (decimal n) 0 (digits_decimal own n l) (decimal_nonempty n l) in
    rw (ne_eqb (get_or (decimal n) 0 0) 45 (λ e. omega arith), natural_decimal n l)
whole_signed (negsuc n) h = ap negative (natural_decimal (suc n) (omega arith))

pub signed_whole : (field : List ℕ) (z : ℤ) → mag z < 2 ^ 63 → whole field ≡ Some z → field ≡ signed_decimal z
signed_whole [] z h e = let k : ◌≡◌ {A = ℕ} 0 1 = cc in absurd (omega arith)
signed_whole (c ∷ cs) z h e =
    elim (cases_Bool (eqb c 45)) [
      | inl t ↦ let q = eqb-true c 45 t in rw q (below (natural cs) z h (rw t at e) (decimal_natural cs))
      | inr f ↦ above (natural (c ∷ cs)) z h (rw f at e) (decimal_natural (c ∷ cs))
    ]
  where
    below :
        (o : Option ℕ) (z : ℤ) → mag z < 2 ^ 63 → negative o ≡ Some z →
        ((n : ℕ) → n < 2 ^ 64 → o ≡ Some n → cs ≡ decimal n) → 45 ∷ cs ≡ signed_decimal z
    below None z h e k = let q : ◌≡◌ {A = ℕ} 0 1 = cc in absurd (omega arith)
    below (Some zero) z h e k = let q : ◌≡◌ {A = ℕ} 0 1 = cc in absurd (omega arith)
    below (Some (suc n)) (pos m) h e k = let q : ◌≡◌ {A = ℕ} 0 1 = cc in absurd (omega arith)
    below (Some (suc n)) (negsuc m) h e k =
        let q : n ≡ m = cc in
        ap (λ ds. 45 ∷ ds) (k (suc n) (omega arith) refl) ∙ ap (λ n. 45 ∷ decimal (suc n)) q

    above :
        (o : Option ℕ) (z : ℤ) → mag z < 2 ^ 63 → option_map pos o ≡ Some z →
        ((n : ℕ) → n < 2 ^ 64 → o ≡ Some n → c ∷ cs ≡ decimal n) → c ∷ cs ≡ signed_decimal z
    above None z h e k = let q : ◌≡◌ {A = ℕ} 0 1 = cc in absurd (omega arith)
    above (Some n) (negsuc m) h e k = let q : ◌≡◌ {A = ℕ} 0 1 = cc in absurd (omega arith)
    above (Some n) (pos m) h e k = let q : n ≡ m = cc in k n (omega arith) refl ∙ ap decimal q

pub written_one_way : WrittenOneWay
written_one_way z h field = (signed_whole field z h, λ e. ap whole e ∙ whole_signed z h)
