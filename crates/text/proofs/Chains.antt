-- The words of a text as the library's words, which its chains of iterators answer.
use Rattle.std.proofs.Common.{◌≡◌, ℕ, ◌+◌, ◌-◌, ◌<◌, ◌≤◌, ◌&&◌, cond, eqb, Option, List, [], ◌∷◌, length, refl, ap, inl, inr, arith}
use Rattle.std.proofs.lemmas.Bool.{cases_Bool, cases_lt, lt-ltb, le-ltb}
use Rattle.std.proofs.lemmas.List.Recursion.{is_position_or_len, is_count_by}
use Rattle.std.specs.Char.{is_ascii_digit}
use Rattle.std.specs.List.{list_all, count_by, position, position_or_len}
use Rattle.std.specs.Option.{unwrap_or}
use Rattle.text.specs.Numbers.{all_digits}
use Rattle.text.specs.Split.{split, before, first_place}
use Rattle.text.proofs.Splits.{split_some_part}

pub digits_all : (ds : List ℕ) → list_all is_ascii_digit ds ≡ all_digits ds
digits_all [] = refl
digits_all (c ∷ cs) = ap (λ t. is_ascii_digit c && t) (digits_all cs)

pub first_place_is : (b : ℕ) (xs : List ℕ) → first_place b xs ≡ position_or_len (λ x. eqb x b) xs
first_place_is b = is_position_or_len (first_place b) (λ x. eqb x b) refl (λ x xs. ap (cond (eqb x b) 0) (omega arith))

-- the first place as `position` answers it
pub position_is : (b : ℕ) (xs : List ℕ) (r : Option ℕ) → r ≡ position (λ x. eqb x b) xs → first_place b xs ≤ length xs → unwrap_or r (length xs) ≡ first_place b xs
position_is b xs r e h =
    let f = first_place_is b xs in
    elim (cases_lt (first_place b xs) (length xs)) [
      | inl l ↦ rw (e, ← f, lt-ltb (first_place b xs) (length xs) l)
      | inr g ↦ rw (e, ← f, le-ltb (first_place b xs) (length xs) g) (omega arith)
    ]

-- parts are one more than the bytes that part them
pub parts_are : (b : ℕ) (xs : List ℕ) → length (split b xs) ≡ 1 + count_by (λ x. eqb x b) xs
parts_are b xs =
    let more : length (split b xs) - 1 ≡ count_by (λ x. eqb x b) xs = is_count_by (λ ys. length (split b ys) - 1) (λ x. eqb x b) refl step xs in
    omega (arith, split_some_part b xs)
  where
    same : (x : ℕ) (ps : List (List ℕ)) → 0 < length ps → length (before x ps) ≡ length ps
    same x [] k = absurd (omega arith)
    same x (p ∷ ps) k = refl

    step : (x : ℕ) (ys : List ℕ) → length (split b (x ∷ ys)) - 1 ≡ cond (eqb x b) (1 + (length (split b ys) - 1)) (length (split b ys) - 1)
    step x ys =
        let some = split_some_part b ys in
        elim (cases_Bool (eqb x b)) [
          | inl t ↦ rw t (omega arith)
          | inr f ↦ rw f (ap (λ n. n - 1) (same x (split b ys) some))
        ]
