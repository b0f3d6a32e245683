-- The laws of `split`: its first part and its rest, and that joining undoes it.
use Rattle.std.proofs.Common.{◌≡◌, ℕ, suc, ◌+◌, ◌-◌, ◌<◌, ◌≤◌, true, false, not, eqb, List, [], ◌∷◌, ◌++◌, length, get_or, take, drop, sym, refl, ap, ◌∙◌, inl, inr, add-one, arith}
use Rattle.std.proofs.lemmas.List.{take_all, length-drop, take_rest}
use Rattle.std.proofs.lemmas.Bool.{cases_Bool, eqb-true, and_parts, not-true, eq-eqb, cases_lt}
use Rattle.std.specs.List.{AllByRecursion as All}
use Rattle.text.specs.Split.{split, before, first_place, without, rejoined}

-- the place of b is within the text, or its end
pub place_within : (b : ℕ) (xs : List ℕ) → first_place b xs ≤ length xs
place_within b [] = omega arith
place_within b (x ∷ xs) =
    elim (cases_Bool (eqb x b)) [
      | inl t ↦ rw t (omega arith)
      | inr f ↦ rw f (omega (arith, place_within b xs))
    ]

-- a text has at least one part
pub split_some_part : (b : ℕ) (xs : List ℕ) → 0 < length (split b xs)
split_some_part b [] = omega arith
split_some_part b (x ∷ xs) =
    elim (cases_Bool (eqb x b)) [
      | inl t ↦ rw t (omega arith)
      | inr f ↦ rw f (full x (split b xs))
    ]
  where
    full : (x : ℕ) (ps : List (List ℕ)) → 0 < length (before x ps)
    full x [] = omega arith
    full x (p ∷ ps) = omega arith

-- where b does not stand, the text is its only part
pub split_none : (b : ℕ) (xs : List ℕ) → first_place b xs ≡ length xs → split b xs ≡ xs ∷ []
split_none b [] h = refl
split_none b (x ∷ xs) h =
    elim (cases_Bool (eqb x b)) [
      | inl t ↦ let k = rw t at h in absurd (omega arith)
      | inr f ↦ let k = rw f at h in rw (f, split_none b xs (omega arith))
    ]

-- where b stands, the first part ends there, and the others are those of what follows it
pub split-some :
    (b : ℕ) (xs : List ℕ) → first_place b xs < length xs →
    split b xs ≡ take (first_place b xs) xs ∷ split b (drop (first_place b xs + 1) xs)
split-some b [] h = absurd (omega arith)
split-some b (x ∷ xs) h =
    elim (cases_Bool (eqb x b)) [
      | inl t ↦ rw t
      | inr f ↦ let k = rw f at h in rw (f, split-some b xs (omega arith)) (simp add-one)
    ]

-- the parts that a text is cut into give the text again
pub rejoin_split : (b : ℕ) (xs : List ℕ) → rejoined b (split b xs) ≡ xs
rejoin_split b [] = refl
rejoin_split b (x ∷ xs) =
    elim (cases_Bool (eqb x b)) [
      | inl t ↦ rw t (gap (split b xs) (split_some_part b xs) ∙ let e = eqb-true x b t in let r = rejoin_split b xs in cc)
      | inr f ↦ rw f (put x (split b xs) ∙ ap (λ ys. x ∷ ys) (rejoin_split b xs))
    ]
  where
    gap : (ps : List (List ℕ)) → 0 < length ps → rejoined b ([] ∷ ps) ≡ b ∷ rejoined b ps
    gap [] h = absurd (omega arith)
    gap (p ∷ ps) h = refl

    put : (x : ℕ) (ps : List (List ℕ)) → rejoined b (before x ps) ≡ x ∷ rejoined b ps
    put x [] = refl
    put x (p ∷ []) = refl
    put x (p ∷ q ∷ ps) = refl

miss : (b x : ℕ) (p : List ℕ) → without b (x ∷ p) ≡ true → (eqb x b ≡ false) × (without b p ≡ true)
miss b x p h = let k = and_parts (not (eqb x b)) (without b p) h in (not-true (eqb x b) k.0, k.1)

-- a part without b is the first part of what it begins, if b or nothing follows it
pub split-before : (b : ℕ) (p ys : List ℕ) → without b p ≡ true → split b (p ++ (b ∷ ys)) ≡ p ∷ split b ys
split-before b [] ys h = rw (eq-eqb b b refl)
split-before b (x ∷ p) ys h = let k = miss b x p h in rw (k.0, split-before b p ys k.1)

pub split-whole : (b : ℕ) (p : List ℕ) → without b p ≡ true → split b p ≡ p ∷ []
split-whole b [] h = refl
split-whole b (x ∷ p) h = let k = miss b x p h in rw (k.0, split-whole b p k.1)

-- parts without b are the parts of the text that they are joined to
pub split-rejoin :
    (b : ℕ) (ps : List (List ℕ)) → 0 < length ps → All (λ p. without b p ≡ true) ps →
    split b (rejoined b ps) ≡ ps
split-rejoin b [] h c = absurd (omega arith)
split-rejoin b (p ∷ []) h c = split-whole b p c.0
split-rejoin b (p ∷ q ∷ ps) h c = split-before b p (rejoined b (q ∷ ps)) c.0 ∙ ap (λ qs. p ∷ qs) (split-rejoin b (q ∷ ps) (omega arith) c.1)

-- no part holds the byte that the text is cut at
pub split_clear : (b : ℕ) (xs : List ℕ) → All (λ p. without b p ≡ true) (split b xs)
split_clear b [] = (refl, tt)
split_clear b (x ∷ xs) =
    elim (cases_Bool (eqb x b)) [
      | inl t ↦ rw t (refl, split_clear b xs)
      | inr f ↦ rw f (put (split b xs) f (split_clear b xs))
    ]
  where
    put : (ps : List (List ℕ)) → eqb x b ≡ false → All (λ p. without b p ≡ true) ps → All (λ p. without b p ≡ true) (before x ps)
    put [] f c = (rw f, tt)
    put (p ∷ ps) f c = (rw f c.0, c.1)

-- going from part to part: `rest` is what is left of xs, of which `left` parts are still to be passed to come to part k
module _ (b : ℕ) (xs rest : List ℕ) (left k : ℕ) (same : drop left (split b rest) ≡ drop k (split b xs)) where
  pub no_part_left : first_place b rest ≡ length rest → 0 < left → length (split b xs) ≤ k
  no_part_left e h =
      let one : length (split b rest) ≡ 1 = ap length (split_none b rest e) in
      let f = ap length same in
      omega (arith, length-drop left (split b rest), length-drop k (split b xs))

  pub next-part :
      first_place b rest < length rest → 0 < left →
      drop (left - 1) (split b (drop (first_place b rest + 1) rest)) ≡ drop k (split b xs)
  next-part l h =
      let e : suc (left - 1) ≡ left = omega arith in
      ap (drop (suc (left - 1))) (sym (split-some b rest l)) ∙ ap (λ n. drop n (split b rest)) e ∙ same

  -- the same, as `&rest[end + 1..]` has the rest
  pub next-part-at :
      (end m : ℕ) → end ≡ first_place b rest → end < length rest → 0 < left → m ≡ left - 1 →
      drop m (split b (take (length rest - (end + 1)) (drop (end + 1) rest))) ≡ drop k (split b xs)
  next-part-at end m e l h n = let p : first_place b rest < length rest = omega arith in rw (take_rest rest (end + 1), e, n) (next-part p h)

  pub part_found : left ≡ 0 → split b rest ≡ drop k (split b xs)
  part_found e = sym (ap (λ n. drop n (split b rest)) e) ∙ same

  pub part_there : left ≡ 0 → k < length (split b xs)
  part_there e =
      let f = ap length (part_found e) in
      omega (arith, length-drop k (split b xs), split_some_part b rest)

-- the first part goes up to b
pub split-first : (b : ℕ) (xs : List ℕ) → get_or (split b xs) 0 [] ≡ take (first_place b xs) xs
split-first b xs =
    elim (cases_lt (first_place b xs) (length xs)) [
      | inl l ↦ ap (λ ps. get_or ps 0 []) (split-some b xs l)
      | inr g ↦
          ap (λ ps. get_or ps 0 []) (split_none b xs (omega (arith, place_within b xs)))
          ∙ sym (take_all (first_place b xs) xs g)
    ]
