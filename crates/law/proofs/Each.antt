-- What a loop builds is exactly what its elements make, where no two of them make the same.
use Rattle.std.proofs.Common.{◌≡◌, ℕ, zero, suc, ◌+◌, ◌<◌, ◌≤◌, ◌↔◌, List, [], ◌∷◌, ◌++◌, length, get_or, take, sym, refl, ap, ◌∙◌, subst, inl, inr, ⊎_elim, append-nil, add-one, arith}
use Rattle.std.proofs.lemmas.List.{take_more}
use Rattle.std.proofs.lemmas.Bool.{cases_eq}
use Rattle.std.specs.List.{range_with_len}
use Rattle.law.specs.Bags.{◌∈◌, Once, Exactly}
use Rattle.law.specs.Each.{Each, none, more}
use Rattle.law.proofs.Counting.{exactly_as}
use Rattle.law.proofs.Sets.{in_append, append_left, append_right, exactly_append, exactly_none}

module _ {A : Type 0} where
  front_once : (xs : List A) (x : A) → Once (xs ++ (x ∷ [])) → Once xs × (x ∈ xs → ⊥)
  front_once [] x once = (tt, λ m. m)
  front_once (y ∷ xs) x (new, once) =
      let (rest, last) = front_once xs x once in
      (((λ m. new (append_left y xs (x ∷ []) m)), rest), λ m. ⊎_elim (λ e. new (append_right y xs (x ∷ []) (inl (sym e)))) last m)

module _ {A B : Type 0} (F : A → B → Type 0) (one : (p q : A) (b : B) → F p b → F q b → p ≡ q) where
  pub each_exactly : {ps : List A} {bs : List B} → Each (λ p zs. Exactly (F p) zs) ps bs → Once ps → Exactly (λ b. (p : A) × (p ∈ ps) × F p b) bs
  each_exactly none once = exactly_none _ (λ b (p, m, f). m)
  each_exactly (more {xs} {ys} {zs} {x} each here) once =
      let (front, last) = front_once xs x once in
      exactly_append (λ b. (p : A) × (p ∈ xs) × F p b) (F x) _ ys zs (each_exactly each front) here
      (λ b (p, m, f) g. last (subst (λ q. q ∈ xs) (one p x b f g) m))
      (λ b. (
        (λ (p, m, f). ⊎_elim (λ l. inl (p, l, f)) (⊎_elim (λ e. inr (subst (λ q. F q b) (sym e) f)) (λ n. absurd n)) (in_append p xs (x ∷ []) m)),
        ⊎_elim (λ (p, m, f). (p, append_left p xs (x ∷ []) m, f)) (λ f. (x, append_right x xs (x ∷ []) (inl refl), f)),
      ))

  -- so a loop over all with P builds just what those make
  pub each_from : (P : A → Type 0) (S : B → Type 0) → ((b : B) → ((p : A) × P p × F p b) ↔ S b) → {ps : List A} {bs : List B} → Exactly P ps → Each (λ p zs. Exactly (F p) zs) ps bs → Exactly S bs
  each_from P S same {ps} {bs} all each = exactly_as (λ b. (p : A) × (p ∈ ps) × F p b) S bs
      (λ b. ((λ (p, m, f). (same b).0 (p, (all.each p).0 m, f)), λ s. let (p, is, f) = (same b).1 s in (p, (all.each p).1 is, f)))
      (each_exactly each all.once)

-- the turns of a loop: nothing is put, over the elements of a list, and over numbers
module _ {A B : Type 0} {R : A → List B → Type 0} where
  pub more_none : {xs : List A} {ys : List B} (x : A) → Each R xs ys → R x [] → Each R (xs ++ (x ∷ [])) ys
  more_none {xs} {ys} x each here = subst (Each R (xs ++ (x ∷ []))) (append-nil ys) (more each here)

  pub each_item : (xs : List A) {ys zs : List B} (i : ℕ) (d : A) → i < length xs → Each R (take i xs) ys → R (get_or xs i d) zs → Each R (take (i + 1) xs) (ys ++ zs)
  each_item xs {ys} {zs} i d h each here = subst (λ ws. Each R ws (ys ++ zs)) (sym (take_more xs i d h)) (more each here)

counting_more : (a n j : ℕ) → a + n ≡ j → range_with_len a (suc n) ≡ range_with_len a n ++ (j ∷ [])
counting_more a zero j e = ap (λ m. m ∷ []) (omega arith)
counting_more a (suc n) j e = ap (λ ns. a ∷ ns) (counting_more (a + 1) n j (omega arith))

pub each_number : {B : Type 0} {R : ℕ → List B → Type 0} (a n j : ℕ) {ys zs : List B} → a + n ≡ j → Each R (range_with_len a n) ys → R j zs → Each R (range_with_len a (n + 1)) (ys ++ zs)
each_number {R = R} a n j {ys} {zs} e each here = subst (λ ns. Each R ns (ys ++ zs)) (sym (ap (range_with_len a) (add-one n) ∙ counting_more a n j e)) (more each here)

in_counting : (a n j : ℕ) → (j ∈ range_with_len a n) ↔ ((a ≤ j) × (j < a + n))
in_counting a zero j = ((λ m. absurd m), λ (p, q). omega arith)
in_counting a (suc n) j =
    let rest = in_counting (a + 1) n j in (
      ⊎_elim (λ e. (omega arith, omega arith)) (λ m. let h = rest.0 m in (omega (arith, h.0), omega (arith, h.1))),
      λ (p, q). ⊎_elim (λ e. inl e) (λ ne. inr (rest.1 (omega (arith, ne), omega arith))) (cases_eq a j),
    )

once_counting : (a n : ℕ) → Once (range_with_len a n)
once_counting a zero = tt
once_counting a (suc n) = ((λ m. omega (arith, ((in_counting (a + 1) n a).0 m).0)), once_counting (a + 1) n)

-- the numbers from a, n of them
pub exactly_counting : (a n : ℕ) → Exactly (λ j. (a ≤ j) × (j < a + n)) (range_with_len a n)
exactly_counting a n = record { once = once_counting a n; each = in_counting a n }
