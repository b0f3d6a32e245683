-- A list takes items behind those that it holds, as far as its memory goes, and leaves the memory past them as it was.
use Rattle.std.specs.Prelude.{◌≡◌, ℕ, zero, suc, ◌+◌, ◌-◌, ◌≤◌, List, [], ◌∷◌, ◌++◌, length, take, drop, refl}
use Rattle.std.proofs.Common.{sym, ap, ◌∙◌, arith}
use Rattle.std.proofs.lemmas.List.{append-nil, append_assoc, length-append, length-take, take_all, drop-drop}
use Rattle.lent.specs.declared.list.Lent.{Lent}
use Rattle.lent.specs.Lists.{memory, held}
use Rattle.lent.specs.Taking.{Adds}

module _ {T : Type 0} where
  pub record stored (s : Lent T) (xs : List T) (t : Lent T) : Type 0 where
    pub held_is : held t ≡ take (length (memory s)) (held s ++ xs)
    pub past : drop (length (held t)) (memory t) ≡ drop (length (held t)) (memory s)
    pub capacity : length (memory t) ≡ length (memory s)

  -- what finds no room may be left out early
  take_early : (n : ℕ) (xs ys : List T) → take n (take n xs ++ ys) ≡ take n (xs ++ ys)
  take_early zero xs ys = refl
  take_early (suc n) [] ys = refl
  take_early (suc n) (x ∷ xs) ys = ap (λ (zs : List T). x ∷ zs) (take_early n xs ys)

  drop_later : (m n : ℕ) (xs ys : List T) → m ≤ n → drop m xs ≡ drop m ys → drop n xs ≡ drop n ys
  drop_later m n xs ys less same =
      let on : n ≡ m + (n - m) = omega arith in
      ap (λ k. drop k xs) on ∙ sym (drop-drop (n - m) m xs) ∙ ap (drop (n - m)) same ∙ drop-drop (n - m) m ys ∙ sym (ap (λ k. drop k ys) on)

  held_within : (l : Lent T) → length (held l) ≤ length (memory l)
  held_within l = omega (arith, length-take l.len (memory l))

  pub stored_adds : Adds stored
  stored_adds = record {
    none = λ s. record {
      held_is = sym (ap (take (length (memory s))) (append-nil (held s)) ∙ take_all (length (memory s)) (held s) (held_within s));
      past = refl;
      capacity = refl;
    };
    more = λ s t u xs ys a b.
        let longer : length (held t) ≤ length (held u) = omega (arith, ap length b.held_is, length-take (length (memory t)) (held t ++ ys), length-append (held t) ys, held_within t) in
        record {
          held_is = b.held_is ∙ ap (λ n. take n (held t ++ ys)) a.capacity ∙ ap (λ zs. take (length (memory s)) (zs ++ ys)) a.held_is
              ∙ take_early (length (memory s)) (held s ++ xs) ys ∙ ap (take (length (memory s))) (append_assoc (held s) xs ys);
          past = b.past ∙ drop_later (length (held t)) (length (held u)) (memory t) (memory s) longer a.past;
          capacity = b.capacity ∙ a.capacity;
        };
  }
