-- One piece of text after another in a buffer.
use Rattle.std.proofs.Common.{◌≡◌, ℕ, ◌+◌, ◌≤◌, List, [], ◌∷◌, ◌++◌, length, take, drop, Some, None, sym, ap, ◌∙◌, arith}
use Rattle.std.proofs.lemmas.List.{append_assoc, length-append, length-take, length-drop, take_at}
use Rattle.std.proofs.lemmas.Bool.{le-leb}
use Rattle.text.specs.Writing.{place_after, pasted}

module _ (was bytes : List ℕ) (i : ℕ) (h : i + length bytes ≤ length was) where
  pub place_is : place_after was i bytes ≡ Some (i + length bytes)
  place_is = rw (le-leb (i + length bytes) (length was) h)

  pasted_is : pasted was i bytes ≡ take i was ++ (bytes ++ drop (i + length bytes) was)
  pasted_is = rw (le-leb (i + length bytes) (length was) h)

  pub pasted_front : take (i + length bytes) (pasted was i bytes) ≡ take i was ++ bytes
  pasted_front =
      ap (take (i + length bytes)) (pasted_is ∙ sym (append_assoc (take i was) bytes (drop (i + length bytes) was)))
      ∙ take_at (take i was ++ bytes) (drop (i + length bytes) was) (i + length bytes) (simp (length-append, length-take) (omega arith))

  pub length-pasted : length (pasted was i bytes) ≡ length was
  length-pasted = ap length pasted_is ∙ simp (length-append, length-take, length-drop) (omega arith)

  pub not_refused : None ≡ place_after was i bytes → ⊥
  not_refused e = let f = e ∙ place_is in let z : ◌≡◌ {A = ℕ} 0 1 = cc in omega arith

  pub placed : (end : ℕ) → Some end ≡ place_after was i bytes → end ≡ i + length bytes
  placed end e = let f = e ∙ place_is in cc

-- two pieces with a tab between them, from the start of a buffer on
module _ (a b : List ℕ) (short-a : length a ≤ 20) (short-b : length b ≤ 20) (b0 : List ℕ) (room : 41 ≤ length b0) where
  pub first_goes : None ≡ place_after b0 0 a → ⊥
  first_goes = not_refused b0 a 0 (omega arith)

  module _ (b1 : List ℕ) (one : b1 ≡ pasted b0 0 a) (tab : ℕ) (after-a : Some tab ≡ place_after b0 0 a) where
    tab_is : tab ≡ length a
    tab_is = let e = placed b0 a 0 (omega arith) tab after-a in omega arith

    long1 : length b1 ≡ length b0
    long1 = ap length one ∙ length-pasted b0 a 0 (omega arith)

    room1 : tab + 1 ≤ length b1
    room1 = omega (arith, tab_is, long1)

    front1 : take tab b1 ≡ a
    front1 = ap (λ n. take n b1) (placed b0 a 0 (omega arith) tab after-a) ∙ ap (take (0 + length a)) one ∙ pasted_front b0 a 0 (omega arith)

    pub tab_goes : None ≡ place_after b1 tab (9 ∷ []) → ⊥
    tab_goes = not_refused b1 (9 ∷ []) tab room1

    module _ (b2 : List ℕ) (two : b2 ≡ pasted b1 tab (9 ∷ [])) (start : ℕ) (after-tab : Some start ≡ place_after b1 tab (9 ∷ [])) where
      start_is : start ≡ tab + 1
      start_is = placed b1 (9 ∷ []) tab room1 start after-tab

      room2 : start + length b ≤ length b2
      room2 = omega (arith, start_is, tab_is, long1, ap length two ∙ length-pasted b1 (9 ∷ []) tab room1)

      front2 : take start b2 ≡ a ++ (9 ∷ [])
      front2 = ap (λ n. take n b2) start_is ∙ ap (take (tab + 1)) two ∙ pasted_front b1 (9 ∷ []) tab room1 ∙ ap (λ l. l ++ (9 ∷ [])) front1

      whole_length : length (a ++ (9 ∷ b)) ≡ start + length b
      whole_length = length-append a (9 ∷ b) ∙ omega (arith, start_is, tab_is)

      module _ (b3 : List ℕ) (three : b3 ≡ pasted b2 start b) where
        pub both_placed : place_after b2 start b ≡ Some (length (a ++ (9 ∷ b)))
        both_placed = place_is b2 b start room2 ∙ ap Some (sym whole_length)

        pub both_text : take (length (a ++ (9 ∷ b))) b3 ≡ a ++ (9 ∷ b)
        both_text =
            ap (λ n. take n b3) whole_length ∙ ap (take (start + length b)) three ∙ pasted_front b2 b start room2
            ∙ ap (λ l. l ++ b) front2 ∙ append_assoc a (9 ∷ []) b
