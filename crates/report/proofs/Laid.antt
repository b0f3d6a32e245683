-- Bytes laid over a buffer, beside one another.
use Rattle.std.proofs.Common.{◌≡◌, ℕ, suc, ◌+◌, ◌<◌, ◌≤◌, List, [], ◌∷◌, ◌++◌, length, take, drop, set, Some, None, sym, ap, ◌∙◌, ⊎_elim, arith}
use Rattle.std.proofs.lemmas.List.{append_assoc, length-append, length-take-le, length-drop, take_at, take-take, take-append-le, take-append-drop, drop_at, drop-drop, drop-append-le, set_split}
use Rattle.std.proofs.lemmas.Bool.{le-leb, lt-leb, cases_lt}
use Rattle.text.specs.Writing.{place_after, pasted}

-- `was` with the bytes from i on in the place of its own
abbrev pub laid : ℕ → List ℕ → List ℕ → List ℕ
laid i bytes was = take i was ++ (bytes ++ drop (i + length bytes) was)

module _ (was bytes : List ℕ) (i : ℕ) where
  pub pasted_is : i + length bytes ≤ length was → pasted was i bytes ≡ laid i bytes was
  pasted_is h = rw (le-leb (i + length bytes) (length was) h)

  pub place_is : i + length bytes ≤ length was → place_after was i bytes ≡ Some (i + length bytes)
  place_is h = rw (le-leb (i + length bytes) (length was) h)

  pub place_not : length was < i + length bytes → place_after was i bytes ≡ None
  place_not h = rw (lt-leb (i + length bytes) (length was) h)

  pub accepted : (end : ℕ) → Some end ≡ place_after was i bytes → (i + length bytes ≤ length was) × (end ≡ i + length bytes)
  accepted end e = ⊎_elim
      (λ h. let f = e ∙ place_not h in let z : ◌≡◌ {A = ℕ} 0 1 = cc in absurd (omega arith))
      (λ h. (h, let f = e ∙ place_is h in cc))
      (cases_lt (length was) (i + length bytes))

  pub length_laid : i + length bytes ≤ length was → length (laid i bytes was) ≡ length was
  length_laid h =
      length-append (take i was) (bytes ++ drop (i + length bytes) was)
      ∙ omega (arith, length-append bytes (drop (i + length bytes) was), length-take-le i was (omega arith), length-drop (i + length bytes) was)

  -- over the first k bytes, or over all
  pub laid_part : (k : ℕ) → k ≤ length was → i + length bytes ≤ k → laid i bytes (take k was) ++ drop k was ≡ laid i bytes was
  laid_part k inside h =
      let rest = drop (i + length bytes) (take k was) in
      let whole : rest ++ drop k was ≡ drop (i + length bytes) was =
      sym (drop-append-le (i + length bytes) (take k was) (drop k was) (omega (arith, length-take-le k was inside))) ∙ ap (drop (i + length bytes)) (take-append-drop k was) in
      append_assoc (take i (take k was)) (bytes ++ rest) (drop k was)
      ∙ ap (λ xs. xs ++ ((bytes ++ rest) ++ drop k was)) (take-take i k was (omega arith))
      ∙ ap (λ xs. take i was ++ xs) (append_assoc bytes rest (drop k was) ∙ ap (λ xs. bytes ++ xs) whole)

module _ (was a b : List ℕ) (i : ℕ) (h : i + length a ≤ length was) where
  together : (i + length a) + length b ≡ i + length (a ++ b)
  together = omega (arith, length-append a b)

  joins : take i was ++ (a ++ (b ++ drop ((i + length a) + length b) was)) ≡ laid i (a ++ b) was
  joins = ap (λ xs. take i was ++ xs) (sym (append_assoc a b (drop ((i + length a) + length b) was)) ∙ ap (λ n. (a ++ b) ++ drop n was) together)

  -- b behind a that is there
  pub laid_behind : laid (i + length a) b (laid i a was) ≡ laid i (a ++ b) was
  laid_behind =
      let front = take i was ++ a in
      let rest = drop (i + length a) was in
      let parts : laid i a was ≡ front ++ rest = sym (append_assoc (take i was) a rest) in
      let long : length front ≡ i + length a = length-append (take i was) a ∙ ap (λ n. n + length a) (length-take-le i was (omega arith)) in
      let past : drop ((i + length a) + length b) (front ++ rest) ≡ drop ((i + length a) + length b) was =
      sym (drop-drop (length b) (i + length a) (front ++ rest)) ∙ ap (drop (length b)) (drop_at front rest (i + length a) long) ∙ drop-drop (length b) (i + length a) was in
      ap (laid (i + length a) b) parts
      ∙ ap (λ xs. xs ++ (b ++ drop ((i + length a) + length b) (front ++ rest))) (take_at front rest (i + length a) long)
      ∙ ap (λ xs. front ++ (b ++ xs)) past
      ∙ append_assoc (take i was) a (b ++ drop ((i + length a) + length b) was)
      ∙ joins

  -- a before b that is there
  pub laid_before : laid i a (laid (i + length a) b was) ≡ laid i (a ++ b) was
  laid_before =
      let front = take (i + length a) was in
      let rest = b ++ drop ((i + length a) + length b) was in
      let long = length-take-le (i + length a) was h in
      ap (λ xs. xs ++ (a ++ drop (i + length a) (front ++ rest))) (take-append-le i front rest (omega arith) ∙ take-take i (i + length a) was (omega arith))
      ∙ ap (λ xs. take i was ++ (a ++ xs)) (drop_at front rest (i + length a) long)
      ∙ joins

pub set_laid : (was : List ℕ) (i x : ℕ) → i < length was → set was i x ≡ laid i (x ∷ []) was
set_laid was i x h = let next : suc i ≡ i + 1 = omega arith in set_split was i x h ∙ ap (λ n. take i was ++ (x ∷ drop n was)) next
