-- Two writings, one after the other.
use Rattle.std.proofs.Common.{◌≡◌, ℕ, ◌+◌, ◌≤◌, List, ◌++◌, length, take, drop, sym, ap, ◌∙◌, arith}
use Rattle.std.proofs.lemmas.List.{append_assoc, drop-drop, length-append, length-drop, length-take-le, take_at, drop_at}
use Rattle.std.proofs.lemmas.Bool.{le-leb}
use Rattle.text.specs.Writing.{pasted}

-- what is written next to what was written before is one writing
module _ (was xs ys : List ℕ) (i : ℕ) (h : i + length xs + length ys ≤ length was) where
  front_length : length (take i was ++ xs) ≡ i + length xs
  front_length = length-append (take i was) xs ∙ ap (λ n. n + length xs) (length-take-le i was (omega arith))

  once : pasted was i xs ≡ (take i was ++ xs) ++ drop (i + length xs) was
  once =
      let fits : i + length xs ≤ length was = omega arith in
      rw (le-leb (i + length xs) (length was) fits) (sym (append_assoc (take i was) xs (drop (i + length xs) was)))

  once_length : length ((take i was ++ xs) ++ drop (i + length xs) was) ≡ length was
  once_length =
      length-append (take i was ++ xs) (drop (i + length xs) was)
      ∙ omega (arith, front_length, length-drop (i + length xs) was)

  past_both : drop (i + length xs + length ys) ((take i was ++ xs) ++ drop (i + length xs) was) ≡ drop (i + length xs + length ys) was
  past_both =
      sym (drop-drop (length ys) (i + length xs) ((take i was ++ xs) ++ drop (i + length xs) was))
      ∙ ap (drop (length ys)) (drop_at (take i was ++ xs) (drop (i + length xs) was) (i + length xs) front_length)
      ∙ drop-drop (length ys) (i + length xs) was

  both : pasted was i (xs ++ ys) ≡ take i was ++ ((xs ++ ys) ++ drop (i + length xs + length ys) was)
  both =
      let e : i + length (xs ++ ys) ≡ i + length xs + length ys = omega (arith, length-append xs ys) in
      rw (e, le-leb (i + length xs + length ys) (length was) h)

  pub pasted_more : pasted (pasted was i xs) (i + length xs) ys ≡ pasted was i (xs ++ ys)
  pasted_more =
      let fits : i + length xs + length ys ≤ length ((take i was ++ xs) ++ drop (i + length xs) was) = omega (arith, once_length) in
      ap (λ m. pasted m (i + length xs) ys) once
      ∙ rw (
        le-leb (i + length xs + length ys) (length ((take i was ++ xs) ++ drop (i + length xs) was)) fits,
        take_at (take i was ++ xs) (drop (i + length xs) was) (i + length xs) front_length,
        past_both,
      )
      (simp append_assoc)
      ∙ sym both
