-- The first line of a text by the place of its first line feed, in the four cases that a reader tells apart.
use Rattle.std.proofs.Common.{◌≡◌, ℕ, ◌+◌, ◌<◌, ◌≤◌, Bool, true, false, cond, leb, List, [], ◌∷◌, length, take, drop, Ok, Err, sym, refl, ap, ◌∙◌, inl, inr, arith}
use Rattle.std.proofs.lemmas.List.{nil_from_length, length-take-le}
use Rattle.std.proofs.lemmas.Bool.{ne_eqb, leb-true, cases_lt, cases_Bool, cases_eq}
use Rattle.text.specs.declared.fault.Cause.TheVariants.{BadLine, Unfinished}
use Rattle.text.specs.declared.fault.Fault.{Fault}
use Rattle.text.specs.Faults.{fault_at}
use Rattle.text.specs.Lines.{line_of}
use Rattle.text.specs.Split.{split, first_place}
use Rattle.text.proofs.Splits.{split_none, split-some, split_some_part, place_within}

pub line_missing : (n : ℕ) (text : List ℕ) → length text ≡ 0 → line_of n (split 10 text) ≡ Err (fault_at Unfinished n 0)
line_missing n text e = rw (nil_from_length text e)

pub line-open :
    (n : ℕ) (text : List ℕ) → 0 < length text → first_place 10 text ≡ length text →
    line_of n (split 10 text) ≡ Err (fault_at BadLine n 0)
line-open n text h e = rw (split_none 10 text e, ne_eqb (length text) 0 (λ z. omega arith))

-- a line with its line feed
closed :
    (n : ℕ) (p : List ℕ) (ps : List (List ℕ)) → 0 < length ps →
    line_of n (p ∷ ps) ≡ cond (leb (length p) 80) (Ok p) (Err (fault_at BadLine n 0))
closed n p [] h = absurd (omega arith)
closed n p (q ∷ ps) h = refl

-- a text with a line feed: r tells whether the line is short enough
pub line-ended :
    (n : ℕ) (text : List ℕ) (end : ℕ) → end ≡ first_place 10 text → end < length text → (r : Bool) → r ≡ leb end 80 →
    line_of n (split 10 text) ≡ cond r (Ok (take end text)) (Err (fault_at BadLine n 0))
line-ended n text end e l r t =
    let p : first_place 10 text < length text = omega arith in
    let q : end ≤ length text = omega arith in
    ap (line_of n) (split-some 10 text p)
    ∙ closed n (take (first_place 10 text) text) (split 10 (drop (first_place 10 text + 1) text)) (split_some_part 10 (drop (first_place 10 text + 1) text))
    ∙ rw (← e, length-take-le end text q, ← t)

-- the text after its first line l
pub record After (text l : List ℕ) : Type 0 where
  pub parts : split 10 text ≡ l ∷ split 10 (drop (length l + 1) text)
  pub within : length l + 1 ≤ length text
  pub short : length l ≤ 80

refused : (n : ℕ) (text l : List ℕ) (f : Fault) → line_of n (split 10 text) ≡ Ok l → line_of n (split 10 text) ≡ Err f → ⊥
refused n text l f e h = let z : ◌≡◌ {A = ℕ} 0 1 = cc in omega arith

-- a line that is read is the first part of its text, and the next line begins after its line feed
pub line_after : (n : ℕ) (text l : List ℕ) → line_of n (split 10 text) ≡ Ok l → After text l
line_after n text l e =
    elim (cases_lt (first_place 10 text) (length text)) [
      | inl p ↦
          elim (cases_Bool (leb (first_place 10 text) 80)) [
            | inl t ↦ good p t
            | inr f ↦ absurd (refused n text l (fault_at BadLine n 0) e (line-ended n text (first_place 10 text) refl p false (sym f)))
          ]
      | inr g ↦
          let w = place_within 10 text in
          elim (cases_eq (length text) 0) [
            | inl z ↦ absurd (refused n text l (fault_at Unfinished n 0) e (line_missing n text z))
            | inr k ↦ absurd (refused n text l (fault_at BadLine n 0) e (line-open n text (omega arith) (omega arith)))
          ]
    ]
  where
    good : first_place 10 text < length text → leb (first_place 10 text) 80 ≡ true → After text l
    good p t =
        let h = line-ended n text (first_place 10 text) refl p true (sym t) in
        let same : take (first_place 10 text) text ≡ l = cc in
        let q : first_place 10 text ≤ length text = omega arith in
        let size : first_place 10 text ≡ length l = sym (length-take-le (first_place 10 text) text q) ∙ ap length same in
        record {
          parts = split-some 10 text p ∙ ap (λ m. m ∷ split 10 (drop (first_place 10 text + 1) text)) same ∙ ap (λ m. l ∷ split 10 (drop (m + 1) text)) size;
          within = omega arith;
          short = omega (arith, leb-true (first_place 10 text) 80 t);
        }
