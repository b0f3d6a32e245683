-- Where the line after a line begins, and what reading a line does to the lists of a log.
use Rattle.std.proofs.Common.{◌≡◌, ℕ, ◌+◌, ◌<◌, ◌≤◌, Bool, false, List, [], ◌∷◌, length, drop, Ok, Err, Option, refl, ap, ◌∙◌, inl, inr, arith}
use Rattle.std.proofs.lemmas.List.{length-drop, drop-drop, drop_all}
use Rattle.std.proofs.lemmas.Bool.{cases_lt, ne_eqb, cond-false}
use Rattle.text.specs.declared.fault.Fault.{Fault}
use Rattle.text.specs.Lines.{line_of}
use Rattle.text.specs.Split.{split, first_place}
use Rattle.text.proofs.FirstLines.{line_after}
use Rattle.text.proofs.Splits.{split_none, split-some, split_some_part, place_within}
use Rattle.logs.specs.Endings.{clean_end, fault_end}
use Rattle.logs.specs.Lined.{Passes}
use Rattle.logs.specs.Reading.{at_end, before, unless, judged, records_from, ending_from}

pub line_passes : (n from : ℕ) (text l : List ℕ) → line_of n (split 10 (drop from text)) ≡ Ok l → Passes text from (from + length l + 1)
line_passes n from text l first =
    let after = line_after n (drop from text) l first in
    let same : from + (length l + 1) ≡ from + length l + 1 = omega arith in
    record {
      line = l;
      parts = after.parts ∙ ap (λ xs. l ∷ split 10 xs) (drop-drop (length l + 1) from text ∙ ap (λ k. drop k text) same);
      further = omega arith;
      within = omega (arith, after.within, length-drop from text);
    }

two_parts : (p : List ℕ) (ps : List (List ℕ)) → 0 < length ps → at_end (p ∷ ps) ≡ false
two_parts p [] h = absurd (omega arith)
two_parts p (q ∷ ps) h = refl

pub text_left : (text : List ℕ) → 0 < length text → at_end (split 10 text) ≡ false
text_left text h =
    elim (cases_lt (first_place 10 text) (length text)) [
      | inl l ↦ ap at_end (split-some 10 text l) ∙ two_parts _ (split 10 (drop (first_place 10 text + 1) text)) (split_some_part 10 (drop (first_place 10 text + 1) text))
      | inr g ↦
          let w = place_within 10 text in
          let whole : first_place 10 text ≡ length text = omega arith in
          ap at_end (split_none 10 text whole) ∙ ne_eqb (length text) 0 (λ z. omega arith)
    ]

module _ {G : Type 0} (fields : ℕ) (means : List (List ℕ) → Option G) (stamp : G → Bool) (n : ℕ) where
  pub records_end : (text : List ℕ) (from : ℕ) → length text ≤ from → records_from fields means stamp n (split 10 (drop from text)) ≡ []
  records_end text from h = rw (drop_all from text h)

  pub ending_end : (log : ℕ) (text : List ℕ) (from : ℕ) → length text ≤ from → ending_from fields means stamp log n (split 10 (drop from text)) ≡ clean_end
  ending_end log text from h = rw (drop_all from text h)

  pub records_fault : (ps : List (List ℕ)) (f : Fault) → judged fields means stamp n ps ≡ Err f → records_from fields means stamp n ps ≡ []
  records_fault [] f e = refl
  records_fault (p ∷ ps) f e = ap (λ r. before r (records_from fields means stamp (n + 1) ps)) e

  pub ending_stops : (log : ℕ) (ps : List (List ℕ)) (f : Fault) → at_end ps ≡ false → judged fields means stamp n ps ≡ Err f →
      ending_from fields means stamp log n ps ≡ fault_end log f
  ending_stops log [] f t e = absurd (cc)
  ending_stops log (p ∷ ps) f t e = cond-false (at_end (p ∷ ps)) clean_end _ t ∙ ap (λ r. unless log r (ending_from fields means stamp log (n + 1) ps)) e

  pub ending_fault : (log : ℕ) (text : List ℕ) (from : ℕ) (f : Fault) → from < length text → judged fields means stamp n (split 10 (drop from text)) ≡ Err f →
      ending_from fields means stamp log n (split 10 (drop from text)) ≡ fault_end log f
  ending_fault log text from f h e = ending_stops log (split 10 (drop from text)) f (text_left (drop from text) (omega (arith, length-drop from text))) e

-- what is read at the end of a text, and at a fault
pub ruleset ends_here = (records_end, ending_end, records_fault, ending_fault)
