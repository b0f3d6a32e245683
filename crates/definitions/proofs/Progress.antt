-- One line more of a definition, and what the whole is then.
use Rattle.std.proofs.Common.{◌≡◌, ℕ, ◌+◌, ◌<◌, Bool, true, false, cond, ltb, List, [], ◌∷◌, length, drop, Ok, Err, Option, Result, sym, refl, ap, ◌∙◌, subst, arith}
use Rattle.std.proofs.lemmas.Bool.{cond-true, cond-false, ltb-true, both_ways}
use Rattle.text.specs.declared.fault.Fault.{Fault}
use Rattle.text.specs.Lines.{line_of}
use Rattle.text.specs.Split.{split}
use Rattle.text.proofs.Splits.{split_some_part}
use Rattle.text.specs.Following.{then}
use Rattle.definitions.specs.declared.reader.Definition.{Definition}
use Rattle.definitions.specs.Chronicles.{Chronicle, Said}
use Rattle.definitions.specs.Chronicles.Said.{opening, variable, limit, closing}
use Rattle.definitions.specs.Lines.{item_of}
use Rattle.definitions.specs.Reading.{is_closing, accepted, Sound, Reading, judged, after, read_from}
use Rattle.definitions.specs.Steps.{line_end, Defined, Parses}
use Rattle.definitions.proofs.Judging.{cond_ok, same_ok}
use Rattle.definitions.proofs.Lining.{line_ends, line_rest}

pub then_ok : {A B : Type 0} (r : Result A Fault) (next : A → Result B Fault) (y : B) → then r next ≡ Ok y → (x : A) × (r ≡ Ok x) × (next x ≡ Ok y)
then_ok (Ok x) next y e = (x, refl, e)
then_ok (Err f) next y e = let z : ◌≡◌ {A = ℕ} 0 1 = cc in absurd (omega arith)

module _ {G : Type 0} (fields : ℕ) (means : List (List ℕ) → Option G) (bound : G → Bool) (loaded : List Bool) where
  abbrev From : ℕ → ℕ → Chronicle G → List (List ℕ) → Result (Reading G) Fault
  From = read_from fields means bound loaded

  abbrev After : ℕ → ℕ → Result (Sound G) Fault → (Chronicle G → Result (Reading G) Fault) → Result (Reading G) Fault
  After = after fields means bound loaded

  read_cons : (n used : ℕ) (d : Chronicle G) (p : List ℕ) (ps : List (List ℕ)) →
      From n used d (p ∷ ps) ≡ After n (used + length p + 1) (judged fields means bound loaded n d (p ∷ ps)) (λ d'. From (n + 1) (used + length p + 1) d' ps)
  unfolding read_from
  read_cons n used d p ps = refl

  -- a line at fault ends the reading
  read_refused : (n used : ℕ) (d : Chronicle G) (ps : List (List ℕ)) (f : Fault) → 0 < length ps → judged fields means bound loaded n d ps ≡ Err f → From n used d ps ≡ Err f
  read_refused n used d [] f h e = absurd (omega arith)
  read_refused n used d (p ∷ ps) f h e = read_cons n used d p ps ∙ ap (λ j. After n (used + length p + 1) j (λ d'. From (n + 1) (used + length p + 1) d' ps)) e

  module _ (n used : ℕ) (d : Chronicle G) (text : List ℕ) where
    pub read_fault : (f : Fault) → judged fields means bound loaded n d (split 10 (drop used text)) ≡ Err f → From n used d (split 10 (drop used text)) ≡ Err f
    read_fault f e = read_refused n used d (split 10 (drop used text)) f (split_some_part 10 (drop used text)) e

    module _ (s : Sound G) (sound : judged fields means bound loaded n d (split 10 (drop used text)) ≡ Ok s) where
      step_on : From n used d (split 10 (drop used text)) ≡ After n (line_end text used) (Ok s) (λ d'. From (n + 1) (line_end text used) d' (split 10 (drop (line_end text used) text)))
      step_on =
          let line = then_ok (line_of n (split 10 (drop used text))) _ s sound in
          let l = line.0 in
          let rest = line_rest n used text l line.1 in
          ap (From n used d) rest ∙ read_cons n used d l (split 10 (drop (used + length l + 1) text))
          ∙ ap (λ j. After n (used + length l + 1) j (λ d'. From (n + 1) (used + length l + 1) d' (split 10 (drop (used + length l + 1) text)))) (ap (judged fields means bound loaded n d) (sym rest) ∙ sound)
          ∙ ap (λ k. After n k (Ok s) (λ d'. From (n + 1) k d' (split 10 (drop k text)))) (line_ends n used text l line.1)

      pub read_done : is_closing s.says ≡ true → From n used d (split 10 (drop used text)) ≡ Ok (record { chronicle = s.makes; lines = n; used = line_end text used })
      read_done closes = step_on ∙ cond-true (is_closing s.says) _ _ closes

      pub read_on_lem : is_closing s.says ≡ false → From n used d (split 10 (drop used text)) ≡ From (n + 1) (line_end text used) s.makes (split 10 (drop (line_end text used) text))
      read_on_lem goes = step_on ∙ cond-false (is_closing s.says) _ _ goes

  -- what is left of a text, from line n on, comes to what the whole does
  module _ (n used : ℕ) (d : Chronicle G) (text : List ℕ) (whole : Result (Reading G) Fault) (left : From n used d (split 10 (drop used text)) ≡ whole) (P : Chronicle G → Type 0) where
    pub parses_err : (f : Fault) → judged fields means bound loaded n d (split 10 (drop used text)) ≡ Err f → Parses whole P (Err f)
    parses_err f e = subst (λ r. Parses r P (Err f)) (sym (read_fault n used d text f e) ∙ left) refl

    module _ (said : Said G) (made : Chronicle G) (sound : judged fields means bound loaded n d (split 10 (drop used text)) ≡ Ok (record { says = said; makes = made })) (end : ℕ) (ends : end ≡ line_end text used) where
      pub parses_last : is_closing said ≡ true → (x : Definition) → Defined (record { chronicle = made; lines = n; used = end }) x → P made → Parses whole P (Ok x)
      parses_last closes x is holds =
          let done = read_done n used d text (record { says = said; makes = made }) sound closes in
          subst (λ r. Parses r P (Ok x)) (ap (λ k. Ok (record { chronicle = made; lines = n; used = k })) ends ∙ sym done ∙ left) (is, holds)

      pub read_next : is_closing said ≡ false → From (n + 1) end made (split 10 (drop end text)) ≡ whole
      read_next goes =
          ap (λ k. From (n + 1) k made (split 10 (drop k text))) ends
          ∙ sym (read_on_lem n used d text (record { says = said; makes = made }) sound goes) ∙ left

  closing_some : (n : ℕ) (d : Chronicle G) (said : Said G) (made : Chronicle G) → is_closing said ≡ true → accepted loaded n d said ≡ Ok made → 0 < length made.types
  closing_some n d (opening s) made c e = absurd (both_ways _ refl c)
  closing_some n d (variable name) made c e = absurd (both_ways _ refl c)
  closing_some n d (limit l) made c e = absurd (both_ways _ refl c)
  closing_some n d closing made c e =
      let h = cond_ok (ltb 0 (length d.types)) (Ok d) _ made e in
      subst (λ x. 0 < length x.types) (same_ok h.1) (ltb-true 0 _ h.0)

  judged_some : (n : ℕ) (d : Chronicle G) (ps : List (List ℕ)) (s : Sound G) → judged fields means bound loaded n d ps ≡ Ok s → is_closing s.says ≡ true → 0 < length s.makes.types
  judged_some n d ps s e c =
      let line = then_ok (line_of n ps) _ s e in
      let said = then_ok (item_of fields means bound n (split 9 line.0)) _ s line.2 in
      let made = then_ok (accepted loaded n d said.0) _ s said.2 in
      let is = same_ok made.2 in
      subst (λ x. 0 < length x.makes.types) is (closing_some n d said.0 made.0 (ap (λ x. is_closing x.says) is ∙ c) made.1)

  -- a definition that is read has a variable
  pub reading_some : (n used : ℕ) (d : Chronicle G) (ps : List (List ℕ)) (r : Reading G) → From n used d ps ≡ Ok r → 0 < length r.chronicle.types
  unfolding read_from
  reading_some n used d [] r e = let z : ◌≡◌ {A = ℕ} 0 1 = cc in absurd (omega arith)
  reading_some n used d (p ∷ ps) r e = go (judged fields means bound loaded n d (p ∷ ps)) refl e (λ d'. reading_some (n + 1) (used + length p + 1) d' ps r)
    where
      go : (j : Result (Sound G) Fault) → judged fields means bound loaded n d (p ∷ ps) ≡ j → After n (used + length p + 1) j (λ d'. From (n + 1) (used + length p + 1) d' ps) ≡ Ok r →
          ((d' : Chronicle G) → From (n + 1) (used + length p + 1) d' ps ≡ Ok r → 0 < length r.chronicle.types) → 0 < length r.chronicle.types
      go (Err f) is e on = let z : ◌≡◌ {A = ℕ} 0 1 = cc in absurd (omega arith)
      go (Ok s) is e on = end' (is_closing s.says) refl e
        where
          end' : (b : Bool) → is_closing s.says ≡ b → cond b (Ok (record { chronicle = s.makes; lines = n; used = used + length p + 1 })) (From (n + 1) (used + length p + 1) s.makes ps) ≡ Ok r → 0 < length r.chronicle.types
          end' true c e = subst (λ x. 0 < length x.chronicle.types) (same_ok e) (judged_some n d (p ∷ ps) s is c)
          end' false c e = on s.makes e
