-- Why a text is read exactly as it is made.
use Rattle.std.proofs.Common.{◌≡◌, ℕ, ◌+◌, ◌<◌, ◌≤◌, Bool, true, false, cond, not, ◌&&◌, eqb, ltb, leb, List, [], ◌∷◌, length, get_or, drop, Some, None, Ok, Err, codes, Option, Result, sym, refl, ap, ◌∙◌, subst, arith}
use Rattle.std.proofs.lemmas.Slice.Eq.{bytes_eq-Decides}
use Rattle.std.proofs.lemmas.Bool.{and_parts, eqb-true, eqb-false, eq-eqb, ne_eqb, leb-true, le-leb, ltb-true, lt-ltb, not-true, cond-true, cond-false, false≢true}
use Rattle.std.specs.Str.{bytes_eq}
use Rattle.text.specs.declared.fault.Fault.{Fault}
use Rattle.text.specs.Lines.{line_of}
use Rattle.text.specs.Names.{is_name}
use Rattle.text.specs.Split.{split}
use Rattle.text.proofs.Splits.{split_some_part}
use Rattle.kinds.specs.Fields.{Takes, admitted}
use Rattle.text.specs.Following.{then}
use Rattle.definitions.specs.declared.words.Word.{Word}
use Rattle.definitions.specs.declared.words.Word.TheVariants.{Chronicle as Opens, Var, Bound, End}
use Rattle.definitions.specs.Chronicles.{Chronicle, Said}
use Rattle.definitions.specs.Chronicles.Said.{opening, variable, limit, closing}
use Rattle.definitions.specs.Grammar.{Spells, Follows, SoundLine, MadeOf, FirstFault, ReadAsMade}
use Rattle.definitions.specs.Grammar.Spells.{chronicle_line, var_line, bound_line, end_line}
use Rattle.definitions.specs.Grammar.Follows.{opens, names, bounds, ends}
use Rattle.definitions.specs.Grammar.MadeOf.{last, more}
use Rattle.definitions.specs.Grammar.FirstFault.{here, later}
use Rattle.definitions.specs.Lines.{word_at, fields_of, small, valued, worded, item_of}
use Rattle.definitions.specs.Reading.{blank, is_loaded, is_closing, is_pair, accepted, Sound, Reading, judged, after, read_from}
use Rattle.definitions.proofs.Drafting.{pair_passes}
use Rattle.definitions.proofs.Items.{given_some, item_valued}
use Rattle.definitions.proofs.Judging.{given_ok, cond_ok, same_ok, judged_is}
use Rattle.definitions.proofs.Progress.{then_ok}

-- a word of line n, letter by letter
abbrev Stands : ℕ → List ℕ → Word → Type 0
Stands n f Opens = (n ≡ 1) × (f ≡ codes "chronicle")
Stands n f Var = (n ≡ 1 → ⊥) × (f ≡ codes "var")
Stands n f Bound = (n ≡ 1 → ⊥) × (f ≡ codes "bound")
Stands n f End = (n ≡ 1 → ⊥) × (f ≡ codes "end")

never : {A : Type 0} {w : Word} → None ≡ Some w → A
never e = let z : ◌≡◌ {A = ℕ} 0 1 = cc in absurd (omega arith)

same_some : {v w : Word} → Some v ≡ Some w → v ≡ w
same_some e = cc

word_stands : (n : ℕ) (f : List ℕ) (w : Word) → word_at n f ≡ Some w → Stands n f w
word_stands n f w e =
    go (eqb n 1) (bytes_eq f (codes "chronicle")) (bytes_eq f (codes "var")) (bytes_eq f (codes "bound")) (bytes_eq f (codes "end")) refl refl refl refl refl e
  where
    go : (a b c d g : Bool) → eqb n 1 ≡ a → bytes_eq f (codes "chronicle") ≡ b → bytes_eq f (codes "var") ≡ c → bytes_eq f (codes "bound") ≡ d → bytes_eq f (codes "end") ≡ g →
        cond a (cond b (Some Opens) None) (cond c (Some Var) (cond d (Some Bound) (cond g (Some End) None))) ≡ Some w → Stands n f w
    go true true c d g ha hb hc hd hg e = subst (Stands n f) (same_some e) (eqb-true n 1 ha, (bytes_eq-Decides f (codes "chronicle")).0 hb)
    go true false c d g ha hb hc hd hg e = never e
    go false b true d g ha hb hc hd hg e = subst (Stands n f) (same_some e) (eqb-false n 1 ha, (bytes_eq-Decides f (codes "var")).0 hc)
    go false b false true g ha hb hc hd hg e = subst (Stands n f) (same_some e) (eqb-false n 1 ha, (bytes_eq-Decides f (codes "bound")).0 hd)
    go false b false false true ha hb hc hd hg e = subst (Stands n f) (same_some e) (eqb-false n 1 ha, (bytes_eq-Decides f (codes "end")).0 hg)
    go false b false false false ha hb hc hd hg e = never e

stands_word : (n : ℕ) (f : List ℕ) (w : Word) → Stands n f w → word_at n f ≡ Some w
stands_word n f Opens h = ap (word_at n) h.1 ∙ cond-true (eqb n 1) _ _ (eq-eqb n 1 h.0)
stands_word n f Var h = ap (word_at n) h.1 ∙ cond-false (eqb n 1) _ _ (ne_eqb n 1 h.0)
stands_word n f Bound h = ap (word_at n) h.1 ∙ cond-false (eqb n 1) _ _ (ne_eqb n 1 h.0)
stands_word n f End h = ap (word_at n) h.1 ∙ cond-false (eqb n 1) _ _ (ne_eqb n 1 h.0)

-- so many fields, written out
one_field : (fs : List (List ℕ)) → length fs ≡ 1 → fs ≡ get_or fs 0 [] ∷ []
one_field [] e = absurd (omega arith)
one_field (f ∷ []) e = refl
one_field (f ∷ g ∷ fs) e = absurd (omega arith)

two_fields : (fs : List (List ℕ)) → length fs ≡ 2 → fs ≡ get_or fs 0 [] ∷ get_or fs 1 [] ∷ []
two_fields [] e = absurd (omega arith)
two_fields (f ∷ []) e = absurd (omega arith)
two_fields (f ∷ g ∷ []) e = refl
two_fields (f ∷ g ∷ h ∷ fs) e = absurd (omega arith)

three_fields : (fs : List (List ℕ)) → 3 ≤ length fs → fs ≡ get_or fs 0 [] ∷ get_or fs 1 [] ∷ get_or fs 2 [] ∷ drop 3 fs
three_fields [] e = absurd (omega arith)
three_fields (f ∷ []) e = absurd (omega arith)
three_fields (f ∷ g ∷ []) e = absurd (omega arith)
three_fields (f ∷ g ∷ h ∷ fs) e = refl

module _ {G : Type 0} (fields : ℕ) (means : List (List ℕ) → Option G) (bound : G → Bool) (takes : Takes fields means) where
  admitted_is : (o : Option G) (c : G) → admitted bound o ≡ Some c → (o ≡ Some c) × (bound c ≡ true)
  admitted_is None c e = let z : ◌≡◌ {A = ℕ} 0 1 = cc in absurd (omega arith)
  admitted_is (Some x) c e = go (bound x) refl e
    where
      go : (b : Bool) → bound x ≡ b → cond b (Some x) None ≡ Some c → (Some x ≡ Some c) × (bound c ≡ true)
      go true h e = (e, subst (λ y. bound y ≡ true) (let s : x ≡ c = cc in s) h)
      go false h e = let z : ◌≡◌ {A = ℕ} 0 1 = cc in absurd (omega arith)

  spelled_out : (n : ℕ) (fs : List (List ℕ)) (said : Said G) (w : Word) → Stands n (get_or fs 0 []) w → length fs ≡ fields_of fields w → valued fields means bound n w fs ≡ Ok said → Spells means bound n fs said
  spelled_out n fs said Opens stands count e =
      let s = given_ok (small (get_or fs 1 [])) _ _ said e in
      let is = two_fields fs count ∙ ap (λ f. f ∷ get_or fs 1 [] ∷ []) stands.1 in
      subst (λ l. Spells means bound n l said) (sym is) (subst (Spells means bound n (codes "chronicle" ∷ get_or fs 1 [] ∷ [])) (same_ok s.2) (chronicle_line stands.0 s.1))
  spelled_out n fs said Var stands count e =
      let s = cond_ok (is_name (get_or fs 1 [])) _ _ said e in
      let is = two_fields fs count ∙ ap (λ f. f ∷ get_or fs 1 [] ∷ []) stands.1 in
      subst (λ l. Spells means bound n l said) (sym is) (subst (Spells means bound n (codes "var" ∷ get_or fs 1 [] ∷ [])) (same_ok s.1) (var_line stands.0 s.0))
  spelled_out n fs said Bound stands count e =
      let i = given_ok (small (get_or fs 1 [])) _ _ said e in
      let j = given_ok (small (get_or fs 2 [])) _ _ said i.2 in
      let c = given_ok (admitted bound (means (drop 3 fs))) _ _ said j.2 in
      let m = admitted_is (means (drop 3 fs)) c.0 c.1 in
      let is = three_fields fs (omega arith) ∙ ap (λ f. f ∷ get_or fs 1 [] ∷ get_or fs 2 [] ∷ drop 3 fs) stands.1 in
      subst (λ l. Spells means bound n l said) (sym is)
      (subst (Spells means bound n (codes "bound" ∷ get_or fs 1 [] ∷ get_or fs 2 [] ∷ drop 3 fs)) (same_ok c.2) (bound_line stands.0 i.1 j.1 m.0 m.1))
  spelled_out n fs said End stands count e =
      let is = one_field fs count ∙ ap (λ f. f ∷ []) stands.1 in
      subst (λ l. Spells means bound n l said) (sym is) (subst (Spells means bound n (codes "end" ∷ [])) (same_ok e) (end_line stands.0))

  pub item_spells : (n : ℕ) (fs : List (List ℕ)) (said : Said G) → item_of fields means bound n fs ≡ Ok said → Spells means bound n fs said
  item_spells n fs said e =
      let w = given_ok (word_at n (get_or fs 0 [])) _ (worded fields means bound n fs) said e in
      let v = cond_ok (eqb (length fs) (fields_of fields w.0)) _ _ said w.2 in
      spelled_out n fs said w.0 (word_stands n (get_or fs 0 []) w.0 w.1) (eqb-true (length fs) (fields_of fields w.0) v.0) v.1

  pub spells_item : {n : ℕ} {fs : List (List ℕ)} {said : Said G} → Spells means bound n fs said → item_of fields means bound n fs ≡ Ok said
  spells_item {n} (chronicle_line {f} {s} one is) =
      item_valued fields means bound n (codes "chronicle" ∷ f ∷ []) Opens (stands_word n (codes "chronicle") Opens (one, refl)) refl ∙ given_some (small f) _ _ s is
  spells_item {n} (var_line {f} other is) =
      item_valued fields means bound n (codes "var" ∷ f ∷ []) Var (stands_word n (codes "var") Var (other, refl)) refl ∙ cond-true (is_name f) _ _ is
  spells_item {n} (bound_line {f} {g} {cs} {i} {j} {c} other fi gj is allowed) =
      item_valued fields means bound n (codes "bound" ∷ f ∷ g ∷ cs) Bound (stands_word n (codes "bound") Bound (other, refl)) (omega (arith, takes.counted cs c is))
      ∙ given_some (small f) _ _ i fi ∙ given_some (small g) _ _ j gj
      ∙ given_some (admitted bound (means cs)) _ _ c (ap (admitted bound) is ∙ cond-true (bound c) _ _ allowed)
  spells_item {n} (end_line other) = item_valued fields means bound n (codes "end" ∷ []) End (stands_word n (codes "end") End (other, refl)) refl

cond_err : {B : Type 0} (b : Bool) (f : Fault) (r : Result B Fault) (y : B) → cond b (Err f) r ≡ Ok y → (b ≡ false) × (r ≡ Ok y)
cond_err true f r y e = let z : ◌≡◌ {A = ℕ} 0 1 = cc in absurd (omega arith)
cond_err false f r y e = (refl, e)

module _ {G : Type 0} (loaded : List Bool) where
  pub accepted_follows : (n : ℕ) (d : Chronicle G) (said : Said G) (made : Chronicle G) → accepted loaded n d said ≡ Ok made → Follows loaded d said made
  accepted_follows n d (opening s) made e = let h = cond_err (is_loaded loaded s) _ _ made e in subst (Follows loaded d (opening s)) (same_ok h.1) (opens h.0)
  accepted_follows n d (variable name) made e = let h = cond_ok (ltb (length d.types) 8) _ _ made e in subst (Follows loaded d (variable name)) (same_ok h.1) (names (ltb-true _ 8 h.0))
  accepted_follows n d (limit l) made e =
      let h = cond_ok (ltb (length d.limits) 64) _ _ made e in
      let k = cond_ok (is_pair d l) _ _ made h.1 in
      let p = and_parts (ltb l.from (length d.types)) (ltb l.to (length d.types) && not (eqb l.from l.to)) k.0 in
      let q = and_parts (ltb l.to (length d.types)) (not (eqb l.from l.to)) p.1 in
      subst (Follows loaded d (limit l)) (same_ok k.1) (bounds (ltb-true _ 64 h.0) (ltb-true _ _ p.0) (ltb-true _ _ q.0) (eqb-false _ _ (not-true _ q.1)))
  accepted_follows n d closing made e = let h = cond_ok (ltb 0 (length d.types)) _ _ made e in subst (Follows loaded d closing) (same_ok h.1) (ends (ltb-true 0 _ h.0))

  pub follows_accepted : (n : ℕ) {d : Chronicle G} {said : Said G} {made : Chronicle G} → Follows loaded d said made → accepted loaded n d said ≡ Ok made
  follows_accepted n {d} (opens {s} free) = cond-false (is_loaded loaded s) _ _ free
  follows_accepted n {d} (names few) = cond-true (ltb (length d.types) 8) _ _ (lt-ltb _ 8 few)
  follows_accepted n {d} (bounds {l} few p q ne) = cond-true (ltb (length d.limits) 64) _ _ (lt-ltb _ 64 few) ∙ cond-true (is_pair d l) _ _ (pair_passes d l p q ne)
  follows_accepted n {d} (ends some) = cond-true (ltb 0 (length d.types)) _ _ (lt-ltb 0 _ some)

-- a line that is read ends with a line feed
line_cut : (n : ℕ) (ps : List (List ℕ)) (l : List ℕ) → line_of n ps ≡ Ok l → (next : List ℕ) × (rest : List (List ℕ)) × (ps ≡ l ∷ next ∷ rest) × (length l ≤ 80)
line_cut n [] l e = let z : ◌≡◌ {A = ℕ} 0 1 = cc in absurd (omega arith)
line_cut n (p ∷ []) l e = let z : ◌≡◌ {A = ℕ} 0 1 = let h = (cond_err (eqb (length p) 0) _ _ l e).1 in cc in absurd (omega arith)
line_cut n (p ∷ q ∷ ps) l e =
    let h = cond_ok (leb (length p) 80) (Ok p) _ l e in
    let is = same_ok h.1 in
    (q, ps, ap (λ x. x ∷ q ∷ ps) is, subst (λ x. length x ≤ 80) is (leb-true _ 80 h.0))

module _ {G : Type 0} (fields : ℕ) (means : List (List ℕ) → Option G) (bound : G → Bool) (takes : Takes fields means) (loaded : List Bool) where
  abbrev Judged : ℕ → Chronicle G → List (List ℕ) → Result (Sound G) Fault
  Judged = judged fields means bound loaded

  abbrev From : ℕ → ℕ → Chronicle G → List (List ℕ) → Result (Reading G) Fault
  From = read_from fields means bound loaded

  judged_sound : (n : ℕ) (d : Chronicle G) (ps : List (List ℕ)) (s : Sound G) → Judged n d ps ≡ Ok s →
      (line : List ℕ) × (next : List ℕ) × (rest : List (List ℕ)) × (ps ≡ line ∷ next ∷ rest) × SoundLine means bound loaded n d line s.says s.makes
  judged_sound n d ps s e =
      let line = then_ok (line_of n ps) _ s e in
      let said = then_ok (item_of fields means bound n (split 9 line.0)) _ s line.2 in
      let made = then_ok (accepted loaded n d said.0) _ s said.2 in
      let is = same_ok made.2 in
      let cut = line_cut n ps line.0 line.1 in (
        line.0,
        cut.0,
        cut.1,
        cut.2,
        subst (λ x. SoundLine means bound loaded n d line.0 x.says x.makes) is (record {
          short = cut.3;
          spells = item_spells fields means bound takes n (split 9 line.0) said.0 said.1;
          follows = accepted_follows loaded n d said.0 made.0 made.1;
        }),
      )

  sound_judged : (n : ℕ) (d : Chronicle G) (line next : List ℕ) (rest : List (List ℕ)) (said : Said G) (made : Chronicle G) → SoundLine means bound loaded n d line said made →
      Judged n d (line ∷ next ∷ rest) ≡ Ok (record { says = said; makes = made })
  sound_judged n d line next rest said made sound =
      judged_is fields means bound loaded n d (line ∷ next ∷ rest) line (cond-true (leb (length line) 80) _ _ (le-leb _ 80 sound.short)) said (spells_item fields means bound takes sound.spells)
      ∙ ap (λ a. then a (λ m. Ok (record { says = said; makes = m }))) (follows_accepted loaded n sound.follows)

  read_on_lem : (n used : ℕ) (d : Chronicle G) (p : List ℕ) (ps : List (List ℕ)) (j : Result (Sound G) Fault) → Judged n d (p ∷ ps) ≡ j →
      From n used d (p ∷ ps) ≡ after fields means bound loaded n (used + length p + 1) j (λ d'. From (n + 1) (used + length p + 1) d' ps)
  unfolding read_from
  read_on_lem n used d p ps j e = ap (λ k. after fields means bound loaded n (used + length p + 1) k (λ d'. From (n + 1) (used + length p + 1) d' ps)) e

  made_read : {n used : ℕ} {d : Chronicle G} {ps : List (List ℕ)} {r : Reading G} → MadeOf means bound loaded n used d ps r → From n used d ps ≡ Ok r
  made_read {n} {used} {d} (last {made = made} {line = line} {next} {rest} sound) = read_on_lem n used d line (next ∷ rest) (Ok _) (sound_judged n d line next rest closing made sound)
  made_read {n} {used} {d} (more {made = made} {said} {line} {next} {rest} sound goes on) =
      read_on_lem n used d line (next ∷ rest) (Ok _) (sound_judged n d line next rest said made sound) ∙ cond-false (is_closing said) _ _ goes ∙ made_read on

  fault_read : {n : ℕ} {d : Chronicle G} {ps : List (List ℕ)} {f : Fault} → FirstFault fields means bound loaded n d ps f → (used : ℕ) → 0 < length ps → From n used d ps ≡ Err f
  fault_read {n} {d} {ps} {f} (here e) used h = go ps h e
    where
      go : (ps : List (List ℕ)) → 0 < length ps → Judged n d ps ≡ Err f → From n used d ps ≡ Err f
      go [] h e = absurd (omega arith)
      go (p ∷ ps) h e = read_on_lem n used d p ps (Err f) e
  fault_read {n} {d} (later {made = made} {said} {line} {next} {rest} sound goes on) used h =
      read_on_lem n used d line (next ∷ rest) (Ok _) (sound_judged n d line next rest said made sound) ∙ cond-false (is_closing said) _ _ goes ∙ fault_read on (used + length line + 1) (omega arith)

  closing_is : (said : Said G) → is_closing said ≡ true → said ≡ closing
  closing_is (opening s) e = absurd (false≢true e)
  closing_is (variable name) e = absurd (false≢true e)
  closing_is (limit l) e = absurd (false≢true e)
  closing_is closing e = refl

  -- a sound line at the front of a text, by its line feed
  fronted : (n : ℕ) (d : Chronicle G) (p : List ℕ) (ps : List (List ℕ)) (s : Sound G) → Judged n d (p ∷ ps) ≡ Ok s →
      SoundLine means bound loaded n d p s.says s.makes × ((next : List ℕ) × (rest : List (List ℕ)) × (ps ≡ next ∷ rest))
  fronted n d p ps s e =
      let h = judged_sound n d (p ∷ ps) s e in
      let is = h.3 in
      let first : p ≡ h.0 = cc in
      let others : ps ≡ h.1 ∷ h.2 = cc in
      (subst (λ l. SoundLine means bound loaded n d l s.says s.makes) (sym first) h.4, (h.1, h.2, others))

  wrong : {A B : Type 0} {x : B} {f : Fault} {r : Result B Fault} → r ≡ Err f → r ≡ Ok x → A
  wrong p q = let z : ◌≡◌ {A = ℕ} 0 1 = cc in absurd (omega arith)

  pub read_made : (n used : ℕ) (d : Chronicle G) (ps : List (List ℕ)) (r : Reading G) → From n used d ps ≡ Ok r → MadeOf means bound loaded n used d ps r
  unfolding read_from
  read_made n used d [] r e = wrong refl e
  read_made n used d (p ∷ ps) r e = go (Judged n d (p ∷ ps)) refl (λ made. read_made (n + 1) (used + length p + 1) made ps r)
    where
      go : (j : Result (Sound G) Fault) → Judged n d (p ∷ ps) ≡ j → ((made : Chronicle G) → From (n + 1) (used + length p + 1) made ps ≡ Ok r → MadeOf means bound loaded (n + 1) (used + length p + 1) made ps r) → MadeOf means bound loaded n used d (p ∷ ps) r
      go (Err f) j on = wrong (read_on_lem n used d p ps (Err f) j) e
      go (Ok s) j on = by (is_closing s.says) refl
        where
          front : SoundLine means bound loaded n d p s.says s.makes × ((next : List ℕ) × (rest : List (List ℕ)) × (ps ≡ next ∷ rest))
          front = fronted n d p ps s j

          by : (b : Bool) → is_closing s.says ≡ b → MadeOf means bound loaded n used d (p ∷ ps) r
          by true c =
              let is = same_ok (sym (read_on_lem n used d p ps (Ok s) j ∙ cond-true (is_closing s.says) _ _ c) ∙ e) in
              subst (MadeOf means bound loaded n used d (p ∷ ps)) is
              (subst (λ qs. MadeOf means bound loaded n used d (p ∷ qs) (record { chronicle = s.makes; lines = n; used = used + length p + 1 })) (sym front.1.2)
              (last (subst (λ said. SoundLine means bound loaded n d p said s.makes) (closing_is s.says c) front.0)))
          by false c =
              let rest = on s.makes (sym (cond-false (is_closing s.says) _ _ c) ∙ sym (read_on_lem n used d p ps (Ok s) j) ∙ e) in
              subst (λ qs. MadeOf means bound loaded n used d (p ∷ qs) r) (sym front.1.2)
              (more front.0 c (subst (λ qs. MadeOf means bound loaded (n + 1) (used + length p + 1) s.makes qs r) front.1.2 rest))

  same_err : {x y : Fault} → ◌≡◌ {A = Result (Reading G) Fault} (Err x) (Err y) → x ≡ y
  same_err e = cc

  read_faulty : (n used : ℕ) (d : Chronicle G) (ps : List (List ℕ)) (f : Fault) → 0 < length ps → From n used d ps ≡ Err f → FirstFault fields means bound loaded n d ps f
  unfolding read_from
  read_faulty n used d [] f h e = absurd (omega arith)
  read_faulty n used d (p ∷ ps) f h e = go (Judged n d (p ∷ ps)) refl (λ made. read_faulty (n + 1) (used + length p + 1) made ps f)
    where
      go : (j : Result (Sound G) Fault) → Judged n d (p ∷ ps) ≡ j → ((made : Chronicle G) → 0 < length ps → From (n + 1) (used + length p + 1) made ps ≡ Err f → FirstFault fields means bound loaded (n + 1) made ps f) → FirstFault fields means bound loaded n d (p ∷ ps) f
      go (Err g) j on = here (j ∙ ap Err (same_err (sym (read_on_lem n used d p ps (Err g) j) ∙ e)))
      go (Ok s) j on = by (is_closing s.says) refl
        where
          front : SoundLine means bound loaded n d p s.says s.makes × ((next : List ℕ) × (rest : List (List ℕ)) × (ps ≡ next ∷ rest))
          front = fronted n d p ps s j

          by : (b : Bool) → is_closing s.says ≡ b → FirstFault fields means bound loaded n d (p ∷ ps) f
          by true c = wrong e (read_on_lem n used d p ps (Ok s) j ∙ cond-true (is_closing s.says) _ _ c)
          by false c =
              let some : 0 < length ps = omega (arith, ap length front.1.2) in
              let rest = on s.makes some (sym (cond-false (is_closing s.says) _ _ c) ∙ sym (read_on_lem n used d p ps (Ok s) j) ∙ e) in
              subst (λ qs. FirstFault fields means bound loaded n d (p ∷ qs) f) (sym front.1.2)
              (later front.0 c (subst (λ qs. FirstFault fields means bound loaded (n + 1) s.makes qs f) front.1.2 rest))

  pub read_as_made : (text : List ℕ) → ReadAsMade fields means bound loaded text
  read_as_made text = record {
    made = λ r. (read_made 1 0 blank (split 10 text) r, made_read);
    faulty = λ f. (read_faulty 1 0 blank (split 10 text) f (split_some_part 10 text), λ h. fault_read h 0 (split_some_part 10 text));
  }
