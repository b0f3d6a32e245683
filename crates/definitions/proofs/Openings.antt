-- What is known of every definition that is read, and why its slot is that of the first line.
use Rattle.std.proofs.Common.{◌≡◌, ℕ, ◌<◌, ◌≤◌, Bool, true, false, cond, ◌&&◌, leb, List, [], length, drop, ℤ, pos, negsuc, nat_abs, Some, None, Ok, Err, Option, sym, refl, ap, ◌∙◌, subst, ⊎_elim, arith}
use lib.Signed.{le_z}
use Rattle.std.proofs.lemmas.List.{length_push}
use Rattle.std.proofs.lemmas.Bool.{and_parts, leb-true, false≢true}
use Rattle.std.specs.Option.{option_map}
use Rattle.text.specs.declared.fault.Cause.TheVariants.{SlotLoaded}
use Rattle.text.specs.declared.fault.Fault.{Fault}
use Rattle.text.specs.Faults.{fault_at}
use Rattle.text.specs.Lines.{line_of}
use Rattle.text.specs.Numbers.{whole, within}
use Rattle.text.specs.Split.{split}
use Rattle.text.specs.Following.{then}
use Rattle.kinds.specs.Fields.{Takes}
use Rattle.definitions.specs.Chronicles.{Chronicle, Said, Given}
use Rattle.definitions.specs.Chronicles.Said.{opening}
use Rattle.definitions.specs.Grammar.{Spells, Follows, SoundLine, MadeOf}
use Rattle.definitions.specs.Grammar.Spells.{chronicle_line, var_line, bound_line, end_line}
use Rattle.definitions.specs.Grammar.Follows.{opens, names, bounds, ends}
use Rattle.definitions.specs.Grammar.MadeOf.{last, more}
use Rattle.definitions.specs.Lines.{small, item_of}
use Rattle.definitions.specs.Openings.{Opened, Opens}
use Rattle.definitions.specs.Reading.{blank, is_loaded, with_slot, Reading, judged, reading_of}
use Rattle.definitions.specs.Steps.{line_end}
use Rattle.definitions.proofs.Drafting.{given_push}
use Rattle.definitions.proofs.Grammar.{item_spells, read_made}
use Rattle.definitions.proofs.Judging.{judged_is, judged_line, judged_item}
use Rattle.definitions.proofs.Progress.{read_fault, read_on_lem, reading_some}

-- a slot or a variable is 1 to 8
small-within : (f : List ℕ) (s : ℕ) → small f ≡ Some s → (1 ≤ s) × (s ≤ 8)
small-within f s e = go (whole f) e
  where
    some : (z : ℤ) (b : Bool) → (le_z (pos 1) z && le_z z (pos 8)) ≡ b → option_map nat_abs (cond b (Some z) None) ≡ Some s → (1 ≤ s) × (s ≤ 8)
    some (pos n) true h e =
        let p = and_parts (leb 1 n) (leb n 8) h in
        let is : n ≡ s = cc in
        (omega (arith, leb-true 1 n p.0), omega (arith, leb-true n 8 p.1))
    some (negsuc n) true h e = absurd (false≢true h)
    some z false h e = let z : ◌≡◌ {A = ℕ} 0 1 = cc in absurd (omega arith)

    go : (o : Option ℤ) → option_map nat_abs (within (pos 1) (pos 8) o) ≡ Some s → (1 ≤ s) × (s ≤ 8)
    go None e = let z : ◌≡◌ {A = ℕ} 0 1 = cc in absurd (omega arith)
    go (Some z) e = some z (le_z (pos 1) z && le_z z (pos 8)) refl e

module _ {G : Type 0} where
  -- no line but a chronicle line says a slot
  spells_slot : {means : List (List ℕ) → Option G} {bound : G → Bool} {n : ℕ} {fs : List (List ℕ)} {said : Said G} → Spells means bound n fs said → (s : ℕ) → said ≡ opening s → (n ≡ 1) × (1 ≤ s) × (s ≤ 8)
  spells_slot (chronicle_line {f} {s = t} one is) s e =
      let same : t ≡ s = cc in
      let w = small-within f t is in
      (one, omega (arith, w.0), omega (arith, w.1))
  spells_slot (var_line other is) s e = let z : ◌≡◌ {A = ℕ} 0 1 = cc in absurd (omega arith)
  spells_slot (bound_line other i j is allowed) s e = let z : ◌≡◌ {A = ℕ} 0 1 = cc in absurd (omega arith)
  spells_slot (end_line other) s e = let z : ◌≡◌ {A = ℕ} 0 1 = cc in absurd (omega arith)

  -- the first line says one
  spells_first : {means : List (List ℕ) → Option G} {bound : G → Bool} {n : ℕ} {fs : List (List ℕ)} {said : Said G} → Spells means bound n fs said → n ≡ 1 → (s : ℕ) × (said ≡ opening s) × (1 ≤ s) × (s ≤ 8)
  spells_first (chronicle_line {f} {s = t} one is) e = let w = small-within f t is in (t, refl, w.0, w.1)
  spells_first (var_line other is) e = absurd (other e)
  spells_first (bound_line other i j is allowed) e = absurd (other e)
  spells_first (end_line other) e = absurd (other e)

  follows_slot : {loaded : List Bool} {d : Chronicle G} {said : Said G} {made : Chronicle G} → Follows loaded d said made → ((s : ℕ) → said ≡ opening s → ⊥) → made.slot ≡ d.slot
  follows_slot (opens {s} free) other = absurd (other s refl)
  follows_slot (names few) other = refl
  follows_slot (bounds few p q ne) other = refl
  follows_slot (ends some) other = refl

  follows_free : {loaded : List Bool} {d : Chronicle G} {said : Said G} {made : Chronicle G} → Follows loaded d said made → (s : ℕ) → said ≡ opening s → (made.slot ≡ s) × (is_loaded loaded s ≡ false)
  follows_free {loaded} (opens {s = t} free) s e = let same : t ≡ s = cc in (same, subst (λ x. is_loaded loaded x ≡ false) same free)
  follows_free (names few) s e = let z : ◌≡◌ {A = ℕ} 0 1 = cc in absurd (omega arith)
  follows_free (bounds few p q ne) s e = let z : ◌≡◌ {A = ℕ} 0 1 = cc in absurd (omega arith)
  follows_free (ends some) s e = let z : ◌≡◌ {A = ℕ} 0 1 = cc in absurd (omega arith)

  -- at most eight variables, and bounds between them
  record Fit (d : Chronicle G) : Type 0 where
    few : length d.types ≤ 8
    between : (i j : ℕ) (c : G) → Given d.limits i j c → (i < length d.types) × (j < length d.types)

  follows_fit : {loaded : List Bool} {d : Chronicle G} {said : Said G} {made : Chronicle G} → Follows loaded d said made → Fit d → Fit made
  follows_fit (opens free) fit = record { few = fit.few; between = fit.between }
  follows_fit {d = d} (names {name} few) fit = record {
    few = omega (arith, length_push d.types name);
    between = λ i j c g. let h = fit.between i j c g in (omega (arith, length_push d.types name, h.0), omega (arith, length_push d.types name, h.1));
  }
  follows_fit {d = d} (bounds {l} few p q ne) fit = record {
    few = fit.few;
    between = λ i j c g. ⊎_elim (fit.between i j c) (λ h. (omega (arith, h.0, p), omega (arith, h.1, q))) (given_push l i j c d.limits g);
  }
  follows_fit (ends some) fit = fit

  module _ {means : List (List ℕ) → Option G} {bound : G → Bool} {loaded : List Bool} where
    sound_slot : {n : ℕ} {d : Chronicle G} {line : List ℕ} {said : Said G} {made : Chronicle G} → SoundLine means bound loaded n d line said made → 1 < n → made.slot ≡ d.slot
    sound_slot sound later = follows_slot sound.follows (λ s e. let one = (spells_slot sound.spells s e).0 in omega (arith, one))

    -- after the first line the slot stays
    made_slot : {n used : ℕ} {d : Chronicle G} {ps : List (List ℕ)} {r : Reading G} → MadeOf means bound loaded n used d ps r → 1 < n → r.chronicle.slot ≡ d.slot
    made_slot (last sound) later = sound_slot sound later
    made_slot (more sound goes on) later = made_slot on (omega arith) ∙ sound_slot sound later

    made_fit : {n used : ℕ} {d : Chronicle G} {ps : List (List ℕ)} {r : Reading G} → MadeOf means bound loaded n used d ps r → Fit d → Fit r.chronicle
    made_fit (last sound) fit = follows_fit sound.follows fit
    made_fit (more sound goes on) fit = made_fit on (follows_fit sound.follows fit)

    sound_first : {n : ℕ} {d : Chronicle G} {line : List ℕ} {said : Said G} {made : Chronicle G} → SoundLine means bound loaded n d line said made → n ≡ 1 → (1 ≤ made.slot) × (made.slot ≤ 8) × (is_loaded loaded made.slot ≡ false)
    sound_first sound one =
        let s = spells_first sound.spells one in
        let f = follows_free sound.follows s.0 s.1 in
        (omega (arith, f.0, s.2), omega (arith, f.0, s.3), ap (is_loaded loaded) f.0 ∙ f.1)

    made_first : {n used : ℕ} {d : Chronicle G} {ps : List (List ℕ)} {r : Reading G} → MadeOf means bound loaded n used d ps r → n ≡ 1 → (1 ≤ r.chronicle.slot) × (r.chronicle.slot ≤ 8) × (is_loaded loaded r.chronicle.slot ≡ false)
    made_first (last sound) one = sound_first sound one
    made_first (more sound goes on) one =
        let s = sound_first sound one in
        let kept = made_slot on (omega arith) in
        (omega (arith, kept, s.0), omega (arith, kept, s.1), ap (is_loaded loaded) kept ∙ s.2)

-- a chronicle that was read: into an empty slot, with 1 to 8 variables, and bounds between them
pub record Proper {G : Type 0} (loaded : List Bool) (d : Chronicle G) : Type 0 where
  pub first : 1 ≤ d.slot
  pub last : d.slot ≤ 8
  pub free : is_loaded loaded d.slot ≡ false
  pub some : 0 < length d.types
  pub few : length d.types ≤ 8
  pub between : (i j : ℕ) (c : G) → Given d.limits i j c → (i < length d.types) × (j < length d.types)

module _ {G : Type 0} (fields : ℕ) (means : List (List ℕ) → Option G) (bound : G → Bool) (takes : Takes fields means) (loaded : List Bool) (text : List ℕ) where
  pub reading_proper : (r : Reading G) → reading_of fields means bound loaded text ≡ Ok r → Proper loaded r.chronicle
  reading_proper r e =
      let made = read_made fields means bound takes loaded 1 0 blank (split 10 text) r e in
      let slot = made_first made refl in
      let fit = made_fit made (record { few = omega arith; between = λ i j c g. absurd g }) in
      record {
        first = slot.0;
        last = slot.1;
        free = slot.2;
        some = reading_some fields means bound loaded 1 0 blank (split 10 text) r e;
        few = fit.few;
        between = fit.between;
      }

  -- the line or what it says is at fault
  pub line_refused : (f : Fault) → line_of 1 (split 10 text) ≡ Err f → reading_of fields means bound loaded text ≡ Err f
  line_refused f e = read_fault fields means bound loaded 1 0 blank text f (judged_line fields means bound loaded 1 blank (split 10 text) f e)

  module _ (line : List ℕ) (first : line_of 1 (split 10 text) ≡ Ok line) where
    pub item_refused : (f : Fault) → item_of fields means bound 1 (split 9 line) ≡ Err f → reading_of fields means bound loaded text ≡ Err f
    item_refused f e = read_fault fields means bound loaded 1 0 blank text f (judged_item fields means bound loaded 1 blank (split 10 text) line first f e)

    -- no other line is the first
    item_opens : (said : Said G) → item_of fields means bound 1 (split 9 line) ≡ Ok said → (s : ℕ) × (said ≡ opening s) × (1 ≤ s) × (s ≤ 8)
    item_opens said e = spells_first (item_spells fields means bound takes 1 (split 9 line) said e) refl

    module _ (s : ℕ) (says : item_of fields means bound 1 (split 9 line) ≡ Ok (opening s)) where
      abbrev begun : Chronicle G
      begun = record { slot = s; types = []; limits = [] }

      judged_slot : judged fields means bound loaded 1 blank (split 10 text) ≡ then (with_slot loaded 1 blank s) (λ made. Ok (record { says = opening s; makes = made }))
      judged_slot = judged_is fields means bound loaded 1 blank (split 10 text) line first (opening s) says

      slot_refused : is_loaded loaded s ≡ true → reading_of fields means bound loaded text ≡ Err (fault_at SlotLoaded 1 2)
      slot_refused full = read_fault fields means bound loaded 1 0 blank text (fault_at SlotLoaded 1 2)
          (judged_slot ∙ ap (λ b. then (cond b (Err (fault_at SlotLoaded 1 2)) (Ok begun)) (λ made. Ok (record { says = opening s; makes = made }))) full)

      slot_opened : is_loaded loaded s ≡ false → Opened loaded (reading_of fields means bound loaded text) s
      slot_opened free =
          let w = item_opens (opening s) says in
          let same : s ≡ w.0 = let e = w.1 in cc in
          record {
            first = omega (arith, same, w.2);
            last = omega (arith, same, w.3);
            free = free;
            only = λ r e.
                let sound = judged_slot ∙ ap (λ b. then (cond b (Err (fault_at SlotLoaded 1 2)) (Ok begun)) (λ made. Ok (record { says = opening s; makes = made }))) free in
                let on = read_on_lem fields means bound loaded 1 0 blank text (record { says = opening s; makes = begun }) sound refl in
                made_slot (read_made fields means bound takes loaded 2 (line_end text 0) begun (split 10 (drop (line_end text 0) text)) r (sym on ∙ e)) (omega arith);
          }

      pub slot_opens : Opens loaded (reading_of fields means bound loaded text) (cond (is_loaded loaded s) (Err (fault_at SlotLoaded 1 2)) (Ok s))
      slot_opens = go (is_loaded loaded s) refl
        where
          go : (b : Bool) → is_loaded loaded s ≡ b → Opens loaded (reading_of fields means bound loaded text) (cond b (Err (fault_at SlotLoaded 1 2)) (Ok s))
          go true full = slot_refused full
          go false free = slot_opened free
