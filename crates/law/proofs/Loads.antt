-- A definition that was read may be loaded: its slot is one of 1 to 8 and not loaded, and it has a variable.
use Rattle.std.proofs.Common.{◌≡◌, ℕ, ◌-◌, ◌<◌, ◌≤◌, Bool, true, false, cond, ◌&&◌, eqb, leb, List, [], ◌∷◌, length, ℤ, pos, negsuc, nat_abs, is_some, Some, None, Ok, Option, sym, refl, ◌∙◌, arith}
use Rattle.std.proofs.lemmas.List.FromFn.{get_or-map-range_with_len}
use Rattle.std.proofs.lemmas.Bool.{and_parts, eqb-true, leb-true, both_ways}
use Rattle.std.specs.Option.{option_map}
use Rattle.text.specs.Numbers.{whole, within}
use Rattle.kinds.specs.declared.kind.Kind.{Ghosts as Meaning}
use Rattle.definitions.specs.Chronicles.{Chronicle, Said}
use Rattle.definitions.specs.Chronicles.Said.{opening, variable, limit, closing}
use Rattle.definitions.specs.Grammar.{Spells, Follows, MadeOf}
use Rattle.definitions.specs.Grammar.Spells.{chronicle_line, var_line, bound_line, end_line}
use Rattle.definitions.specs.Grammar.Follows.{opens, names, bounds, ends}
use Rattle.definitions.specs.Grammar.MadeOf.{last, more}
use Rattle.definitions.specs.Reading.{is_loaded, Reading}
use Rattle.definitions.proofs.Grammar.{read_as_made}
use Rattle.logs.specs.Events.{Event}
use Rattle.law.specs.Calls.{loaded_slots, definition_after}
use Rattle.law.specs.Histories.{Line, Act, load, withdraw, event, loading_of}
use Rattle.law.specs.Steps.{SmallSlots}
use Rattle.law.specs.Telling.{Owes}
use Rattle.law.proofs.Events.{loaded_back}
use Rattle.law.proofs.Growing.{loading_with}
use Rattle.law.proofs.Ticks.{no_loading}

small-within : (o : Option ℤ) (s : ℕ) → option_map nat_abs (within (pos 1) (pos 8) o) ≡ Some s → (1 ≤ s) × (s ≤ 8)
small-within None s e = absurd (cc)
small-within (Some (negsuc n)) s e = absurd (cc)
small-within (Some (pos n)) s e = go (leb 1 n && leb n 8) refl e
  where
    go : (b : Bool) → (leb 1 n && leb n 8) ≡ b → option_map nat_abs (cond b (Some (pos n)) None) ≡ Some s → (1 ≤ s) × (s ≤ 8)
    go true t e = let p = and_parts (leb 1 n) (leb n 8) t in let is : n ≡ s = cc in (omega (arith, leb-true 1 n p.0), omega (arith, leb-true n 8 p.1))
    go false t e = absurd (cc)

-- the slot is one of 1 to 8, and not loaded
record Free {G : Type 0} (loaded : List Bool) (d : Chronicle G) : Type 0 where
  low : 1 ≤ d.slot
  high : d.slot ≤ 8
  free : is_loaded loaded d.slot ≡ false

module _ {G : Type 0} (means : List (List ℕ) → Option G) (bound : G → Bool) (loaded : List Bool) where
  -- only the first line opens, with a slot
  abbrev Placed : ℕ → Said G → Type 0
  Placed n (opening s) = (1 ≤ s) × (s ≤ 8)
  Placed n (variable name) = n ≡ 1 → ⊥
  Placed n (limit l) = n ≡ 1 → ⊥
  Placed n closing = n ≡ 1 → ⊥

  placed : {n : ℕ} {fs : List (List ℕ)} {said : Said G} → Spells means bound n fs said → Placed n said
  placed (chronicle_line {f} {s} first is) = small-within (whole f) s is
  placed (var_line other name) = other
  placed (bound_line other fi gj is allowed) = other
  placed (end_line other) = other

  -- so the slot is given once, and kept
  line_frees : {n : ℕ} {d made : Chronicle G} {said : Said G} → 0 < n → (1 < n → Free loaded d) → Placed n said → Follows loaded d said made → Free loaded made
  line_frees one before slot (opens free) = record { low = slot.0; high = slot.1; free = free }
  line_frees one before other (names few) = let h = before (omega (arith, other)) in record { low = h.low; high = h.high; free = h.free }
  line_frees one before other (bounds few p q ne) = let h = before (omega (arith, other)) in record { low = h.low; high = h.high; free = h.free }
  line_frees one before other (ends some) = before (omega (arith, other))

  end_has : {d made : Chronicle G} → Follows loaded d closing made → 0 < length made.types
  end_has (ends some) = some

  made_free : {n used : ℕ} {d : Chronicle G} {ps : List (List ℕ)} {r : Reading G} → MadeOf means bound loaded n used d ps r → 0 < n → (1 < n → Free loaded d) → Free loaded r.chronicle × (0 < length r.chronicle.types)
  made_free (last sound) one before = (line_frees one before (placed sound.spells) sound.follows, end_has sound.follows)
  made_free (more sound goes on) one before = made_free on (omega arith) (λ two. line_frees one before (placed sound.spells) sound.follows)

none_is : {A : Type 0} (o : Option A) → is_some o ≡ false → o ≡ None
none_is None e = refl
none_is (Some x) e = absurd (both_ways true e refl)

free_slot : {G : Type 0} (a : List (Act G)) (d : Chronicle G) → Free (loaded_slots a) d → loading_of d.slot a ≡ None
free_slot a d f = none_is (loading_of d.slot a) (sym (get_or-map-range_with_len (λ s. is_some (loading_of s a)) 1 8 (d.slot - 1) d.slot false (omega (arith, f.low, f.high)) (omega (arith, f.low))) ∙ f.free)

-- a definition that was read is free and has a variable
read_free : {K : Type 0} (kind : Meaning K) (a : List (Act kind.G)) (text : List ℕ) (r : Reading kind.G) → definition_after kind a text ≡ Ok r → Free (loaded_slots a) r.chronicle × (0 < length r.chronicle.types)
read_free kind a text r e =
    made_free kind.means kind.bound (loaded_slots a) (((read_as_made kind.fields kind.means kind.bound kind.takes (loaded_slots a) text).made r).0 e) (omega arith) (λ two. absurd (omega arith))

pub load_owes : {K : Type 0} (kind : Meaning K) (a : List (Act kind.G)) (text : List ℕ) (r : Reading kind.G) → definition_after kind a text ≡ Ok r → Owes kind.group a (load r.chronicle.slot r.chronicle)
load_owes kind a text r e = let (free, some) = read_free kind a text r e in (free_slot a r.chronicle free, some)

-- only slots 1 to 8 are ever loaded
pub small_none : {G : Type 0} → SmallSlots {G = G} []
small_none s l e = no_loading refl e

pub small_load : {K : Type 0} (kind : Meaning K) (a : List (Act kind.G)) (text : List ℕ) (r : Reading kind.G) → definition_after kind a text ≡ Ok r → SmallSlots a → SmallSlots (load r.chronicle.slot r.chronicle ∷ a)
small_load kind a text r e small s l = go (eqb r.chronicle.slot s) refl
  where
    go : (b : Bool) → eqb r.chronicle.slot s ≡ b → cond b (Some (loading_with r.chronicle [])) (loading_of s a) ≡ Some l → (1 ≤ s) × (s ≤ 8)
    go true is loaded = let free = (read_free kind a text r e).0 in let same = eqb-true r.chronicle.slot s is in (omega (arith, same, free.low), omega (arith, same, free.high))
    go false is loaded = small s l loaded

pub small_withdraw : {G : Type 0} (a : List (Act G)) (t : ℕ) → SmallSlots a → SmallSlots (withdraw t ∷ a)
small_withdraw {G} a t small s l = go (eqb t s)
  where
    go : (b : Bool) → cond b None (loading_of s a) ≡ Some l → (1 ≤ s) × (s ≤ 8)
    go true loaded = no_loading refl loaded
    go false loaded = small s l loaded

pub small-event : {G : Type 0} (a : List (Act G)) (e : Event G) (told : List (Line G)) → SmallSlots a → SmallSlots (event e told ∷ a)
small-event a e told small s l loaded = let (m, was, is) = loaded_back a e s l loaded in small s m was
