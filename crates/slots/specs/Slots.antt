-- Eight slots, counted from 1.
use Rattle.std.specs.Prelude.{◌≡◌, ℕ, ◌-◌, Bool, true, cond, ◌&&◌, List, map, is_some, None, Ok, Err, Option, Result, ◌==◌, nat_le, nat_lt, slice_index_or}
use Rattle.std.specs.List.{range_with_len}
use Rattle.slots.specs.declared.table.NotLoaded.{NotLoaded}
use Rattle.slots.specs.declared.table.Slots.{Slots}
use Rattle.slots.specs.Variables.{types_of}

abbrev pub is_slot : ℕ → Bool
is_slot s = nat_lt 0 s && nat_le s 8

-- the type names of slot s: none where it is empty, or there is no such slot
abbrev pub types_in : Slots → ℕ → Option (List (List ℕ))
types_in slots s = cond (is_slot s) (types_of (slice_index_or slots.records (s - 1) (record { types = None }))) None

-- which of the slots are loaded
abbrev pub loaded_in : Slots → List Bool
loaded_in slots = map (λ s. is_some (types_in slots s)) (range_with_len 1 8)

-- slot s comes to hold these types, and every other slot keeps its own
abbrev pub Changed : ℕ → Option (List (List ℕ)) → Slots → Slots → Type 0
Changed s types before after = (t : ℕ) → types_in after t ≡ cond (t == s) types (types_in before t)

-- the slot is vacated, or was not loaded and nothing is changed
abbrev pub Vacates : ℕ → Slots → Slots → Result (Unit {0}) NotLoaded → Type 0
Vacates s before after (Ok done) = (is_some (types_in before s) ≡ true) × Changed s None before after
Vacates s before after (Err refusal) = (types_in before s ≡ None) × (after ≡ before)

abbrev pub refusal_number : NotLoaded → ℕ
refusal_number refusal = 20
