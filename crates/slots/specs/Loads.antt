-- What loading a definition answers, and what it leaves of the slots and of the closed bounds lent for them.
use Rattle.std.specs.Prelude.{◌≡◌, ℕ, ◌-◌, ◌*◌, ◌<◌, ◌≤◌, true, List, length, take, drop, is_some, Some, Ok, Err, Result, ◌≢◌}
use Rattle.text.specs.declared.fault.Fault.{Fault}
use Rattle.kinds.specs.declared.bound.Bound.{Bound}
use Rattle.kinds.specs.declared.kind.Kind.{Ghosts as Meaning}
use Rattle.network.specs.Steps.{Light}
use Rattle.definitions.specs.Loading.{ClosedTable}
use Rattle.definitions.specs.Reading.{Reading, reading_of}
use Rattle.law.specs.Calls.{loaded_slots}
use Rattle.law.specs.Histories.{Act}
use Rattle.law.specs.Refusals.{Decided, Lent, load_grounds}
use Rattle.slots.specs.declared.table.Slots.{Slots}
use Rattle.slots.specs.Slots.{types_in, loaded_in, Changed}

-- the closed bounds of slot s among the lent entries, 64 for each slot
abbrev pub slot_table : {X : Type 0} → ℕ → List X → List X
slot_table s entries = take 64 (drop (64 * (s - 1)) entries)

-- the parts of all slots but s are as they were
abbrev pub OthersKept : {X : Type 0} → ℕ → List X → List X → Type 0
OthersKept s old new = (t : ℕ) → 1 ≤ t → (t ≢ s) → slot_table t new ≡ slot_table t old

module _ {K : Type 0} (kind : Meaning K) (text : List ℕ) (before after : Slots) (old new : List (Bound K)) where
  -- a definition was read, of so many bytes: its slot has its variables and its closed bounds, and every other slot what it had
  pub record Accepted (bytes : ℕ) : Type 0 where
    pub reading : Reading kind.G
    pub read : reading_of kind.fields kind.means kind.bound (loaded_in before) text ≡ Ok reading
    pub used : bytes ≡ reading.used
    pub some : 0 < bytes
    pub within : bytes ≤ length text
    pub types : Changed reading.chronicle.slot (Some reading.chronicle.types) before after
    pub closed : ClosedTable kind.group kind.value (slot_table reading.chronicle.slot new) reading.chronicle
    pub light : Light kind.value kind.weight (length reading.chronicle.types) 256 (slot_table reading.chronicle.slot new)
    pub others : OthersKept reading.chronicle.slot old new

  -- the slots are as they were, and so are the bounds of those that are loaded
  pub record Refused : Type 0 where
    pub slots : after ≡ before
    pub tables : (t : ℕ) → is_some (types_in before t) ≡ true → slot_table t new ≡ slot_table t old

  abbrev pub Leaves : Result ℕ Fault → Type 0
  Leaves (Ok bytes) = Accepted bytes
  Leaves (Err fault) = Refused

  -- the grounds of refusal decide the answer, whichever calls loaded the slots
  pub record Loads (r : Result ℕ Fault) : Type 0 where
    pub decided : (lent : Lent) (a : List (Act kind.G)) → lent.entries ≡ length old → loaded_slots a ≡ loaded_in before → Decided (load_grounds kind lent a text) r
    pub leaves : Leaves r
    pub memory : length new ≡ length old
