-- The type names of a slot's variables, as their letters: none where the slot is empty.
use Rattle.std.specs.Prelude.{◌≡◌, ℕ, ◌<◌, List, [], length, Some, None, Option, slice_index_or}
use Rattle.std.specs.Option.{option_map}
use Rattle.definitions.specs.TypeNames.{type_names}
use Rattle.slots.specs.declared.slot.Slot.{Slot}

abbrev pub types_of : Slot → Option (List (List ℕ))
types_of slot = option_map type_names slot.types

abbrev pub width : Option (List (List ℕ)) → ℕ
width None = 0
width (Some types) = length types

-- variable i, counted from 0, is of that type
abbrev pub HasType : Option (List (List ℕ)) → ℕ → List ℕ → Type 0
HasType None i name = ⊥
HasType (Some types) i name = (i < length types) × (name ≡ slice_index_or types i [])
