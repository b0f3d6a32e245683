-- Slots that hold what the accepted calls left loaded.
use Rattle.std.specs.Prelude.{◌≡◌, ℕ, List}
use Rattle.std.specs.Option.{option_map}
use Rattle.law.specs.Histories.{Act, loading_of}
use Rattle.slots.specs.declared.table.Slots.{Slots}
use Rattle.slots.specs.Slots.{types_in}

-- each slot has the variables of the chronicle that is loaded there
abbrev pub Holds : {G : Type 0} → List (Act G) → Slots → Type 0
Holds a slots = (t : ℕ) → types_in slots t ≡ option_map (λ l. l.chronicle.types) (loading_of t a)
