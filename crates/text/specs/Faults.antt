-- The faults of a text: their numbers, a fault at its place, and a fault as it is printed.
use Rattle.std.specs.Prelude.{ℕ, List, ◌∷◌, ◌++◌, decimal}
use Rattle.text.specs.declared.fault.Cause.{Cause}
use Rattle.text.specs.declared.fault.Cause.TheVariants.{BadField, BadLine, Unfinished, TooMany, BadPair, SlotLoaded, Contradictory, ShortMemory}
use Rattle.text.specs.declared.fault.Fault.{Fault}

abbrev pub number_of : Cause → ℕ
-- a field is no name or number of its sort and limits
number_of BadField = 11
-- a line is too long, has a wrong word or number of fields, or lacks its line feed
number_of BadLine = 12
-- the text stops cleanly before its end
number_of Unfinished = 13
-- a ninth variable, a 65th bound, or an end without a variable
number_of TooMany = 14
-- a bound's pair is not two different variables given above
number_of BadPair = 15
-- the slot is loaded
number_of SlotLoaded = 16
-- a cycle of bounds sums below zero
number_of Contradictory = 17
-- the lent memory is too short for the closed bounds
number_of ShortMemory = 28

abbrev pub fault_at : Cause → ℕ → ℕ → Fault
fault_at c l f = record { cause = c; place = record { line = l; field = f } }

-- the number of the cause, the line and the field in decimal, with a tab, byte 9, between each and the next
abbrev pub fault_text : Fault → List ℕ
fault_text f = decimal (number_of f.cause) ++ (9 ∷ (decimal f.place.line ++ (9 ∷ decimal f.place.field)))
