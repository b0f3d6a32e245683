-- What follows a test of a text: where it found a fault, that fault.
use Rattle.std.specs.Prelude.{Some, None, Ok, Err, Option, Result}
use Rattle.text.specs.declared.fault.Fault.{Fault}

-- the answer of one test after another
abbrev pub then : {A B : Type 0} → Result A Fault → (A → Result B Fault) → Result B Fault
then (Ok x) next = next x
then (Err f) next = Err f

-- x where it is present, else the fault
abbrev pub given : {A B : Type 0} → Option A → Fault → (A → Result B Fault) → Result B Fault
given None f next = Err f
given (Some x) f next = next x
