-- How a log ends, and what an ending tells: 0 where it is clean, else the number of the fault's cause, with its log, line and field.
use Rattle.std.specs.Prelude.{ℕ, Bool, Ok, Err, Result, is_ok}
use Rattle.text.specs.declared.fault.Fault.{Fault}
use Rattle.text.specs.Faults.{number_of}
use Rattle.logs.specs.declared.ending.LogFault.{LogFault}
use Rattle.logs.specs.declared.ending.EndingNumbers.{EndingNumbers}

abbrev pub Ending : Type 0
Ending = Result (Unit {0}) LogFault

abbrev pub clean_end : Ending
clean_end = Ok tt

-- a fault in the log of that number
abbrev pub fault_end : ℕ → Fault → Ending
fault_end log f = Err (record { log = log; fault = f })

abbrev pub is_clean : Ending → Bool
is_clean e = is_ok e

abbrev pub numbers_of : Ending → EndingNumbers
numbers_of (Ok u) = record { number = 0; log = 0; line = 0; field = 0 }
numbers_of (Err f) = record { number = number_of f.fault.cause; log = f.log; line = f.fault.place.line; field = f.fault.place.field }
