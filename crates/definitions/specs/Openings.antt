-- What the first line of a text tells of the definition that it opens.
use Rattle.std.specs.Prelude.{◌≡◌, ℕ, ◌≤◌, Bool, false, List, Ok, Err, Result}
use Rattle.text.specs.declared.fault.Fault.{Fault}
use Rattle.definitions.specs.Reading.{is_loaded, Reading}

-- s is an empty slot, and no definition that is read has another
pub record Opened {G : Type 0} (loaded : List Bool) (reading : Result (Reading G) Fault) (s : ℕ) : Type 0 where
  pub first : 1 ≤ s
  pub last : s ≤ 8
  pub free : is_loaded loaded s ≡ false
  pub only : (r : Reading G) → reading ≡ Ok r → r.chronicle.slot ≡ s

-- the first line opens a definition, or is at fault
abbrev pub Opens : {G : Type 0} → List Bool → Result (Reading G) Fault → Result ℕ Fault → Type 0
Opens loaded reading (Ok s) = Opened loaded reading s
Opens loaded reading (Err f) = reading ≡ Err f
