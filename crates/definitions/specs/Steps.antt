-- What reading a definition answers in machine values.
use Rattle.std.specs.Prelude.{◌≡◌, ℕ, ◌+◌, List, [], length, drop, Ok, Err, Result, slice_index_or}
use Rattle.text.specs.declared.fault.Fault.{Fault}
use Rattle.text.specs.Split.{split}
use Rattle.definitions.specs.declared.reader.Definition.{Definition}
use Rattle.definitions.specs.Chronicles.{Chronicle}
use Rattle.definitions.specs.Reading.{Reading}
use Rattle.definitions.specs.TypeNames.{type_names}

-- the byte after the line that begins at byte `used`, and after its line feed
abbrev pub line_end : List ℕ → ℕ → ℕ
line_end text used = used + length (slice_index_or (split 10 (drop used text)) 0 []) + 1

-- the machine values of a definition that is read
pub record Defined {G : Type 0} (reading : Reading G) (x : Definition) : Type 0 where
  pub slot : x.slot ≡ reading.chronicle.slot
  pub types : type_names x.types ≡ reading.chronicle.types
  pub limits : x.limits ≡ length reading.chronicle.limits
  pub lines : x.lines ≡ reading.lines
  pub used : x.used ≡ reading.used

-- an answer as the text's own, with P of the chronicle that is read
abbrev pub Parses : {G : Type 0} → Result (Reading G) Fault → (Chronicle G → Type 0) → Result Definition Fault → Type 0
Parses (Ok reading) P (Ok x) = Defined reading x × P reading.chronicle
Parses (Ok reading) P (Err e) = ⊥
Parses (Err f) P (Ok x) = ⊥
Parses (Err f) P (Err e) = e ≡ f
