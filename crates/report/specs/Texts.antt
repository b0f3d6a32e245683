-- The text of a line: fields parted by tabs, byte 9, and ended by a line feed, byte 10.
use Rattle.std.specs.Prelude.{ℕ, List, [], ◌∷◌, ◌++◌, take, decimal}
use Rattle.std.specs.List.{flat_map}
use Rattle.report.specs.declared.letter.Letter.{Letter}
use Rattle.report.specs.declared.line.Line.{Line}
use Rattle.report.specs.Letters.{letter_byte}

abbrev pub letter_text : Letter → List ℕ
letter_text letter = letter_byte letter ∷ []

-- a number as a field behind another
abbrev pub number_field : ℕ → List ℕ
number_field n = 9 ∷ decimal n

-- what stands before the stamp
abbrev pub head_text : Letter → ℕ → List ℕ → List ℕ
head_text letter slot choice = letter_text letter ++ (number_field slot ++ (flat_map number_field choice ++ (9 ∷ [])))

abbrev pub line_text : {K : Type 0} → (K → List ℕ) → Line K → List ℕ
line_text written l = head_text l.letter l.slot (take l.width l.choice) ++ (written l.stamp ++ (10 ∷ []))
