-- The letters of a report's lines.
use Rattle.std.specs.Prelude.{ℕ}
use Rattle.law.specs.Histories as law
use Rattle.report.specs.declared.letter.Letter.{Letter}
use Rattle.report.specs.declared.letter.Letter.TheVariants.{Recognised, Deadline}

abbrev pub letter_of : Letter → law.Letter
letter_of Recognised = law.R
letter_of Deadline = law.D

-- the ASCII of R and D
abbrev pub letter_byte : Letter → ℕ
letter_byte Recognised = 82
letter_byte Deadline = 68
