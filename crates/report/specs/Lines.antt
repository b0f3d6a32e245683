-- What a line of a report tells, and the number of the refusal to write it.
use Rattle.std.specs.Prelude.{ℕ, take}
use Rattle.law.specs.Histories as law
use Rattle.report.specs.declared.line.Line.{Line}
use Rattle.report.specs.declared.line.TextShort.{TextShort}
use Rattle.report.specs.Letters.{letter_of}

abbrev pub line_of : {K G : Type 0} → (K → G) → Line K → law.Line G
line_of value l = record { letter = letter_of l.letter; slot = l.slot; choice = take l.width l.choice; stamp = value l.stamp }

abbrev pub refusal_number : TextShort → ℕ
refusal_number e = 29

abbrev pub text_short : TextShort
text_short = record {}
