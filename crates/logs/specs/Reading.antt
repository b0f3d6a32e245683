-- A log read from its text: the records before the first faulty line, and that line's fault as the ending; a text that
-- stops at a line's start ends clean.
use Rattle.std.specs.Prelude.{ℕ, ◌+◌, Bool, true, false, cond, List, [], ◌∷◌, length, Ok, Err, Option, Result, ◌==◌}
use Rattle.text.specs.declared.fault.Fault.{Fault}
use Rattle.text.specs.Following.{then}
use Rattle.text.specs.Lines.{line_of}
use Rattle.text.specs.Split.{split}
use Rattle.logs.specs.Endings.{Ending, clean_end, fault_end}
use Rattle.logs.specs.Events.{Event}
use Rattle.logs.specs.LogLines.{line_says}

-- nothing is left of a text that is cut at its line feeds
abbrev pub at_end : List (List ℕ) → Bool
at_end [] = true
at_end (p ∷ []) = length p == 0
at_end (p ∷ q ∷ ps) = false

-- a line's record, if it has one, before those that follow
abbrev pub before : {G : Type 0} → Result (Event G) Fault → List (Event G) → List (Event G)
before (Ok x) xs = x ∷ xs
before (Err f) xs = []

-- a line's fault in the log of that number, or how the lines that follow end
abbrev pub unless : {G : Type 0} → ℕ → Result (Event G) Fault → Ending → Ending
unless log (Ok x) e = e
unless log (Err f) e = fault_end log f

module _ {G : Type 0} (fields : ℕ) (means : List (List ℕ) → Option G) (stamp : G → Bool) where
  -- line n, the first of what is left of a text that is cut at its line feeds: as a line, then by its fields
  abbrev pub judged : ℕ → List (List ℕ) → Result (Event G) Fault
  judged n ps = then (line_of n ps) (λ line. line_says fields means stamp n (split 9 line))

  -- from line n on
  abbrev pub records_from : ℕ → List (List ℕ) → List (Event G)
  records_from n [] = []
  records_from n (p ∷ ps) = before (judged n (p ∷ ps)) (records_from (n + 1) ps)

  abbrev pub ending_from : ℕ → ℕ → List (List ℕ) → Ending
  ending_from log n [] = clean_end
  ending_from log n (p ∷ ps) = cond (at_end (p ∷ ps)) clean_end (unless log (judged n (p ∷ ps)) (ending_from log (n + 1) ps))

  -- of the whole text, whose lines count from 1
  abbrev pub records_of : List ℕ → List (Event G)
  records_of text = records_from 1 (split 10 text)

  abbrev pub ending_of : ℕ → List ℕ → Ending
  ending_of log text = ending_from log 1 (split 10 text)
