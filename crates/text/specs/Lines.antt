-- Lines: a line ends with a line feed, byte 10, and has at most 80 bytes before it.
use Rattle.std.specs.Prelude.{◌≡◌, ℕ, ◌-◌, cond, List, [], ◌∷◌, length, Ok, Err, Result, ◌==◌, nat_le, slice_index_or}
use Rattle.std.specs.Borrow.{Bor}
use Rattle.text.specs.declared.fault.Cause.TheVariants.{BadLine, Unfinished}
use Rattle.text.specs.declared.fault.Fault.{Fault}
use Rattle.text.specs.Faults.{fault_at}

-- the first line of a text that is cut at its line feeds, as line n: the text may stop there, and the line may be too
-- long or lack its line feed
abbrev pub line_of : ℕ → List (List ℕ) → Result (List ℕ) Fault
-- never: a text has a part
line_of n [] = Err (fault_at BadLine n 0)
line_of n (p ∷ []) = cond (length p == 0) (Err (fault_at Unfinished n 0)) (Err (fault_at BadLine n 0))
line_of n (p ∷ q ∷ ps) = cond (nat_le (length p) 80) (Ok p) (Err (fault_at BadLine n 0))

-- r is the answer a, with its bytes lent
abbrev pub Answers : Result (List ℕ) Fault → Result (Bor (List ℕ)) Fault → Type 0
Answers a (Ok l) = a ≡ Ok l.now
Answers a (Err f) = a ≡ Err f

-- line n of a text, counted from 1; line 0 and a missing line are empty
abbrev pub line_text : List (List ℕ) → ℕ → List ℕ
line_text ps n = cond (n == 0) [] (slice_index_or ps (n - 1) [])
