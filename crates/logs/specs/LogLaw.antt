-- What a text has as a log, in its own words: sound lines, a record in each, and then its end or the first faulty line.
use Rattle.std.specs.Prelude.{◌≡◌, ℕ, ◌+◌, ◌<◌, ◌≤◌, Bool, true, List, [], ◌∷◌, ◌++◌, length, Ok, Err, Option}
use Rattle.text.specs.declared.fault.Cause.TheVariants.{BadLine}
use Rattle.text.specs.declared.fault.Fault.{Fault}
use Rattle.text.specs.Faults.{fault_at}
use Rattle.text.specs.Split.{split, without}
use Rattle.logs.specs.Endings.{Ending, clean_end, fault_end}
use Rattle.logs.specs.Events.{Event}
use Rattle.logs.specs.LogLines.{line_says}

module _ {G : Type 0} (fields : ℕ) (means : List (List ℕ) → Option G) (stamp : G → Bool) (log : ℕ) where
  -- a log from line n on
  pub data LogFrom : ℕ → List ℕ → List (Event G) → Ending → Type 0 where
    -- the text stops at a line's start
    stops : {n : ℕ} → LogFrom n [] [] clean_end
    -- its last line has no line feed
    unended : {n : ℕ} (l : List ℕ) → without 10 l ≡ true → 0 < length l → LogFrom n l [] (fault_end log (fault_at BadLine n 0))
    -- a line is too long
    too_long : {n : ℕ} (l more : List ℕ) → without 10 l ≡ true → 80 < length l → LogFrom n (l ++ (10 ∷ more)) [] (fault_end log (fault_at BadLine n 0))
    -- a line's fields are at fault
    faulty : {n : ℕ} (l more : List ℕ) (f : Fault) → without 10 l ≡ true → length l ≤ 80 → line_says fields means stamp n (split 9 l) ≡ Err f → LogFrom n (l ++ (10 ∷ more)) [] (fault_end log f)
    -- a line holds a record, and the log goes on
    record_line : {n : ℕ} {more : List ℕ} {xs : List (Event G)} {e : Ending} (l : List ℕ) (x : Event G) → without 10 l ≡ true → length l ≤ 80 → line_says fields means stamp n (split 9 l) ≡ Ok x →
        LogFrom (n + 1) more xs e → LogFrom n (l ++ (10 ∷ more)) (x ∷ xs) e
