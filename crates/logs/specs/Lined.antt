-- A record that was read from a line, and where the line after it begins.
use Rattle.std.specs.Prelude.{◌≡◌, ℕ, ◌<◌, ◌≤◌, List, ◌∷◌, length, drop, Ok, Err, Result}
use Rattle.text.specs.declared.fault.Fault.{Fault}
use Rattle.text.specs.Split.{split}
use Rattle.logs.specs.declared.text_log.ahead.Lined.{Lined}
use Rattle.logs.specs.Events.{Event, event}

-- byte `end` of a text begins the line after the one that begins at byte `from`
pub record Passes (text : List ℕ) (from end : ℕ) : Type 0 where
  pub line : List ℕ
  pub parts : split 10 (drop from text) ≡ line ∷ split 10 (drop end text)
  pub further : from < end
  pub within : end ≤ length text

-- r is the answer a, in machine values
abbrev pub ReadsRecord : {K G : Type 0} → (K → G) → List ℕ → ℕ → Result (Event G) Fault → Result (Lined K) Fault → Type 0
ReadsRecord value text from a (Ok r) = (a ≡ Ok (event value r.record)) × Passes text from r.end
ReadsRecord value text from a (Err f) = a ≡ Err f
