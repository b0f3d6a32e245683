-- Bytes written into a buffer at a place, where they fit.
use Rattle.std.specs.Prelude.{ℕ, ◌+◌, Bool, cond, List, ◌++◌, length, take, drop, Some, None, Option, nat_le}

-- the bytes fit into a buffer of the list `was`, from the place i on
abbrev pub fits : List ℕ → ℕ → List ℕ → Bool
fits was i bytes = nat_le (i + length bytes) (length was)

-- the place after the bytes, where they fit
abbrev pub place_after : List ℕ → ℕ → List ℕ → Option ℕ
place_after was i bytes = cond (fits was i bytes) (Some (i + length bytes)) None

-- the buffer after the bytes, unchanged where they do not fit
abbrev pub pasted : List ℕ → ℕ → List ℕ → List ℕ
pasted was i bytes = cond (fits was i bytes) (take i was ++ (bytes ++ drop (i + length bytes) was)) was
