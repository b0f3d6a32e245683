-- A file of a program: a text of at most 65,536 bytes, or one that is too long.
use Rattle.std.specs.Prelude.{◌≡◌, ℕ, ◌<◌, ◌≤◌, List, codes, Ok, Err, Result, Some, None, Option, vec_len, Vec}
use Rattle.std.specs.declared.alloc.Global.{Global}
use Rattle.files.specs.declared.TooLong.{TooLong}
use Rattle.files.specs.declared.Unread.{Unread}
use Rattle.files.specs.declared.Unread.TheVariants.{Failed, Long}

-- over 65,536 bytes
abbrev pub refusal_number : TooLong → ℕ
refusal_number refusal = 27

-- 0 for a text that was read; a file that failed has no number
abbrev pub input_number : Result (Vec ℕ Global) Unread → Option ℕ
input_number (Ok text) = Some 0
input_number (Err (Long refusal)) = Some (refusal_number refusal)
input_number (Err (Failed error)) = None

-- of a failed one the words are not ours
abbrev pub unread_text : Unread → Option (List ℕ)
unread_text (Long refusal) = Some (codes "the file is too long")
unread_text (Failed error) = None

-- bytes are a text exactly where there are few enough
abbrev pub Judges : Vec ℕ Global → Result (Vec ℕ Global) TooLong → Type 0
Judges bytes (Ok text) = (vec_len bytes ≤ 65536) × (text ≡ bytes)
Judges bytes (Err refusal) = 65536 < vec_len bytes
