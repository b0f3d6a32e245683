-- Names: one to eight bytes, each a capital letter or a digit.
use Rattle.std.specs.Prelude.{ℕ, Bool, true, ◌&&◌, ◌||◌, List, [], ◌∷◌, length, nat_le}

-- A to Z, 65 to 90, or 0 to 9, 48 to 57
abbrev pub name_byte : ℕ → Bool
name_byte c = (nat_le 65 c && nat_le c 90) || (nat_le 48 c && nat_le c 57)

abbrev pub name_bytes : List ℕ → Bool
name_bytes [] = true
name_bytes (c ∷ cs) = name_byte c && name_bytes cs

abbrev pub is_name : List ℕ → Bool
is_name bs = (nat_le 1 (length bs) && nat_le (length bs) 8) && name_bytes bs
