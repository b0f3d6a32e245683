-- Whole numbers in decimal: no plus, no zero before another digit, and a minus only before a number that is not zero.
use Rattle.std.specs.Prelude.{◌≡◌, ℕ, zero, suc, ◌+◌, ◌-◌, ◌*◌, ◌^◌, ◌<◌, Bool, true, cond, not, ◌&&◌, ◌||◌, List, [], ◌∷◌, length, drop, ℤ, pos, negsuc, Some, None, Option, ◌==◌, int_le, nat_le, nat_lt, slice_index}
use Rattle.std.specs.Int.Signed.{mag}
use Rattle.std.specs.Option.{option_map}
use Rattle.std.specs.Fmt.{signed_decimal}

-- each byte is a digit, 48 to 57
abbrev pub all_digits : List ℕ → Bool
all_digits [] = true
all_digits (c ∷ cs) = (nat_le 48 c && nat_le c 57) && all_digits cs

-- the digits, read after the number n
abbrev pub read_on : ℕ → List ℕ → ℕ
read_on n [] = n
read_on n (c ∷ cs) = read_on (10 * n + (c - 48)) cs

-- one digit, or more of which the first is not 0
abbrev pub is_numeral : List ℕ → Bool
is_numeral ds = all_digits ds && (length ds == 1 || (nat_lt 1 (length ds) && not (slice_index ds 0 == 48)))

abbrev pub natural : List ℕ → Option ℕ
natural ds = cond (is_numeral ds) (Some (read_on 0 ds)) None

-- less than zero: none for zero itself
abbrev pub negative : Option ℕ → Option ℤ
negative None = None
negative (Some zero) = None
negative (Some (suc n)) = Some (negsuc n)

-- the number that a field means, however long: after a minus, byte 45, one less than zero
abbrev pub whole : List ℕ → Option ℤ
whole bs = cond (slice_index bs 0 == 45) (negative (natural (drop 1 bs))) (option_map pos (natural bs))

-- a number from low to high
abbrev pub within : ℤ → ℤ → Option ℤ → Option ℤ
within low high None = None
within low high (Some z) = cond (int_le low z && int_le z high) (Some z) None

-- a field means z exactly if it is z's decimal writing, for each z of 64 bits
abbrev pub WrittenOneWay : Type 0
WrittenOneWay =
    (z : ℤ) → mag z < 2 ^ 63 → (field : List ℕ) →
    (whole field ≡ Some z → field ≡ signed_decimal z) × (field ≡ signed_decimal z → whole field ≡ Some z)
