-- Which variables are filled, as the bits of a number.
use Rattle.std.specs.Prelude.{◌≡◌, ℕ, zero, suc, ◌+◌, ◌/◌, ◌%◌, ◌^◌, ◌<◌, Bool, true, false, cond, ◌==◌}

-- variable i is filled: bit i is set
abbrev pub is_in : ℕ → ℕ → Bool
is_in bits i = bits / 2 ^ i % 2 == 1

-- how many of the first variables are open
abbrev pub open_count : ℕ → ℕ → ℕ
open_count bits zero = 0
open_count bits (suc n) = cond (is_in bits n) 0 1 + open_count bits n

abbrev pub NoneOpen : ℕ → ℕ → Type 0
NoneOpen bits n = (i : ℕ) → i < n → is_in bits i ≡ true

pub record FirstOpen (bits n i : ℕ) : Type 0 where
  pub among : i < n
  pub is_open : is_in bits i ≡ false
  pub before : (j : ℕ) → j < i → is_in bits j ≡ true
