-- What the code holds of a number that may be too long: only the sizes that 64 bits with a sign can have.
use Rattle.std.specs.Prelude.{ℕ, ◌^◌, cond, Some, None, Option, nat_le}

abbrev pub sized : ℕ → Option ℕ
sized n = cond (nat_le n (2 ^ 63)) (Some n) None

abbrev pub capped : Option ℕ → Option ℕ
capped None = None
capped (Some n) = sized n
