use Rattle.std.proofs.Common.{◌<◌, arith, rules}
use Rattle.rows.proofs.Bits.{bit_added}
use Rattle.rows.proofs.filled.Filled.with.Goals as goal

pub returns-then-i-lt-MOST_VARIABLES : goal.returns-then-i-lt-MOST_VARIABLES
returns-then-i-lt-MOST_VARIABLES c = let small : c.args.self.bits < 256 = omega arith in search (rules, bit_added)
