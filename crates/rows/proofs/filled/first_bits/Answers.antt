use Rattle.std.proofs.Common.{arith}
use Rattle.rows.proofs.Bits.{masked_low, masked_high}
use Rattle.rows.proofs.filled.first_bits.Goals as goal

pub returns-then-width-lt-MOST_VARIABLES : goal.returns-then-width-lt-MOST_VARIABLES
returns-then-width-lt-MOST_VARIABLES c = λ b h. masked_low b c.args.width (omega arith)

pub returns-else-width-lt-MOST_VARIABLES : goal.returns-else-width-lt-MOST_VARIABLES
returns-else-width-lt-MOST_VARIABLES c = λ b h. masked_high b c.args.width h (omega arith)
