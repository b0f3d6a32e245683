use Rattle.std.proofs.Common.{◌<◌, arith}
use Rattle.rows.proofs.Bits.{no_bit, zero_bits}
use Rattle.rows.proofs.filled.Filled.is_none.Goals as goal

pub returns : goal.returns
returns c = let small : c.args.self.bits < 256 = omega arith in (zero_bits c.args.self.bits, no_bit c.args.self.bits small)
