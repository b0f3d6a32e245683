use Rattle.std.proofs.Common.{◌<◌, arith, rules}
use Rattle.rows.proofs.Bits.{first_open_lem, none_open}
use Rattle.rows.proofs.filled.Filled.first_open.Goals as goal

pub returns : goal.returns
returns c = let small : c.args.self.bits < 256 = omega arith in search (rules, first_open_lem, none_open)
