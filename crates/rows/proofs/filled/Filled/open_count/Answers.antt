use Rattle.std.proofs.Common.{◌≤◌, ap, arith, rules}
use lib.Bits.{bit_and}
use lib.Count.{ones}
use Rattle.rows.proofs.Bits.{open_and_set}
use Rattle.rows.proofs.filled.Filled.open_count.Goals as goal

pub overflow_cast-result : goal.overflow_cast-result
overflow_cast-result c =
    let h = c.first_bits.ensures c.args.self.bits (omega arith) in
    let e = ap ones h in
    let n : ones (bit_and c.args.self.bits c.first_bits.result) ≤ c.args.width = omega (arith, open_and_set c.args.self.bits c.args.width) in
    search rules

pub overflow_sub-result : goal.overflow_sub-result
overflow_sub-result c =
    let h = c.first_bits.ensures c.args.self.bits (omega arith) in
    omega (arith, ap ones h, open_and_set c.args.self.bits c.args.width)

pub returns : goal.returns
returns c =
    let h = c.first_bits.ensures c.args.self.bits (omega arith) in
    omega (arith, ap ones h, open_and_set c.args.self.bits c.args.width)
