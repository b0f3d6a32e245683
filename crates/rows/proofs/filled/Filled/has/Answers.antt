use Rattle.std.proofs.Common.{◌<◌, ◌≤◌, arith, rules}
use Rattle.rows.proofs.Bits.{none_beyond}
use Rattle.std.proofs.lemmas.Bool.{le-ltb}
use Rattle.rows.proofs.filled.Filled.has.Goals as goal

pub returns-else-i-lt-MOST_VARIABLES : goal.returns-else-i-lt-MOST_VARIABLES
returns-else-i-lt-MOST_VARIABLES c =
    let small : c.args.self.bits < 256 = omega arith in
    let far : 8 ≤ c.args.i = omega arith in
    search (rules, none_beyond, le-ltb)
