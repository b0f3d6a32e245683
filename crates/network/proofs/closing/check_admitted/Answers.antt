use Rattle.std.proofs.Common.{arith}
use Rattle.std.proofs.lemmas.Bool.{both_ways}
use Rattle.network.proofs.closing.check_admitted.Goals as goal

pub returns-then-not-row_admitted-clause-admitted : goal.returns-then-not-row_admitted-clause-admitted
returns-then-not-row_admitted-clause-admitted g c all = both_ways _ c.if-not-row_admitted.true (c.row_admitted.ensures.1 (λ j h. all c.loop-i.i j (omega arith) h))
