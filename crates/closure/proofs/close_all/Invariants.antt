use Rattle.std.proofs.Common.{◌≡◌, length}
use Rattle.closure.proofs.close_all.Given as goal

abbrev pub invariant-loop-rest : goal.invariant-loop-rest
invariant-loop-rest l = length l.table ≡ 64

abbrev pub decreases-loop-rest : goal.decreases-loop-rest
decreases-loop-rest l = length l.rest
