use Rattle.std.proofs.Common.{take}
use Rattle.lent.specs.Lists.{held}
use Rattle.deadlines.proofs.Fills.{Appended}
use Rattle.deadlines.proofs.of_rows.rebuild.Given as goal

abbrev pub invariant-loop-row : goal.invariant-loop-row
invariant-loop-row g l = Appended (take l.row-index (held l.rows)) l.initial.queue l.queue
