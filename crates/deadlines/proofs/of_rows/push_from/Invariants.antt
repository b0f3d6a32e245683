use Rattle.std.proofs.Common.{map}
use Rattle.deadlines.proofs.Fills.{Pushed}
use Rattle.deadlines.proofs.of_rows.push_from.Given as goal

abbrev pub invariant-loop-row : goal.invariant-loop-row
invariant-loop-row g l = Pushed g.K.Kind (map (λ r. r.now) l.yielded) l.initial.queue l.queue
