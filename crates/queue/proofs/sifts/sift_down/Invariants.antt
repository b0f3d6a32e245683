use Rattle.std.proofs.Common.{◌-◌, length}
use Rattle.queue.proofs.Sinks.{Sunk}
use Rattle.queue.proofs.sifts.sift_down.Given as goal

abbrev pub invariant-loop-place : goal.invariant-loop-place
invariant-loop-place g l = Sunk g.T.Ranked.leq l.root l.initial.items l.place l.items

abbrev pub decreases-loop-place : goal.decreases-loop-place
decreases-loop-place g l = length l.initial.items - l.place
