use Rattle.queue.proofs.Rises.{Risen}
use Rattle.queue.proofs.sifts.sift_up.Given as goal

abbrev pub invariant-loop-place : goal.invariant-loop-place
invariant-loop-place g l = Risen g.T.Ranked.leq l.initial.items l.place l.items

abbrev pub decreases-loop-place : goal.decreases-loop-place
decreases-loop-place g l = l.place
