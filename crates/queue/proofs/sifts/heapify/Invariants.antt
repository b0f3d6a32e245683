use Rattle.queue.proofs.Settles.{Settling}
use Rattle.queue.proofs.sifts.heapify.Given as goal

abbrev pub invariant-loop-root : goal.invariant-loop-root
invariant-loop-root g l = Settling g.T.Ranked.leq l.root l.initial.items l.items
