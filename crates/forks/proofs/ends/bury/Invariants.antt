use Rattle.forks.proofs.Burying.{Compacts}
use Rattle.forks.proofs.ends.bury.Given as goal

abbrev pub invariant-loop-i : goal.invariant-loop-i
invariant-loop-i g l = Compacts g.K.Kind g.L.Sink.took (g.K.Kind.value l.moment) l.initial.rows l.rows l.i l.stay l.initial.lines l.lines
