use Rattle.network.specs.Steps.{Relaxed}
use Rattle.network.proofs.closing.relax_row.Given as goal

abbrev pub invariant-loop-j : goal.invariant-loop-j
invariant-loop-j g l = let m = g.K.Kind in Relaxed m.group m.value m.weight l.i l.k l.j l.initial.table l.table
