use Rattle.network.specs.Steps.{Rounding}
use Rattle.network.proofs.closing.relax.Given as goal

abbrev pub invariant-loop-i : goal.invariant-loop-i
invariant-loop-i g l = let m = g.K.Kind in Rounding m.group m.value m.weight l.width l.k l.i l.initial.table l.table
