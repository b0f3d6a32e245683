use Rattle.network.specs.Steps.{Grounded}
use Rattle.network.proofs.closing.ground.Given as goal

abbrev pub invariant-loop-d : goal.invariant-loop-d
invariant-loop-d g l = let m = g.K.Kind in Grounded m.group m.value l.d l.initial.table l.table
