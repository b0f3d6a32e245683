use Rattle.network.specs.Steps.{Running}
use Rattle.network.proofs.closing.rounds.Given as goal

abbrev pub invariant-loop-k : goal.invariant-loop-k
invariant-loop-k g l = let m = g.K.Kind in Running m.group m.value m.weight l.width l.k l.initial.table l.table
