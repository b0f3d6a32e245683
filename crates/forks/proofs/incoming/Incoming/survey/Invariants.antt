use Rattle.std.proofs.Common.{◌≤◌}
use Rattle.forks.specs.Spreads.{Surveyed}
use Rattle.forks.proofs.incoming.Incoming.survey.Given as goal

abbrev pub invariant-loop-row : goal.invariant-loop-row
invariant-loop-row g l = (l.stay ≤ l.row-index) × Surveyed g.K.Kind g.R.Sink.took g.L.Sink.took l.row-items l.self l.row-index l.stay l.initial.born l.born l.initial.lines l.lines
