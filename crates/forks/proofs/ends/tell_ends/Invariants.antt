use Rattle.std.proofs.Common.{◌≡◌, ◌≤◌, List, length, take}
use Rattle.forks.specs.declared.row.Row.{Row}
use Rattle.forks.specs.Ends.{Settles}
use Rattle.forks.proofs.ends.tell_ends.Given as goal

abbrev pub invariant-loop-row : goal.invariant-loop-row
invariant-loop-row g l =
    let m = g.K.Kind in
    (kept : List (Row g.row.K.Denot)) × (l.staying ≡ length kept) × (l.staying ≤ l.row-index) × Settles m g.L.Sink.took (m.value l.moment) l.row-items (take l.row-index l.row-items) kept l.initial.lines l.lines
