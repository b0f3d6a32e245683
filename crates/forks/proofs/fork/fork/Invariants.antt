use Rattle.law.specs.Histories.{Seen, Loading}
use Rattle.forks.specs.Forks.{PutBefore, Parent, Forked, Sunk}
use Rattle.forks.specs.Rows.{choice_of}
use Rattle.forks.proofs.fork.fork.Given as goal

abbrev pub invariant-loop-j : goal.invariant-loop-j
invariant-loop-j g l =
    let m = g.K.Kind in
    Sunk g.R.Sink.took g.L.Sink.took l.initial.rows l.rows l.initial.lines l.lines (λ born ripe.
    (loading : Loading m.G) (e : Seen m.G) → Parent m loading e l.table l.wanted.bits l.arrival l.parent → Forked m loading e (PutBefore loading (choice_of l.parent) e l.j) l.parent.slot born ripe)
