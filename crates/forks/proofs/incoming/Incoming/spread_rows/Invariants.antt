use Rattle.std.proofs.Common.{List, map, take}
use Rattle.std.specs.List.{AllByRecursion as All}
use Rattle.lent.specs.Lists.{held}
use Rattle.lent.specs.Storing.{stored}
use Rattle.logs.specs.Events.{Event}
use Rattle.law.specs.Histories.{Act}
use Rattle.forks.specs.Forks.{Sunk}
use Rattle.forks.specs.Rows.{row_of}
use Rattle.forks.specs.Spreads.{Ready, Alive, Spread}
use Rattle.forks.proofs.incoming.Incoming.spread_rows.Given as goal

abbrev pub invariant-loop-i : goal.invariant-loop-i
invariant-loop-i g l =
    let m = g.K.Kind in
    let rows = held l.initial.rows in
    Sunk stored g.L.Sink.took l.initial.rows l.rows l.initial.lines l.lines (λ born ripe.
    (a : List (Act m.G)) (e : Event m.G) → Ready m a e l.self → All (Alive m a e) rows → Spread m a e (map row_of (take l.i rows)) born ripe)
