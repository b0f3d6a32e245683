use Rattle.std.proofs.Common.{◌<◌, ◌≤◌, List}
use Rattle.logs.specs.Events.{Event}
use Rattle.law.specs.Histories.{Act}
use Rattle.forks.specs.Forks.{Sunk}
use Rattle.forks.specs.Spreads.{Ready, Loaded, Begun}
use Rattle.forks.proofs.incoming.Incoming.spread_slots.Given as goal

abbrev pub invariant-loop-slot : goal.invariant-loop-slot
invariant-loop-slot g l =
    let m = g.K.Kind in
    Sunk g.R.Sink.took g.L.Sink.took l.initial.rows l.rows l.initial.lines l.lines (λ born ripe.
    (a : List (Act m.G)) (e : Event m.G) → Ready m a e l.self → Loaded a l.slots → Begun m a e (λ r. (1 ≤ r.slot) × (r.slot < l.slot)) born ripe)
