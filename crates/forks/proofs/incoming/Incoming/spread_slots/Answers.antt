use Rattle.std.proofs.Common.{inl, inr, ⊎_elim, arith}
use Rattle.std.proofs.lemmas.Bool.{cases_lt}
use Rattle.forks.proofs.Beginning.{begun_none, begun_join, begun_as}
use Rattle.forks.proofs.Sinking.{sunk_none, sunk_more, sunk_as}
use Rattle.forks.proofs.incoming.Incoming.spread_slots.Goals as goal

pub loop-slot-init : goal.loop-slot-init
loop-slot-init g c = sunk_none g.R.Sink.adds g.L.Sink.adds c.args.rows.now c.args.lines.now _
    (λ a e ready loaded. begun_none g.K.Kind a e _ (λ r (low, high) b. omega arith))

pub loop-slot-preserved : goal.loop-slot-preserved
loop-slot-preserved g c = sunk_more g.R.Sink.adds g.L.Sink.adds c.args.rows.now c.loop-slot.rows c.spread_slot.new.rows c.args.lines.now c.loop-slot.lines c.spread_slot.new.lines _ _ _
    (λ born born' ripe ripe' p q a e ready loaded.
    begun_join g.K.Kind a e _ _ _
    (λ r (low, high) s. omega arith)
    (λ r. (
      (λ (low, high). ⊎_elim (λ less. inl (low, less)) (λ more. inr (omega arith)) (cases_lt r.slot c.loop-slot.slot)),
      ⊎_elim (λ (low, high). (low, omega arith)) (λ s. let first = c.loop-slot.auto.slot in (omega arith, omega arith)),
    ))
    born born' ripe ripe' (p a e ready loaded) (q a e ready loaded))
    c.loop-slot.invariant c.spread_slot.ensures

pub returns : goal.returns
returns g c = sunk_as g.R.Sink.adds g.L.Sink.adds c.args.rows.now c.loop-slot.rows c.args.lines.now c.loop-slot.lines _ _
    (λ born ripe p a e ready loaded.
    begun_as g.K.Kind a e _ _ born ripe (λ r (l, is-l, k). ((λ q. tt), λ u. let (low, high) = ready.small r.slot l is-l in (low, omega arith))) (p a e ready loaded))
    c.loop-slot.invariant
