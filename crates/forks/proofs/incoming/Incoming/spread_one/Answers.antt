use Rattle.std.proofs.Common.{◌≡◌, ◌≤◌, ap, ◌∙◌, arith}
use Rattle.rows.specs.Filled.{is_in}
use Rattle.slots.specs.Loads.{slot_table}
use Rattle.forks.specs.Wanting.{mask_of}
use Rattle.forks.proofs.Sinking.{sunk_as}
use Rattle.forks.proofs.Spreading.{forked_spreads, table_lies, parent_of}
use Rattle.forks.proofs.incoming.Incoming.spread_one.Goals as goal

pub returns : goal.returns
returns g c = sunk_as g.R.Sink.adds g.L.Sink.adds c.args.rows.now c.fork.new.rows c.args.lines.now c.fork.new.lines _ _
    (λ born ripe forked a e ready (l, loaded, standing, alive).
    let m = g.K.Kind in
    let parent = c.args.parent.now in
    let entries = c.args.self.now.entries.now in
    let is : c.from-slot.result ≡ parent.slot = cc in
    let low : 1 ≤ parent.slot = (ready.small parent.slot l loaded).0 in
    let lies = table_lies m a e parent.slot entries (ready.tables parent.slot l loaded).long low in
    let is-table = c.table_of-table.ensures.part (omega (arith, is, low)) (omega (arith, is, lies)) ∙ ap (λ s. slot_table s entries) is in
    forked_spreads m a e parent l loaded born ripe
    (forked l _ (parent_of m a e c.args.self.now ready parent l loaded standing alive c.table_of-table.result.now is-table c.of-variables.result.bits (λ j. c.of-variables.ensures j ∙ ap (λ s. is_in (mask_of c.args.self.now.wanted.now s) j) is))))
    c.fork.ensures
