use Rattle.queue.proofs.Swaps.{swapped}
use Rattle.queue.proofs.Sinks.{sunk_more}
use Rattle.queue.proofs.sifts.sift_down.Goals as goal

pub loop-place-preserved : goal.loop-place-preserved
loop-place-preserved g c =
    let m = g.T.Ranked in
    let l = c.loop-place in
    let s = c.swap.ensures in
    let child = c.foremost_child-child in
    sunk_more m.leq m.ranks c.args.root l.place child.result l.items child.ensures c.swap.new.self
    (swapped l.items c.swap.new.self l.place child.result s.permutation s.by_index.0 s.by_index.1 s.by_index.2)
    c.in_order.ensures c.if-in_order.false l.invariant.above c.args.items.now s.permutation l.invariant
