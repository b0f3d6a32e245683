use Rattle.std.proofs.Common.{arith}
use Rattle.queue.proofs.Swaps.{swapped}
use Rattle.queue.proofs.Rises.{risen_more}
use Rattle.queue.proofs.sifts.sift_up.Goals as goal

pub loop-place-preserved : goal.loop-place-preserved
loop-place-preserved g c =
    let m = g.T.Ranked in
    let l = c.loop-place in
    let s = c.swap.ensures in
    risen_more m.leq l.place l.items (omega arith) m.ranks c.swap.new.self l.invariant.within
    (swapped l.items c.swap.new.self _ l.place s.permutation s.by_index.0 s.by_index.1 s.by_index.2)
    c.in_order.ensures c.if-in_order.false c.args.items.now s.permutation l.invariant
