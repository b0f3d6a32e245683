use Rattle.std.proofs.Common.{arith}
use Rattle.queue.proofs.Settles.{settling_more}
use Rattle.queue.proofs.sifts.heapify.Goals as goal

pub loop-root-preserved : goal.loop-root-preserved
loop-root-preserved g c =
    let l = c.loop-root in
    settling_more g.T.Ranked.leq l.root c.args.items.now l.items c.sift_down.new.items (omega arith) c.sift_down.ensures.shuffled c.sift_down.ensures.heaped l.invariant
