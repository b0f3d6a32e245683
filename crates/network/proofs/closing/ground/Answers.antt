use Rattle.std.proofs.Common.{◌<◌, ap, arith}
use Rattle.kinds.specs.declared.bound.Bound.TheVariants.{At}
use Rattle.network.proofs.Turns.{grounded_more}
use Rattle.network.proofs.closing.ground.Goals as goal

pub loop-d-preserved : goal.loop-d-preserved
loop-d-preserved g c =
    let m = g.K.Kind in
    let h : c.loop-d.d < 8 = omega arith in
    grounded_more m.group m.value c.loop-d.d h c.args.table.now c.loop-d.table c.lower.new.table (At c.zero.result) c.loop-d.invariant c.lower.ensures (ap At c.zero.ensures)
