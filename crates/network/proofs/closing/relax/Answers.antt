use Rattle.std.proofs.Common.{◌+◌, ◌<◌, ◌≤◌, sym, subst, arith}
use Rattle.network.specs.Steps.{Rounding}
use Rattle.network.proofs.Turns.{rounding_skip, rounding_more}
use Rattle.network.proofs.closing.relax.Goals as goal
use Rattle.network.proofs.closing.relax.Goals.{then-i-k, else-i-k}

pub loop-i-preserved : goal.loop-i-preserved
loop-i-preserved g c =
    let m = g.K.Kind in
    let n = c.args.width in
    let k = c.args.k in
    let i = c.loop-i.i in
    let t = c.args.table.now in
    let n≤8 : n ≤ 8 = omega arith in
    let k<n : k < n = omega arith in
    let i<n : i < n = omega arith in
    let Goal = Rounding m.group m.value m.weight n k (i + 1) t in
    elim c.if-i-k.branch [
      | then-i-k w ↦ subst Goal (sym w.table-is) (rounding_more m.group m.value m.weight n k i n≤8 k<n i<n t c.loop-i.table w.relax_row.new.table c.loop-i.invariant w.if-i-k.true w.relax_row.ensures)
      | else-i-k w ↦ subst Goal (sym w.table-is) (rounding_skip m.group m.value m.weight n k i n≤8 k<n i<n t c.loop-i.table t c.loop-i.invariant w.if-i-k.false)
    ]
