use Rattle.std.proofs.Common.{◌≡◌, arith}
use Rattle.law.specs.Holding.{width}
use Rattle.forks.proofs.Several.{forked_start, forked_more, forked_all}
use Rattle.forks.proofs.Sinking.{sunk_none, sunk_more, sunk_as}
use Rattle.forks.proofs.fork.fork.Goals as goal

pub loop-j-init : goal.loop-j-init
loop-j-init g c = sunk_none g.R.Sink.adds g.L.Sink.adds c.args.rows.now c.args.lines.now _
    (λ l e by. forked_start g.K.Kind l e c.args.table.now c.args.wanted.bits c.args.arrival.now c.args.parent.now by)

pub loop-j-preserved : goal.loop-j-preserved
loop-j-preserved g c = sunk_more g.R.Sink.adds g.L.Sink.adds c.args.rows.now c.loop-j.rows c.fork_at.new.rows c.args.lines.now c.loop-j.lines c.fork_at.new.lines _ _ _
    (λ born born' ripe ripe' p q l e by.
    forked_more g.K.Kind l e c.args.table.now c.args.wanted.bits c.args.arrival.now c.args.parent.now by c.loop-j.j born born' ripe ripe' (p l e by) (q l e by))
    c.loop-j.invariant c.fork_at.ensures

pub returns : goal.returns
returns g c = sunk_as g.R.Sink.adds g.L.Sink.adds c.args.rows.now c.loop-j.rows c.args.lines.now c.loop-j.lines _ _
    (λ born ripe p l e by.
    let done : c.loop-j.j ≡ width l = omega (arith, by.standing.portrays.wide) in
    forked_all g.K.Kind l e c.args.table.now c.args.wanted.bits c.args.arrival.now c.args.parent.now by c.loop-j.j born ripe done (p l e by))
    c.loop-j.invariant
