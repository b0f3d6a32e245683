use Rattle.std.proofs.Common.{◌≡◌, ◌<◌, ◌++◌, map, length, take, Some, sym, ◌∙◌, subst, arith}
use Rattle.std.proofs.ByRecursion.{All-get_or}
use Rattle.std.proofs.lemmas.List.{take_all}
use Rattle.std.specs.List.{slice_get}
use Rattle.lent.specs.Lists.{held}
use Rattle.lent.specs.Storing.{stored_adds}
use Rattle.forks.specs.Rows.{row_of}
use Rattle.forks.specs.Spreads.{Alive, Spread}
use Rattle.forks.proofs.Settling.{past_end, found_at, take_here}
use Rattle.forks.proofs.Sinking.{sunk_none, sunk_more, sunk_as}
use Rattle.forks.proofs.Spreading.{spread_none, spread_more}
use Rattle.forks.proofs.Storing.{stored_nth}
use Rattle.forks.proofs.incoming.Incoming.spread_rows.Goals as goal

pub loop-i-init : goal.loop-i-init
loop-i-init g c = sunk_none stored_adds g.L.Sink.adds c.args.rows.now c.args.lines.now _ (λ a e ready alive. spread_none g.K.Kind a e)

pub loop-i-preserved : goal.loop-i-preserved
loop-i-preserved g c =
    let rows = held c.args.rows.now in
    let inside : c.loop-i.i < length rows = omega arith in
    let here : slice_get rows c.loop-i.i ≡ Some c.in-Some.row = sym (stored_nth c.args.rows.now c.loop-i.rows c.loop-i.invariant.0 c.loop-i.i c.loop-i.invariant.2 inside) ∙ sym c.get.ensures ∙ c.in-Some.is in
    sunk_more stored_adds g.L.Sink.adds c.args.rows.now c.loop-i.rows c.spread_one.new.rows c.args.lines.now c.loop-i.lines c.spread_one.new.lines _ _ _
    (λ born born' ripe ripe' old new a e ready alive.
    subst (λ ps. Spread g.K.Kind a e ps (born ++ born') (ripe ++ ripe')) (sym (take_here g.K.Kind rows c.loop-i.i c.in-Some.row inside here (g.K.Kind.value c.args.self.now.arrival.stamp) row_of))
    (spread_more g.K.Kind a e (map row_of (take c.loop-i.i rows)) (row_of c.in-Some.row) born born' ripe ripe' (old a e ready alive)
    (new a e ready (subst (Alive g.K.Kind a e) (found_at rows c.loop-i.i c.in-Some.row inside here) (All-get_or (Alive g.K.Kind a e) rows c.loop-i.i c.in-Some.row inside alive)))))
    c.loop-i.invariant c.spread_one.ensures

pub returns-after-loop-i : goal.returns-after-loop-i
returns-after-loop-i g c =
    let rows = held c.args.rows.now in
    sunk_as stored_adds g.L.Sink.adds c.args.rows.now c.loop-i.rows c.args.lines.now c.loop-i.lines _ _
    (λ born ripe old a e ready alive. subst (λ rs. Spread g.K.Kind a e (map row_of rs) born ripe) (take_all c.loop-i.i rows (omega arith)) (old a e ready alive)) c.loop-i.invariant

pub returns-in_default : goal.returns-in_default
returns-in_default g c =
    let rows = held c.args.rows.now in
    let inside : c.loop-i.i < length rows = omega arith in
    let gone = past_end rows c.loop-i.i (sym (stored_nth c.args.rows.now c.loop-i.rows c.loop-i.invariant.0 c.loop-i.i c.loop-i.invariant.2 inside) ∙ sym c.get.ensures ∙ c.in_default.is) in
    absurd (omega (arith, inside, gone))
