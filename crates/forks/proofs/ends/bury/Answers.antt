use Rattle.std.proofs.Common.{◌<◌, ◌≤◌, length, sym, ap, ◌∙◌, subst, arith}
use Rattle.lent.specs.Lists.{held}
use Rattle.forks.specs.Rows.{EndsAt}
use Rattle.forks.proofs.Burying.{compacts_none, compacts_stays, compacts_ends, compacts_past, compacts_all}
use Rattle.forks.proofs.ends.bury.Goals as goal
use Rattle.forks.proofs.ends.bury.Goals.{else-loop-i-test, then-loop-i-test+in_default}

pub loop-i-init : goal.loop-i-init
loop-i-init g c = compacts_none g.K.Kind g.L.Sink.adds (g.K.Kind.value c.args.moment.now) c.args.rows.now c.args.lines.now

pub loop-i-preserved-in_default-ending : goal.loop-i-preserved-in_default-ending
loop-i-preserved-in_default-ending g c =
    let inside : c.loop-i.i < length (held c.args.rows.now) = omega arith in
    compacts_stays g.K.Kind g.L.Sink.adds (g.K.Kind.value c.args.moment.now) c.args.rows.now c.loop-i.rows c.loop-i.i c.loop-i.stay c.args.lines.now c.loop-i.lines c.loop-i.invariant inside c.in-Some.row (sym c.get.ensures ∙ c.in-Some.is)
    c.set.new.self c.set.ensures (subst (EndsAt g.K.Kind c.in-Some.row (g.K.Kind.value c.args.moment.now)) c.in_default-ending.is c.ending.ensures)

pub loop-i-preserved : goal.loop-i-preserved
loop-i-preserved g c =
    let inside : c.loop-i.i < length (held c.args.rows.now) = omega arith in
    compacts_ends g.K.Kind g.L.Sink.adds (g.K.Kind.value c.args.moment.now) c.args.rows.now c.loop-i.rows c.loop-i.i c.loop-i.stay c.args.lines.now c.loop-i.lines c.loop-i.invariant inside c.in-Some.row (sym c.get.ensures ∙ c.in-Some.is)
    c.put.new.self c.in-Some-ending.line c.put.ensures (subst (EndsAt g.K.Kind c.in-Some.row (g.K.Kind.value c.args.moment.now)) c.in-Some-ending.is c.ending.ensures)

pub returns : goal.returns
returns g c =
    let all : length (held c.args.rows.now) ≤ c.loop-i.i = elim c.loop-i-test.branch [
      | else-loop-i-test w ↦ omega arith
      | then-loop-i-test+in_default w ↦ compacts_past g.K.Kind g.L.Sink.adds (g.K.Kind.value c.args.moment.now) c.args.rows.now c.loop-i.rows c.loop-i.i c.loop-i.stay c.args.lines.now c.loop-i.lines c.loop-i.invariant (sym w.get.ensures ∙ w.in_default.is)
    ] in
    record {
      kept = compacts_all g.K.Kind g.L.Sink.adds (g.K.Kind.value c.args.moment.now) c.args.rows.now c.loop-i.rows c.loop-i.i c.loop-i.stay c.args.lines.now c.loop-i.lines c.loop-i.invariant all c.truncate.new.self c.truncate.ensures.held;
      capacity = ap length c.truncate.ensures.memory ∙ c.loop-i.invariant.capacity;
    }
