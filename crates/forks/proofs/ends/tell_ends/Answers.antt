use Rattle.std.proofs.Common.{[], ◌∷◌, ◌++◌, length, refl, subst, arith}
use Rattle.std.proofs.lemmas.List.{length_push}
use Rattle.std.proofs.lemmas.Option.{slice_get_read}
use Rattle.forks.specs.Rows.{EndsAt}
use Rattle.forks.proofs.Settling.{settles_none, settles_stays, settles_ends}
use Rattle.forks.proofs.ends.tell_ends.Goals as goal

pub loop-row-init : goal.loop-row-init
loop-row-init g c = ([], refl, omega arith, settles_none g.K.Kind (g.K.Kind.value c.args.moment.now) c.as_slice-row-items.result.now g.L.Sink.adds c.args.lines.now)

pub loop-row-preserved-in_default : goal.loop-row-preserved-in_default
loop-row-preserved-in_default g c =
    let rows = c.as_slice-row-items.result.now in
    let (kept, count, below, so) = c.loop-row.invariant in (
      kept ++ (c.row-item.result ∷ []),
      omega (arith, count, length_push kept c.row-item.result),
      omega (arith, below),
      settles_stays g.K.Kind rows c.loop-row.row-index c.row-item.result c.loop-row-test.true (slice_get_read rows (length rows) c.loop-row.row-index c.row-item.result refl c.loop-row-test.true c.row-item.is)
          (g.K.Kind.value c.args.moment.now) kept c.args.lines.now c.loop-row.lines so (subst (EndsAt g.K.Kind c.row-item.result (g.K.Kind.value c.args.moment.now)) c.in_default.is c.ending.ensures),
    )

pub loop-row-preserved : goal.loop-row-preserved
loop-row-preserved g c =
    let rows = c.as_slice-row-items.result.now in
    let (kept, count, below, so) = c.loop-row.invariant in (
      kept,
      count,
      omega (arith, below),
      settles_ends g.K.Kind rows c.loop-row.row-index c.row-item.result c.loop-row-test.true (slice_get_read rows (length rows) c.loop-row.row-index c.row-item.result refl c.loop-row-test.true c.row-item.is)
          (g.K.Kind.value c.args.moment.now) g.L.Sink.adds kept c.args.lines.now c.loop-row.lines c.put.new.self c.in-Some.line so c.put.ensures
          (subst (EndsAt g.K.Kind c.row-item.result (g.K.Kind.value c.args.moment.now)) c.in-Some.is c.ending.ensures),
    )
