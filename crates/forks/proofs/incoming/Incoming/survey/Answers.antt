use Rattle.std.proofs.Common.{length, refl, subst, arith}
use Rattle.std.proofs.lemmas.Option.{slice_get_read}
use Rattle.forks.specs.Rows.{EndsAt}
use Rattle.forks.specs.Spreads.{Surveyed}
use Rattle.forks.proofs.Surveying.{survey_none, survey_ends, survey_stays, survey_all}
use Rattle.forks.proofs.incoming.Incoming.survey.Goals as goal

pub loop-row-init : goal.loop-row-init
loop-row-init g c = (omega arith, survey_none g.K.Kind g.R.Sink.adds g.L.Sink.adds c.as_slice-row-items.result.now c.args.self.now c.args.born.now c.args.lines.now)

pub loop-row-preserved : goal.loop-row-preserved
loop-row-preserved g c =
    let rows = c.as_slice-row-items.result.now in (
      omega (arith, c.loop-row.invariant.0),
      survey_stays g.K.Kind g.R.Sink.adds g.L.Sink.adds rows c.args.self.now c.loop-row.row-index c.loop-row.stay c.args.born.now c.loop-row.born c.args.lines.now c.loop-row.lines c.loop-row.invariant.1
          c.row-item.result c.loop-row-test.true (slice_get_read rows (length rows) c.loop-row.row-index c.row-item.result refl c.loop-row-test.true c.row-item.is) c.spread_one.new.rows c.spread_one.new.lines
          (subst (EndsAt g.K.Kind c.row-item.result (g.K.Kind.value c.args.self.now.arrival.stamp)) c.in-None.is c.ending.ensures) c.spread_one.ensures,
    )

pub loop-row-preserved-in_default : goal.loop-row-preserved-in_default
loop-row-preserved-in_default g c =
    let rows = c.as_slice-row-items.result.now in (
      omega (arith, c.loop-row.invariant.0),
      survey_ends g.K.Kind g.R.Sink.adds g.L.Sink.adds rows c.args.self.now c.loop-row.row-index c.loop-row.stay c.args.born.now c.loop-row.born c.args.lines.now c.loop-row.lines c.loop-row.invariant.1
          c.row-item.result c.loop-row-test.true (slice_get_read rows (length rows) c.loop-row.row-index c.row-item.result refl c.loop-row-test.true c.row-item.is) c.ending.result c.in_default.not-None c.ending.ensures,
    )

pub returns : goal.returns
returns g c = subst (λ rows. Surveyed g.K.Kind g.R.Sink.took g.L.Sink.took rows c.args.self.now (length rows) c.loop-row.stay c.args.born.now c.loop-row.born c.args.lines.now c.loop-row.lines) c.as_slice-row-items.ensures
    (survey_all g.K.Kind g.R.Sink.adds g.L.Sink.adds c.as_slice-row-items.result.now c.args.self.now c.loop-row.row-index c.loop-row.stay c.args.born.now c.loop-row.born c.args.lines.now c.loop-row.lines (omega arith) c.loop-row.invariant.1)
