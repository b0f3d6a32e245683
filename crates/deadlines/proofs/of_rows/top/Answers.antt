use Rattle.deadlines.proofs.Tops.{top_says}
use Rattle.deadlines.proofs.of_rows.top.Goals as goal

pub returns : goal.returns
returns g c rs holds = top_says g.K.Kind rs c.args.queue.now holds c.least.result (c.least.ensures.leads holds.order)
