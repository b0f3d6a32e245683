use Rattle.std.proofs.Common.{None, refl}
use Rattle.recogniser.proofs.Opening.{stands_new}
use Rattle.recogniser.proofs.watch.Watch.new.Goals as goal

pub returns-clause-stands : goal.returns-clause-stands
returns-clause-stands g c = stands_new g.K.Kind record {
  entries = c.args.entries;
  slots = c.new.result;
  moment = None;
  count = 0;
  rows = c.new-2.result;
  queue = c.new-3.result;
} refl refl c.new.ensures c.new-2.ensures.empty c.new-3.ensures.empty c.new-3.ensures.heaped
