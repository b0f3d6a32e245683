use Rattle.std.proofs.Common.{rules}
use Rattle.queue.specs.Held.{held}
use Rattle.queue.proofs.Bags.{first_leads}
use Rattle.queue.proofs.heap.Heap.least.Goals as goal

pub returns-clause-leads : goal.returns-clause-leads
returns-clause-leads g c was = first_leads g.T.Ranked.leq g.T.Ranked.ranks (held c.args.self.now) _ (search rules) was
