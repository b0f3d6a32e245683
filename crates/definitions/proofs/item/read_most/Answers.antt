use Rattle.std.proofs.Common.{rules}
use Rattle.definitions.proofs.item.read_most.Goals as goal

pub returns : goal.returns
returns g c = c.read_behind.ensures g.K.Kind.bound (λ k r given. search rules)
