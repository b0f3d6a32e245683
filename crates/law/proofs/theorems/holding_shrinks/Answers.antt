use Rattle.law.proofs.Growing.{holding_shrinks_lem}
use Rattle.law.proofs.theorems.holding_shrinks.Goals as goal

pub returns : goal.returns
returns g c l k before now later held = holding_shrinks_lem g.K.Kind.group l k before now later held
