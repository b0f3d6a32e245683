use Rattle.std.proofs.Common.{arith}
use Rattle.definitions.proofs.TypeNames.{names_length, names_get}
use Rattle.definitions.proofs.types.Types.get.Goals as goal

pub returns-then-i-self : goal.returns-then-i-self
returns-then-i-self c = omega (arith, names_length c.args.self.now)

pub returns : goal.returns
returns c = names_get c.args.self.now c.args.i c.index-self-i.result c.if-i-self.false
