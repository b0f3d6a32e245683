use Rattle.std.proofs.Common.{sym}
use Rattle.definitions.proofs.TypeNames.{names_length}
use Rattle.definitions.proofs.types.Types.len.Goals as goal

pub returns : goal.returns
returns c = sym (names_length c.args.self.now)
