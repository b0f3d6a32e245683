use Rattle.std.proofs.Common.{sym, refl, arith}
use Rattle.std.proofs.lemmas.Bool.{lt-ltb, le-ltb}
use Rattle.definitions.proofs.TypeNames.{names_length, names_push}
use Rattle.definitions.proofs.types.Types.push.Goals as goal

pub returns-then-self-ge8 : goal.returns-then-self-ge8
returns-then-self-ge8 c = record { room = sym (le-ltb _ 8 (omega (arith, names_length c.args.self.now))); after = refl }

pub returns : goal.returns
returns c = record {
  room = sym (lt-ltb _ 8 (omega (arith, names_length c.args.self.now)));
  after = names_push c.args.self.now.names c.args.self.now.count c.args.self.now.sized c.if-self-ge8.false c.args.name;
}
