use Rattle.kinds.proofs.Texts.{tick_back}
use Rattle.kinds.proofs.fields.write_long.Goals as goal

pub returns-clause-read_back : goal.returns-clause-read_back
returns-clause-read_back c = tick_back c.args.z c.ranges.z.sfits
