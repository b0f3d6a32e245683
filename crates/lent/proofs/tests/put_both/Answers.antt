use Rattle.std.proofs.Common.{[], ◌∷◌}
use Rattle.lent.proofs.tests.put_both.Goals as goal

pub returns : goal.returns
returns g c = g.S.Sink.adds.more _ _ _ (c.args.first.now ∷ []) (c.args.second.now ∷ []) c.put.ensures c.put-2.ensures
