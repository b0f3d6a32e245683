use Rattle.std.proofs.Common.{◌≡◌, replicate, ap, ◌∙◌, arith, rules}
use Rattle.std.proofs.lemmas.List.{length-take-le}
use Rattle.kinds.specs.declared.bound.Bound.TheVariants.{NoBound}
use Rattle.network.proofs.Lowering.{emptied}
use Rattle.network.proofs.table.empty.Given as given
use Rattle.network.proofs.table.empty.Goals as goal
use Rattle.network.proofs.table.empty.Goals.{After-fill}

-- a clone of no bound is no bound
filled : (g : given.Over) (c : After-fill g) → c.fill.new.self ≡ replicate 64 NoBound
filled g c = c.fill.ensures.after (λ y h. search rules) ∙ ap (λ n. replicate n NoBound) (length-take-le 64 c.args.table.now (omega arith))

pub returns-clause-beyond : goal.returns-clause-beyond
returns-clause-beyond g c = let all = emptied c.args.table.now c.fill.new.self (filled g (goal.at.returns-clause-beyond g c).After-fill) in all.kept

pub returns-clause-after : goal.returns-clause-after
returns-clause-after g c = emptied c.args.table.now c.fill.new.self (filled g (goal.at.returns-clause-after g c).After-fill)
