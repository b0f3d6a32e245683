use Rattle.std.proofs.Common.{eqb, ◌∙◌, rules, tests}
use Rattle.std.proofs.lemmas.Iterator.{YieldsList-from_slice}
use Rattle.std.proofs.lemmas.Iterator.Search.{position_from_yields_List}
use Rattle.text.proofs.Chains.{position_is}
use Rattle.text.proofs.Splits.{place_within}
use Rattle.text.proofs.parts.find.Goals as goal

pub returns-clause-place : goal.returns-clause-place
returns-clause-place c =
    let first = position_from_yields_List (λ x. eqb x c.args.b) _ _ c.position.result c.position.ensures.ran (YieldsList-from_slice c.args.bytes.now cc) (λ x b q k. search (rules, tests)) in
    c.unwrap_or.ensures ∙ position_is c.args.b c.args.bytes.now c.position.result first (place_within c.args.b c.args.bytes.now)
