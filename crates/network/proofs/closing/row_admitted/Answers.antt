use Rattle.std.proofs.Common.{◌≡◌, ℕ, Bool, true, false, refl, arith, rules}
use Rattle.std.proofs.lemmas.Bool.{both_ways}
use Rattle.std.proofs.lemmas.Iterator.{cases_from_all, YieldsList-from_range}
use Rattle.kinds.specs.Bounds.{admits}
use Rattle.network.specs.Tables.{entry}
use Rattle.network.proofs.Ranges.{decides_below}
use Rattle.network.proofs.closing.row_admitted.Goals as goal
use borrow.Author.Tests.{tests}

pub returns : goal.returns
returns g c =
    let m = g.K.Kind in
    let n = c.args.width in
    let admitted : ℕ → Bool = λ j. admits m.bound (entry m.value c.args.table.now c.args.i j) in
    decides_below n (λ j. admitted j ≡ true) (λ j. admitted j ≡ false) (λ j yes no. both_ways _ no yes) c.all.result
    (cases_from_all _ _ _ (λ j. admitted j ≡ true) (λ j. admitted j ≡ false) c.all.ensures.ran (YieldsList-from_range 0 n n refl (omega arith)) (λ x q k. search (rules, tests)) (λ x q k. search (rules, tests)))
