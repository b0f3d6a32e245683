use Rattle.std.proofs.Common.{◌≡◌, ℕ, false, rules, tests}
use Rattle.std.proofs.lemmas.Iterator.{cases_from_all, YieldsList-from_slice}
use Rattle.rows.specs.Filled.{is_in}
use Rattle.forks.proofs.Masks.{none_wanted}
use Rattle.forks.proofs.wanted.Wanted.is_none.Goals as goal

pub returns : goal.returns
returns c = none_wanted c.args.self.now c.all.result (search rules)
    (cases_from_all _ _ _ (λ m. (j : ℕ) → is_in m.bits j ≡ false) (λ m. ((j : ℕ) → is_in m.bits j ≡ false) → ⊥) c.all.ensures.ran
    (YieldsList-from_slice c.args.self.now.masks cc) (λ m q r. search (rules, tests)) (λ m q r. search (rules, tests)))
