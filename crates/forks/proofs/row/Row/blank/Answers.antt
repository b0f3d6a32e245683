use Rattle.std.proofs.Common.{◌≡◌, take, replicate, sym, refl, ap, ◌∙◌, subst}
use Rattle.std.proofs.lemmas.List.{take-replicate}
use Rattle.kinds.specs.declared.bound.Bound.TheVariants.{NoBound}
use Rattle.law.specs.Holding.{width, Deadline}
use Rattle.rows.specs.Portraits.{Portrays}
use Rattle.forks.proofs.Blanks.{blank_portrayed, blank_due}
use Rattle.forks.proofs.row.Row.blank.Goals as goal

pub returns : goal.returns
returns g c = (
  refl,
  λ l wide few.
      let m = g.K.Kind in
      let n = c.args.width in
      let stamps = replicate 8 c.args.arrival.now.stamp in
      let zeros : take n (replicate 8 0) ≡ replicate n 0 = take-replicate n 8 0 few in
      let choice : replicate (width l) 0 ≡ take n (replicate 8 0) = ap (λ m. replicate m 0) wide ∙ sym zeros in (
        zeros,
        record {
          portrays = subst (λ k. Portrays m.group m.value m.weight l k c.none.result.bits stamps n) choice (blank_portrayed m.group m.value m.weight l c.none.result.bits stamps n wide few refl c.none.ensures);
          due = subst (λ k. Deadline m.group l k NoBound) choice (blank_due m.group m.value m.weight l);
        },
      ),
)
