use Rattle.std.proofs.Common.{◌≡◌, Some, Decides, sym, subst, rules}
use Rattle.kinds.specs.Bounds.{at_most, meant}
use Rattle.kinds.specs.declared.bound.Bound.TheVariants.{At}
use Rattle.law.specs.Holding.{HeldIn}
use Rattle.rows.proofs.Waiting.{stays_held_lem}
use Rattle.rows.proofs.holding.stays_held.Goals as goal

pub returns : goal.returns
returns g c l k t closed by held due =
    let m = g.K.Kind in
    let x = m.value c.args.moment.now in
    let end = meant m.value c.args.deadline.now in
    let tested : c.at_most.result ≡ at_most m.group (At x) end = search rules in
    subst (λ r. Decides r (HeldIn m.group l (Some x) k)) (sym tested) (stays_held_lem m.group l k t closed by held x end due)
