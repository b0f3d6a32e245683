use Rattle.std.proofs.Common.{◌≡◌, true, sym, refl, subst}
use Rattle.std.proofs.lemmas.Bool.{both_ways}
use Rattle.kinds.specs.Bounds.{meant, at_most}
use Rattle.kinds.specs.declared.bound.Bound.TheVariants.{At}
use Rattle.law.specs.Holding.{Deadline}
use Rattle.rows.proofs.Waiting.{stays_held_lem}
use Rattle.forks.specs.Rows.{choice_of}
use Rattle.forks.proofs.row.Row.ending.Goals as goal

pub returns-in_default : goal.returns-in_default
returns-in_default g c l t closed by standing held =
    let m = g.K.Kind in
    let self = c.args.self.now in
    let x = m.value c.args.moment.now in
    (stays_held_lem m.group l (choice_of self) t closed by held x (meant m.value self.deadline) standing.due).0 (subst (λ b. at_most m.group (At x) (meant m.value b) ≡ true) (sym c.in_default.is) refl)

pub returns-then-stays_held : goal.returns-then-stays_held
returns-then-stays_held g c l t closed by standing held = (c.stays_held.ensures l (choice_of c.args.self.now) t closed by held standing.due).0 c.if-stays_held.true

pub returns : goal.returns
returns g c l t closed by standing held = (
  λ still. both_ways _ c.if-stays_held.false ((c.stays_held.ensures l (choice_of c.args.self.now) t closed by held standing.due).1 still),
  refl,
  subst (λ b. Deadline g.K.Kind.group l (choice_of c.args.self.now) (meant g.K.Kind.value b)) c.in-At.is standing.due,
)
