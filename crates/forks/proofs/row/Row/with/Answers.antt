use Rattle.std.proofs.Common.{◌≡◌, ◌<◌, take, set, sym, refl, ap, ◌∙◌, subst, arith}
use lib.Seq.{take-set-lt}
use Rattle.rows.specs.Placings.{loading_plus, choice_plus}
use Rattle.rows.specs.Portraits.{Portrays}
use Rattle.forks.specs.Rows.{choice_of}
use Rattle.rows.proofs.Placement.{portrays_plus, closed_plus}
use Rattle.forks.proofs.row.Row.with.Goals as goal

pub returns : goal.returns
returns g c l e row closed new arrives =
    let m = g.K.Kind in
    let self = c.args.self.now in
    let j = c.args.j in
    let arrival = c.args.arrival.now in
    let numbers = c.replaced.result in
    let stamps = c.replaced-2.result in
    let few : j < 8 = omega (arith, new.inside, row.portrays.few) in
    let choice : take self.width numbers ≡ choice_plus (choice_of self) j e =
    ap (take self.width) (c.replaced.ensures few) ∙ take-set-lt self.width self.numbers j arrival.number (omega (arith, new.inside, row.portrays.wide)) ∙ ap (set (choice_of self) j) (sym arrives.number) in
    let portrays : Portrays m.group m.value m.weight (loading_plus l e) (take self.width numbers) c.with.result.bits stamps self.width =
    subst (λ s. Portrays m.group m.value m.weight (loading_plus l e) (take self.width numbers) c.with.result.bits s self.width) (sym (c.replaced-2.ensures few))
    (subst (λ k. Portrays m.group m.value m.weight (loading_plus l e) k c.with.result.bits (set self.stamps j arrival.stamp) self.width) (sym choice)
    (portrays_plus m.group m.value m.weight l (choice_of self) self.filled.bits self.stamps self.width row.portrays j e new arrival.stamp arrives.stamp arrives.light c.with.result.bits c.with.ensures)) in
    record {
      slot = refl;
      choice = choice;
      standing = record {
        portrays = portrays;
        due = c.deadline.ensures (loading_plus l e) (take self.width numbers) (c.portrait.ensures (loading_plus l e) (take self.width numbers) portrays (closed_plus m.group m.value m.weight l c.args.table.now e closed));
      };
    }
