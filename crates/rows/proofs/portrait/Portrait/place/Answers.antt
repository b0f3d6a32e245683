use Rattle.std.proofs.Common.{rules}
use Rattle.rows.specs.Filled.{NoneOpen, FirstOpen}
use Rattle.rows.proofs.Placement.{place_fails, place_grows, place_ripens}
use Rattle.rows.proofs.portrait.Portrait.place.Goals as goal

pub returns-then-not-allows_all : goal.returns-then-not-allows_all
returns-then-not-allows_all g c l k e shown is light new =
    let m = g.K.Kind in
    place_fails m.group m.value m.weight l k c.args.self.now shown c.args.j e new (m.value c.args.stamp.now) is c.allows_all.result
    (c.allows_all.ensures l k shown light new.inside) c.if-not-allows_all.true

pub returns-in-Some : goal.returns-in-Some
returns-in-Some g c l k e shown is light new =
    let m = g.K.Kind in
    let first : FirstOpen c.with.result.bits c.args.self.now.width c.in-Some.field-0 = search rules in
    place_grows m.group m.value m.weight l k c.args.self.now shown c.args.j e new (m.value c.args.stamp.now) is c.allows_all.result
    (c.allows_all.ensures l k shown light new.inside) c.if-not-allows_all.false c.with.result.bits c.with.ensures c.in-Some.field-0 first

pub returns-in-None : goal.returns-in-None
returns-in-None g c l k e shown is light new =
    let m = g.K.Kind in
    let full : NoneOpen c.with.result.bits c.args.self.now.width = search rules in
    place_ripens m.group m.value m.weight l k c.args.self.now shown c.args.j e new (m.value c.args.stamp.now) is c.allows_all.result
    (c.allows_all.ensures l k shown light new.inside) c.if-not-allows_all.false c.with.result.bits c.with.ensures full
