use Rattle.std.proofs.Common.{◌≡◌, sym, ◌∙◌, subst, arith}
use Rattle.network.specs.Steps.{Running}
use Rattle.network.proofs.Turns.{running_more, ran_below, stays_light}
use Rattle.network.proofs.closing.rounds.Goals as goal

pub returns-then-not-is_settled-clause-ran : goal.returns-then-not-is_settled-clause-ran
returns-then-not-is_settled-clause-ran g c =
    let m = g.K.Kind in
    ran_below m.group m.value m.weight m.weighed c.args.width (omega arith) c.loop-k.k (omega arith) c.args.table.now c.loop-k.table c.loop-k.table c.loop-k.invariant
    (sym c.is_settled.ensures ∙ c.if-not-is_settled.true)

pub loop-k-preserved : goal.loop-k-preserved
loop-k-preserved g c =
    let m = g.K.Kind in
    running_more m.group m.value m.weight m.weighed c.args.width (omega arith) c.loop-k.k (omega arith) c.args.table.now c.loop-k.table c.relax.new.table c.loop-k.invariant
    (sym c.is_settled.ensures ∙ c.if-not-is_settled.false) c.relax.ensures

pub returns-clause-light : goal.returns-clause-light
returns-clause-light g c =
    let m = g.K.Kind in
    let e : c.loop-k.k ≡ c.args.width = omega arith in
    stays_light m.group m.value m.weight m.weighed c.args.width (omega arith) c.args.table.now c.loop-k.table
    (subst (λ k. Running m.group m.value m.weight c.args.width k c.args.table.now c.loop-k.table) e c.loop-k.invariant)
