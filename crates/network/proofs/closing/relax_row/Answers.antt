use Rattle.std.proofs.Common.{◌+◌, ◌<◌, ◌≤◌, sym, refl, ap, ◌∙◌, subst, arith}
use Rattle.std.proofs.lemmas.Bool.{false≢true}
use Rattle.kinds.specs.Bounds.{join, weighs, meant}
use Rattle.network.specs.Steps.{Relaxed}
use Rattle.network.specs.Tables.{entry}
use Rattle.network.proofs.Lowering.{from_k, relaxed_skip, relaxed_more}
use Rattle.network.proofs.closing.relax_row.Goals as goal
use Rattle.network.proofs.closing.relax_row.Goals.{in-Some, in_default}

pub loop-j-preserved : goal.loop-j-preserved
loop-j-preserved g c =
    let m = g.K.Kind in
    let i = c.args.i in
    let k = c.args.k in
    let j = c.loop-j.j in
    let t = c.args.table.now in
    let u = c.loop-j.table in
    let i<8 : i < 8 = c.requires.inside.0 in
    let k<8 : k < 8 = c.requires.inside.1 in
    let j<8 : j < 8 = omega arith in
    let to = ap (meant m.value) c.get-via.ensures in
    let on = from_k m.group m.value m.weight i k i<8 k<8 c.requires.other j j<8 t u c.loop-j.invariant in
    elim c.match-joined.branch [
      | in-Some w ↦
          subst (Relaxed m.group m.value m.weight i k (j + 1) t) (sym w.table-is)
          (relaxed_more m.group m.value m.weight i k i<8 k<8 c.requires.other j j<8 t u c.loop-j.invariant w.in-Some.way w.lower.new.table w.lower.ensures
          (w.in-Some.ensures.exact w.in-Some.way refl ∙ ap (λ b. join m.group b (entry m.value u k j)) to ∙ ap (join m.group (entry m.value t i k)) on))
      | in_default w ↦
          subst (Relaxed m.group m.value m.weight i k (j + 1) t) (sym w.table-is)
          (relaxed_skip m.group m.value m.weight i k i<8 k<8 c.requires.other j j<8 t u c.loop-j.invariant
          (λ light. false≢true (w.in_default.ensures.present
          (subst (λ b. weighs m.weight b + weighs m.weight (entry m.value u k j) ≤ 16777216) (sym to)
          (subst (λ b. weighs m.weight (entry m.value t i k) + weighs m.weight b ≤ 16777216) (sym on) light)))))
    ]
