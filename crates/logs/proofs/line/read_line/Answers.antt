use Rattle.std.proofs.Common.{◌≡◌, ◌+◌, ◌<◌, eqb, length, sym, ◌∙◌, subst, arith}
use Rattle.std.proofs.lemmas.Bool.{eqb-true, eq-eqb, cond-true}
use Rattle.text.specs.Split.{split}
use Rattle.logs.specs.LogLines.{fields_say, Says}
use Rattle.logs.proofs.line.read_line.Goals as goal

pub returns : goal.returns
returns g c =
    let m = g.K.Kind in
    let fs = split 9 c.args.text.now in
    let counted : length fs ≡ 2 + m.fields = sym c.count.ensures ∙ eqb-true _ _ (sym c.has_fields_behind.ensures ∙ c.if-not-has_fields_behind.false) in
    let many : 2 < length fs = omega (arith, m.takes.some) in
    subst (λ a. Says m.value a c.read_fields.result)
    (sym (cond-true (eqb (length fs) (2 + m.fields)) (fields_say m.fields m.means m.stamp c.args.line fs) _ (eq-eqb (length fs) (2 + m.fields) counted)))
    (c.read_fields.ensures many)
