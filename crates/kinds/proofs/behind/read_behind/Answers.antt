use Rattle.std.proofs.Common.{◌≡◌, true, false, cond, Some, None, refl, sym, ap, ◌∙◌}
use Rattle.kinds.specs.Fields.{admitted}
use Rattle.kinds.proofs.behind.read_behind.Goals as goal

pub returns-then-not-admits : goal.returns-then-not-admits
returns-then-not-admits g c = λ test says l.
    let v = g.K.Kind.value c.in_ok-read.read in
    let tested : false ≡ test v = says c.in_ok-read.read false (_, c.if-not-admits.ensures, refl) in (
      ap (λ fs. admitted test (g.K.Kind.means fs)) (sym (c.parts_from.ensures.rest l)) ∙ ap (admitted test) c.in_ok-read.ensures
          ∙ ap (λ b. cond b (Some v) None) (sym tested),
      c.fault.ensures,
    )

pub returns : goal.returns
returns g c = λ test says l.
    let v = g.K.Kind.value c.in_ok-read.read in
    let tested : true ≡ test v = says c.in_ok-read.read true (_, c.if-not-admits.ensures, refl) in
    ap (λ fs. admitted test (g.K.Kind.means fs)) (sym (c.parts_from.ensures.rest l)) ∙ ap (admitted test) c.in_ok-read.ensures
    ∙ ap (λ b. cond b (Some v) None) (sym tested)
