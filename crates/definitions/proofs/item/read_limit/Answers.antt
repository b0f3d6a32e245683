use Rattle.std.proofs.Common.{[], get_or, Err, sym, ap, ◌∙◌}
use Rattle.std.proofs.lemmas.Result.{err_from_is_err_and}
use Rattle.text.specs.Split.{split}
use Rattle.kinds.proofs.Means.{ok_or_ok, ok_or_err}
use Rattle.definitions.specs.Lines.{small}
use Rattle.definitions.proofs.Items.{limit_second, limit_most, limit_all}
use Rattle.definitions.proofs.item.read_limit.Goals as goal

pub returns-in_err-j : goal.returns-in_err-j
returns-in_err-j g c long =
    let m = g.K.Kind in
    let fs = split 9 c.args.text.now in
    let p = err_from_is_err_and c.from_residual-in_err-j.result c.from_residual-in_err-j.ensures.1 in
    let e = ok_or_err (small (get_or fs 2 [])) _ _ c.in_err-j.ensures.value in
    rw (p.1, p.2) (limit_second m.fields m.means m.bound c.args.line fs c.in_ok-i.i (ok_or_ok (small (get_or fs 1 [])) _ _ c.in_ok-i.ensures.value) e.0 ∙ ap Err (sym e.1))

pub returns-in_err-most : goal.returns-in_err-most
returns-in_err-most g c long =
    let m = g.K.Kind in
    let fs = split 9 c.args.text.now in
    let p = err_from_is_err_and c.from_residual-in_err-most.result c.from_residual-in_err-most.ensures.1 in
    let e = c.in_err-most.ensures long in
    rw (p.1, p.2) (limit_most m.fields m.means m.bound c.args.line fs c.in_ok-i.i (ok_or_ok (small (get_or fs 1 [])) _ _ c.in_ok-i.ensures.value)
    c.in_ok-j.j (ok_or_ok (small (get_or fs 2 [])) _ _ c.in_ok-j.ensures.value) e.0 ∙ ap Err (sym e.1))

pub returns : goal.returns
returns g c long =
    let m = g.K.Kind in
    let fs = split 9 c.args.text.now in
    limit_all m.fields m.means m.bound c.args.line fs c.in_ok-i.i (ok_or_ok (small (get_or fs 1 [])) _ _ c.in_ok-i.ensures.value)
    c.in_ok-j.j (ok_or_ok (small (get_or fs 2 [])) _ _ c.in_ok-j.ensures.value) (m.value c.in_ok-most.most) (c.in_ok-most.ensures long)
