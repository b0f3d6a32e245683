use Rattle.std.proofs.Common.{Ok, sym, ap, ◌∙◌, subst}
use Rattle.std.proofs.lemmas.Result.{err_from_is_err_and}
use Rattle.definitions.specs.Items.{said_by}
use Rattle.definitions.specs.Openings.{Opens}
use Rattle.definitions.specs.Reading.{reading_of}
use Rattle.definitions.proofs.Openings.{line_refused, item_refused, slot_opens}
use Rattle.definitions.proofs.opening.opening_slot.Goals as goal

pub returns-in_err-line : goal.returns-in_err-line
returns-in_err-line g c =
    let m = g.K.Kind in
    let p = err_from_is_err_and c.from_residual.result c.from_residual.ensures.1 in
    rw (p.1, p.2) (line_refused m.fields m.means m.bound m.takes c.args.loaded.now.0 c.args.text.now c.in_err-line.field-0.0 c.in_err-line.ensures)

pub returns-in_err-item : goal.returns-in_err-item
returns-in_err-item g c =
    let m = g.K.Kind in
    let p = err_from_is_err_and c.from_residual-in_err-item.result c.from_residual-in_err-item.ensures.1 in
    rw (p.1, p.2) (item_refused m.fields m.means m.bound m.takes c.args.loaded.now.0 c.args.text.now
    c.in_ok-line.line.now c.in_ok-line.ensures c.in_err-item.field-0.0 c.in_err-item.ensures)

pub returns : goal.returns
returns g c =
    let m = g.K.Kind in
    let loaded = c.args.loaded.now.0 in
    let says = c.in_ok-item.ensures ∙ ap (λ i. Ok (said_by m.value i)) c.in-Opening.is in
    subst (Opens loaded (reading_of m.fields m.means m.bound loaded c.args.text.now)) (sym c.if_empty.ensures)
    (slot_opens m.fields m.means m.bound m.takes loaded c.args.text.now c.in_ok-line.line.now c.in_ok-line.ensures c.in-Opening.slot says)
