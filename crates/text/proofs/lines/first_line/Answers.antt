use Rattle.std.proofs.Common.{true, false, Err, sym, ap, ◌∙◌, arith}
use Rattle.std.proofs.lemmas.Bool.{eqb-false}
use Rattle.text.proofs.FirstLines.{line-open, line-ended}
use Rattle.text.proofs.lines.first_line.Goals as goal

pub returns-then-end-text : goal.returns-then-end-text
returns-then-end-text c =
    let some = eqb-false _ 0 (sym c.is_empty.ensures ∙ c.if-is_empty.false) in
    line-open c.args.number c.args.text.now (omega arith) (omega arith) ∙ ap Err (sym c.fault-then-end-text.ensures)

pub returns-else-is_short : goal.returns-else-is_short
returns-else-is_short c =
    line-ended c.args.number c.args.text.now c.find-end.result c.find-end.ensures.place (omega arith) false c.if-is_short.ensures
    ∙ ap Err (sym c.fault-else-is_short.ensures)

pub returns-then-is_short : goal.returns-then-is_short
returns-then-is_short c =
    line-ended c.args.number c.args.text.now c.find-end.result c.find-end.ensures.place (omega arith) true c.if-is_short.ensures
