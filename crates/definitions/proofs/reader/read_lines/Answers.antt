use Rattle.std.proofs.Common.{◌≡◌, ◌+◌, ◌≤◌, length, drop, sym, refl, ◌∙◌, subst, arith, rules}
use Rattle.std.proofs.lemmas.Result.{err_from_is_err_and}
use Rattle.text.specs.Split.{split}
use Rattle.definitions.specs.Drafts.{Empty, Held, Drafted}
use Rattle.definitions.specs.Items.{said_by}
use Rattle.definitions.specs.Steps.{line_end}
use Rattle.definitions.proofs.Judging.{item_admits, judged_line, judged_item, judged_refused, judged_accepted}
use Rattle.definitions.proofs.Lining.{line_within, line_ends}
use Rattle.definitions.proofs.Progress.{parses_err, parses_last, read_next}
use Rattle.definitions.proofs.reader.read_lines.Goals as goal

pub returns-in_err-line-clause-parses : goal.returns-in_err-line-clause-parses
returns-in_err-line-clause-parses g c empty =
    let m = g.K.Kind in
    let text = c.args.text.now in
    let at = c.lines.invariant.4 (subst (Empty m.group m.value) (sym c.new-draft.ensures.same) empty) in
    let p = err_from_is_err_and c.from_residual.result c.from_residual.ensures.1 in
    rw (p.1, p.2) (parses_err m.fields m.means m.bound c.args.loaded.now.0 c.lines.number c.lines.used at.0 text _ at.2 _ c.in_err-line.field-0.0
    (judged_line m.fields m.means m.bound c.args.loaded.now.0 c.lines.number at.0 (split 10 (drop c.lines.used text)) c.in_err-line.field-0.0 c.in_err-line.ensures))

pub returns-in_err-item-clause-parses : goal.returns-in_err-item-clause-parses
returns-in_err-item-clause-parses g c empty =
    let m = g.K.Kind in
    let text = c.args.text.now in
    let at = c.lines.invariant.4 (subst (Empty m.group m.value) (sym c.new-draft.ensures.same) empty) in
    let p = err_from_is_err_and c.from_residual-in_err-item.result c.from_residual-in_err-item.ensures.1 in
    rw (p.1, p.2) (parses_err m.fields m.means m.bound c.args.loaded.now.0 c.lines.number c.lines.used at.0 text _ at.2 _ c.in_err-item.field-0.0
    (judged_item m.fields m.means m.bound c.args.loaded.now.0 c.lines.number at.0 (split 10 (drop c.lines.used text)) c.in_ok-line.line.now c.in_ok-line.ensures c.in_err-item.field-0.0 c.in_err-item.ensures))

pub returns-in_err-accept-clause-parses : goal.returns-in_err-accept-clause-parses
returns-in_err-accept-clause-parses g c empty =
    let m = g.K.Kind in
    let text = c.args.text.now in
    let at = c.lines.invariant.4 (subst (Empty m.group m.value) (sym c.new-draft.ensures.same) empty) in
    let p = err_from_is_err_and c.from_residual-in_err-accept.result c.from_residual-in_err-accept.ensures.1 in
    let line = c.in_ok-line.line.now in
    let said = said_by m.value c.in_ok-item.item in
    let allowed = item_admits m.fields m.means m.bound c.lines.number (split 9 line) said c.in_ok-item.ensures in
    rw (p.1, p.2) (parses_err m.fields m.means m.bound c.args.loaded.now.0 c.lines.number c.lines.used at.0 text _ at.2 _ c.in_err-accept.field-0.0
    (judged_refused m.fields m.means m.bound c.args.loaded.now.0 c.lines.number at.0 (split 10 (drop c.lines.used text)) line c.in_ok-line.ensures said c.in_ok-item.ensures _ c.in_err-accept.field-0.0 (c.in_err-accept.ensures.adds at.0 at.1 allowed)))

pub returns-then-is_closing-clause-within : goal.returns-then-is_closing-clause-within
returns-then-is_closing-clause-within g c =
    let within = line_within c.lines.number c.lines.used c.args.text.now c.in_ok-line.line.now c.in_ok-line.ensures in
    (omega arith, omega (arith, within))

pub returns-then-is_closing-clause-parses : goal.returns-then-is_closing-clause-parses
returns-then-is_closing-clause-parses g c empty =
    let m = g.K.Kind in
    let text = c.args.text.now in
    let at = c.lines.invariant.4 (subst (Empty m.group m.value) (sym c.new-draft.ensures.same) empty) in
    let line = c.in_ok-line.line.now in
    let said = said_by m.value c.in_ok-item.item in
    let allowed = item_admits m.fields m.means m.bound c.lines.number (split 9 line) said c.in_ok-item.ensures in
    let made = judged_accepted m.fields m.means m.bound c.args.loaded.now.0 c.lines.number at.0 (split 10 (drop c.lines.used text)) line c.in_ok-line.ensures said c.in_ok-item.ensures
    (Drafted m.group m.value m.bound c.accept.new.self) (c.in_ok-accept.ensures.adds at.0 at.1 allowed) in
    let ends : c.lines.used + (length line + 1) ≡ line_end text c.lines.used = omega (arith, line_ends c.lines.number c.lines.used text line c.in_ok-line.ensures) in
    parses_last m.fields m.means m.bound c.args.loaded.now.0 c.lines.number c.lines.used at.0 text _ at.2 _ said made.0 made.1 _ ends
    (sym c.is_closing.ensures ∙ c.if-is_closing.true) _
    (record { slot = made.2.slot; types = made.2.types; limits = made.2.limits; lines = refl; used = refl }) (subst (λ t. Held m.group m.value m.bound t made.0) (search rules) made.2.held)

pub lines-preserved : goal.lines-preserved
lines-preserved g c =
    let m = g.K.Kind in
    let text = c.args.text.now in
    let line = c.in_ok-line.line.now in
    let first = c.in_ok-line.ensures in
    let within : c.lines.used + length line + 1 ≤ length text = line_within c.lines.number c.lines.used text line first in (
      omega (arith, within),
      omega (arith, c.lines.invariant.1),
      c.in_ok-accept.ensures.over ∙ c.lines.invariant.2,
      λ k h. c.in_ok-accept.ensures.kept k h ∙ c.lines.invariant.3 k h,
      λ empty.
          let at = c.lines.invariant.4 empty in
          let said = said_by m.value c.in_ok-item.item in
          let allowed = item_admits m.fields m.means m.bound c.lines.number (split 9 line) said c.in_ok-item.ensures in
          let made = judged_accepted m.fields m.means m.bound c.args.loaded.now.0 c.lines.number at.0 (split 10 (drop c.lines.used text)) line first said c.in_ok-item.ensures
          (Drafted m.group m.value m.bound c.accept.new.self) (c.in_ok-accept.ensures.adds at.0 at.1 allowed) in
          let ends : c.lines.used + (length line + 1) ≡ line_end text c.lines.used = omega (arith, line_ends c.lines.number c.lines.used text line first) in (
            made.0,
            made.2,
            read_next m.fields m.means m.bound c.args.loaded.now.0 c.lines.number c.lines.used at.0 text _ at.2 (λ _. Unit {0}) said made.0 made.1 _ ends (sym c.is_closing.ensures ∙ c.if-is_closing.false),
          ),
    )
