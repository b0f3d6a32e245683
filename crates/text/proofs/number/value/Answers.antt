use Rattle.std.proofs.Common.{◌≡◌, ◌+◌, ◌-◌, ◌*◌, get_or, drop, sym, ap, ◌∙◌, arith}
use Rattle.text.specs.Numbers.{read_on}
use Rattle.text.specs.Sizes.{sized}
use Rattle.text.proofs.Wholes.{digit_within, read_more, read_past, read_none, sized_kept}
use Rattle.text.proofs.number.value.Goals as goal

pub returns-in_err-checked_mul : goal.returns-in_err-checked_mul
returns-in_err-checked_mul c =
    c.from_residual.ensures ∙ sym (read_past c.loop-digit.size c.args.digits.now c.loop-digit.digit-index (omega arith) c.loop-digit.invariant (omega arith))

pub overflow_sub-digit : goal.overflow_sub-digit
overflow_sub-digit c = omega (arith, (digit_within c.args.digits.now c.loop-digit.digit-index c.requires (omega arith)).0)

pub returns-in_err-size : goal.returns-in_err-size
returns-in_err-size c =
    c.from_residual-in_err-size.ensures ∙ sym (read_past c.loop-digit.size c.args.digits.now c.loop-digit.digit-index (omega arith) c.loop-digit.invariant (omega arith))

pub loop-digit-preserved : goal.loop-digit-preserved
loop-digit-preserved c =
    let more = read_more c.loop-digit.size c.args.digits.now c.loop-digit.digit-index (omega arith) in
    let same : c.in_ok-size.size ≡ c.loop-digit.size * 10 + (get_or c.args.digits.now c.loop-digit.digit-index 0 - 48) = omega arith in
    ap (λ n. read_on n (drop (c.loop-digit.digit-index + 1) c.args.digits.now)) same ∙ sym more ∙ c.loop-digit.invariant

pub returns : goal.returns
returns c =
    c.then_some.ensures ∙ sized_kept c.loop-digit.size
    ∙ ap sized (sym (read_none c.loop-digit.size c.args.digits.now c.loop-digit.digit-index (omega arith)) ∙ c.loop-digit.invariant)
