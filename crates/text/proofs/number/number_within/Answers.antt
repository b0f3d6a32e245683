use Rattle.std.proofs.Common.{ap, ◌∙◌}
use Rattle.text.specs.Numbers.{whole, within}
use Rattle.text.proofs.Wholes.{within-passed, within-range, written_one_way}
use Rattle.text.proofs.number.number_within.Goals as goal

pub returns : goal.returns
returns c =
    let kept = within-passed c.args.low c.args.high c.any_sign.result c.bounded.result c.ranges.low c.ranges.high c.bounded.ensures in
    let read = ap (within c.args.low c.args.high) c.any_sign.ensures in
    let found = within-range c.args.low c.args.high (whole c.args.field.now) c.ranges.low.sfits c.ranges.high.sfits in
    let all = kept ∙ read ∙ found in
    record { value = all; exactly = written_one_way }
