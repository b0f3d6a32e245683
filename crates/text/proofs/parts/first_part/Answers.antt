use Rattle.std.proofs.Common.{take, sym, ap, ◌∙◌}
use Rattle.text.proofs.Splits.{split-first}
use Rattle.text.proofs.parts.first_part.Goals as goal

pub returns : goal.returns
returns c = ap (λ n. take n c.args.bytes.now) c.find.ensures.place ∙ sym (split-first c.args.b c.args.bytes.now)
