use Rattle.std.proofs.Common.{◌≡◌, drop}
use Rattle.text.specs.Numbers.{read_on}
use Rattle.text.proofs.number.value.Given as goal

abbrev pub invariant-loop-digit : goal.invariant-loop-digit
invariant-loop-digit l = read_on l.size (drop l.digit-index l.digits) ≡ read_on 0 l.digits
