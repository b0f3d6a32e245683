use Rattle.std.proofs.Common.{ℕ, ◌<◌, Decides}
use Rattle.text.specs.Spelled.{spelled}
use Rattle.slots.specs.Slots.{types_in}
use Rattle.slots.specs.Variables.{HasType}
use Rattle.rows.specs.Filled.{is_in}
use Rattle.forks.proofs.wanted.mask.Given as goal

abbrev pub invariant-loop-j : goal.invariant-loop-j
invariant-loop-j l = (i : ℕ) → Decides (is_in l.all.bits i) ((i < l.j) × HasType (types_in l.slots l.slot) i (spelled l.name))
