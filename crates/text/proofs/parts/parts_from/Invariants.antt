use Rattle.std.proofs.Common.{◌≡◌, ◌-◌, ◌≤◌, length, drop}
use Rattle.text.specs.Split.{split}
use Rattle.text.proofs.parts.parts_from.Given as goal

abbrev pub invariant-loop : goal.invariant-loop
invariant-loop l =
    (drop (l.k - l.counter) (split l.b l.rest) ≡ drop l.k (split l.b l.bytes))
    × (length l.rest ≤ length l.bytes)
