use Rattle.std.proofs.Common.{◌≡◌, ◌+◌, ◌*◌, ◌≤◌, ◌++◌, take}
use Rattle.std.specs.List.{flat_map}
use Rattle.arrayvec.specs.ArrayVec.{array_vec_len}
use Rattle.report.specs.Texts.{number_field}
use Rattle.report.proofs.head.head_of.Given as goal

abbrev pub invariant-loop-n : goal.invariant-loop-n
invariant-loop-n l =
    (array_vec_len l.head ≤ 12 + 11 * l.n-index) × (l.head.items ≡ l.initial.head.items ++ flat_map number_field (take l.n-index l.choice))
