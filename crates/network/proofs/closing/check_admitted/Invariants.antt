use Rattle.std.proofs.Common.{◌≡◌, ℕ, ◌<◌, true}
use Rattle.kinds.specs.Bounds.{admits}
use Rattle.network.specs.Tables.{entry}
use Rattle.network.proofs.closing.check_admitted.Given as goal

abbrev pub invariant-loop-i : goal.invariant-loop-i
invariant-loop-i g l = let m = g.K.Kind in (i : ℕ) → i < l.i → (j : ℕ) → j < l.width → admits m.bound (entry m.value l.table i j) ≡ true
