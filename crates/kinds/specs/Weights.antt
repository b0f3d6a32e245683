-- How heavy an element is: sums stay exact while the weights are small.
use Rattle.std.specs.Prelude.{◌≡◌, ℕ, ◌+◌, ◌≤◌, Bool, true}
use Rattle.kinds.specs.Ordered.{Ordered}

-- weight is that of an element; bound and stamp test for the admitted ones
pub record Weighed {G : Type 0} (group : Ordered G) (weight : G → ℕ) (bound stamp : G → Bool) : Type 0 where
  pub zero_weighs : weight group.zero ≡ 0
  pub sum_weighs : (x y : G) → weight (group.plus x y) ≤ weight x + weight y
  pub bound_weighs : (x : G) → bound x ≡ true → weight x ≤ 1
  pub stamp_weighs : (x : G) → stamp x ≡ true → weight x ≤ 256
