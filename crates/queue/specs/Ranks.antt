-- A test that places any two values in an order; two that are placed alike need not be equal.
use Rattle.std.specs.Prelude.{◌≡◌, Bool, true, ◌⊎◌}

pub record Ranks {X : Type 0} (leq : X → X → Bool) : Type 0 where
  pub total : (x y : X) → (leq x y ≡ true) ⊎ (leq y x ≡ true)
  pub chain : (x y z : X) → leq x y ≡ true → leq y z ≡ true → leq x z ≡ true
