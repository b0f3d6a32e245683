-- The meaning of a kind of stamp: a commutative group with a total order that adding one element to both sides keeps.
use Rattle.std.specs.Prelude.{◌≡◌, Bool, true, ◌⊎◌}

pub record Ordered (G : Type 0) : Type 0 where
  pub zero : G
  pub plus : G → G → G
  pub minus : G → G
  -- x is at most y
  pub leq : G → G → Bool
  pub plus_comm : (x y : G) → plus x y ≡ plus y x
  pub plus_assoc : (x y z : G) → plus (plus x y) z ≡ plus x (plus y z)
  pub plus_zero : (x : G) → plus x zero ≡ x
  pub plus_minus : (x : G) → plus x (minus x) ≡ zero
  pub leq_refl : (x : G) → leq x x ≡ true
  pub leq_trans : (x y z : G) → leq x y ≡ true → leq y z ≡ true → leq x z ≡ true
  pub leq_antisym : (x y : G) → leq x y ≡ true → leq y x ≡ true → x ≡ y
  pub leq_total : (x y : G) → (leq x y ≡ true) ⊎ (leq y x ≡ true)
  pub leq_shift : (x y z : G) → leq x y ≡ true → leq (plus x z) (plus y z) ≡ true
