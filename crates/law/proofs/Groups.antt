-- Sums and differences across an order.
use Rattle.std.proofs.Common.{◌≡◌, true, sym, ap, ◌∙◌, subst}
use Rattle.kinds.specs.Ordered.{Ordered}

module _ {G : Type 0} (O : Ordered G) where
  pub zero_left : (x : G) → O.plus O.zero x ≡ x
  zero_left x = O.plus_comm O.zero x ∙ O.plus_zero x

  pub add_sub : (x y : G) → O.plus (O.plus x y) (O.minus y) ≡ x
  add_sub x y = O.plus_assoc x y (O.minus y) ∙ ap (O.plus x) (O.plus_minus y) ∙ O.plus_zero x

  pub sub_add : (x y : G) → O.plus (O.plus x (O.minus y)) y ≡ x
  sub_add x y = O.plus_assoc x (O.minus y) y ∙ ap (O.plus x) (O.plus_comm (O.minus y) y ∙ O.plus_minus y) ∙ O.plus_zero x

  pub sub_zero : (x : G) → O.plus x (O.minus O.zero) ≡ x
  sub_zero x = ap (λ z. O.plus z (O.minus O.zero)) (sym (O.plus_zero x)) ∙ add_sub x O.zero

  -- a ≤ b + x gives a − x ≤ b, and back
  pub move_out : (a b x : G) → O.leq a (O.plus b x) ≡ true → O.leq (O.plus a (O.minus x)) b ≡ true
  move_out a b x h = subst (λ z. O.leq (O.plus a (O.minus x)) z ≡ true) (add_sub b x) (O.leq_shift a (O.plus b x) (O.minus x) h)

  pub move_in : (a b x : G) → O.leq (O.plus a (O.minus x)) b ≡ true → O.leq a (O.plus b x) ≡ true
  move_in a b x h = subst (λ z. O.leq z (O.plus b x) ≡ true) (sub_add a x) (O.leq_shift (O.plus a (O.minus x)) b x h)

  pub shift_left : (x y z : G) → O.leq x y ≡ true → O.leq (O.plus z x) (O.plus z y) ≡ true
  shift_left x y z h = subst (λ l. O.leq l (O.plus z y) ≡ true) (O.plus_comm x z) (subst (λ r. O.leq (O.plus x z) r ≡ true) (O.plus_comm y z) (O.leq_shift x y z h))
