-- Ticks: the whole numbers, with the limits and weights of a bound and a stamp.
use Rattle.std.specs.Prelude.{◌≡◌, ℕ, ◌+◌, ◌/◌, Bool, true, ◌&&◌, ◌⊎◌, ℤ, pos, negsuc, ◌+ℤ◌, neg_ℤ, ◌≤ℤ◌, int_le, unsigned_abs, refl}
use Rattle.std.proofs.Common.{sym, inl, inr, arith}
use Rattle.std.proofs.lemmas.Int.{ints, by_lt_z}
use Rattle.std.proofs.lemmas.Bool.{and_parts}
use Rattle.kinds.specs.Ordered.{Ordered}
use Rattle.kinds.specs.Weights.{Weighed}

pub at_most : (x y : ℤ) → x ≤ℤ y → int_le x y ≡ true
at_most x y h = let e : true ≡ int_le x y = omega (arith, ints) in sym e

pub tick_total : (x y : ℤ) → (int_le x y ≡ true) ⊎ (int_le y x ≡ true)
tick_total x y = by_lt_z x y (λ l. inl (at_most x y (omega (arith, ints)))) (λ l. inr (at_most y x l))

abbrev pub tick_group : Ordered ℤ
tick_group = record {
  zero = pos 0;
  plus = ◌+ℤ◌;
  minus = neg_ℤ;
  leq = int_le;
  plus_comm = λ x y. omega (arith, ints);
  plus_assoc = λ x y z. omega (arith, ints);
  plus_zero = λ x. omega (arith, ints);
  plus_minus = λ x. omega (arith, ints);
  leq_refl = λ x. at_most x x (omega (arith, ints));
  leq_trans = λ x y z h k. at_most x z (omega (arith, ints));
  leq_antisym = λ x y h k. omega (arith, ints);
  leq_total = tick_total;
  leq_shift = λ x y z h. at_most (x +ℤ z) (y +ℤ z) (omega (arith, ints));
}

-- the size divided by 2^32, rounded up
abbrev pub tick_weight : ℤ → ℕ
tick_weight z = (unsigned_abs z + 4294967295) / 4294967296

-- a bound is admitted from -2^32 to 2^32
abbrev pub tick_bound : ℤ → Bool
tick_bound z = int_le (negsuc 4294967295) z && int_le z (pos 4294967296)

-- a stamp is admitted from 0 to 2^40
abbrev pub tick_stamp : ℤ → Bool
tick_stamp z = int_le (pos 0) z && int_le z (pos 1099511627776)

pub tick_weighed : Weighed tick_group tick_weight tick_bound tick_stamp
tick_weighed = record {
  zero_weighs = refl;
  sum_weighs = λ x y. omega (arith, ints);
  bound_weighs = λ x h. let two = and_parts (int_le (negsuc 4294967295) x) (int_le x (pos 4294967296)) h in omega (arith, ints);
  stamp_weighs = λ x h. let two = and_parts (int_le (pos 0) x) (int_le x (pos 1099511627776)) h in omega (arith, ints);
}
