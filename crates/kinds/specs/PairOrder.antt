-- Pairs of a tick and a place, in lexicographic order, with the limits and weights of a bound and a stamp.
use Rattle.std.specs.Prelude.{◌≡◌, ℕ, ◌≤◌, max, Bool, true, ◌&&◌, ◌||◌, ◌⊎◌, ℤ, pos, ◌+ℤ◌, neg_ℤ, ◌≤ℤ◌, ◌<ℤ◌, int_le, int_lt, refl}
use Rattle.std.proofs.Common.{sym, inl, inr, ⊎_elim, arith}
use Rattle.std.proofs.lemmas.Int.{ints, by_lt_z}
use Rattle.std.proofs.lemmas.Bool.{and_parts, and_from, or_cases, or_left, or_right}
use Rattle.kinds.specs.Ordered.{Ordered}
use Rattle.kinds.specs.Weights.{Weighed}
use Rattle.kinds.specs.TickOrder.{at_most, tick_weight, tick_bound, tick_stamp, tick_weighed}

pub record Pair : Type 0 where
  pub tick : ℤ
  pub place : ℤ

abbrev pub pair : ℤ → ℤ → Pair
pair t p = record { tick = t; place = p }

-- by tick, then by place
abbrev pub pair_leq : Pair → Pair → Bool
pair_leq x y = int_lt x.tick y.tick || (int_le x.tick y.tick && int_le x.place y.place)

abbrev pub pair_plus : Pair → Pair → Pair
pair_plus x y = pair (x.tick +ℤ y.tick) (x.place +ℤ y.place)

abbrev pub pair_minus : Pair → Pair
pair_minus x = pair (neg_ℤ x.tick) (neg_ℤ x.place)

-- in words: an earlier tick, or the same tick and no later place
abbrev Before : Pair → Pair → Type 0
Before x y = (x.tick <ℤ y.tick) ⊎ ((x.tick ≡ y.tick) × (x.place ≤ℤ y.place))

pub before_leq : (x y : Pair) → Before x y → pair_leq x y ≡ true
before_leq x y (inl l) = let e : true ≡ int_lt x.tick y.tick = omega (arith, ints) in or_left _ _ (sym e)
before_leq x y (inr h) = or_right _ _ (and_from _ _ (at_most x.tick y.tick (omega (arith, ints))) (at_most x.place y.place h.1))

pub leq_before : (x y : Pair) → pair_leq x y ≡ true → Before x y
leq_before x y h = ⊎_elim (λ l. inl (omega (arith, ints))) both (or_cases (int_lt x.tick y.tick) (int_le x.tick y.tick && int_le x.place y.place) h)
  where
    both : (int_le x.tick y.tick && int_le x.place y.place) ≡ true → Before x y
    both e =
        let two = and_parts (int_le x.tick y.tick) (int_le x.place y.place) e in
        by_lt_z x.tick y.tick inl (λ back. inr (omega (arith, ints), omega (arith, ints)))

pub pair_same : (x y : Pair) → x.tick ≡ y.tick → x.place ≡ y.place → x ≡ y
pair_same x y s t i = pair (s i) (t i)

pub pair_trans : (x y z : Pair) → pair_leq x y ≡ true → pair_leq y z ≡ true → pair_leq x z ≡ true
pair_trans x y z h k = before_leq x z (go (leq_before x y h) (leq_before y z k))
  where
    go : Before x y → Before y z → Before x z
    go (inl a) (inl b) = inl (omega (arith, ints))
    go (inl a) (inr b) = inl (omega (arith, ints))
    go (inr a) (inl b) = inl (omega (arith, ints))
    go (inr a) (inr b) = inr (omega (arith, ints), omega (arith, ints))

pub pair_antisym : (x y : Pair) → pair_leq x y ≡ true → pair_leq y x ≡ true → x ≡ y
pair_antisym x y h k = go (leq_before x y h) (leq_before y x k)
  where
    go : Before x y → Before y x → x ≡ y
    go (inl a) (inl b) = absurd (omega (arith, ints))
    go (inl a) (inr b) = absurd (omega (arith, ints))
    go (inr a) (inl b) = absurd (omega (arith, ints))
    go (inr a) (inr b) = pair_same x y a.0 (omega (arith, ints))

pub pair_total : (x y : Pair) → (pair_leq x y ≡ true) ⊎ (pair_leq y x ≡ true)
pair_total x y =
    by_lt_z x.tick y.tick
    (λ l. inl (before_leq x y (inl l)))
    (λ back. by_lt_z y.tick x.tick
    (λ l. inr (before_leq y x (inl l)))
    (λ forth. let same : x.tick ≡ y.tick = omega (arith, ints) in
    by_lt_z x.place y.place
    (λ l. inl (before_leq x y (inr (same, omega (arith, ints)))))
    (λ l. inr (before_leq y x (inr (sym same, l))))))

pub pair_shift : (x y z : Pair) → pair_leq x y ≡ true → pair_leq (pair_plus x z) (pair_plus y z) ≡ true
pair_shift x y z h = before_leq (pair_plus x z) (pair_plus y z) (go (leq_before x y h))
  where
    go : Before x y → Before (pair_plus x z) (pair_plus y z)
    go (inl a) = inl (omega (arith, ints))
    go (inr a) = inr (omega (arith, ints), omega (arith, ints))

abbrev pub pair_group : Ordered Pair
pair_group = record {
  zero = pair (pos 0) (pos 0);
  plus = pair_plus;
  minus = pair_minus;
  leq = pair_leq;
  plus_comm = λ x y. pair_same (pair_plus x y) (pair_plus y x) (omega (arith, ints)) (omega (arith, ints));
  plus_assoc = λ x y z. pair_same (pair_plus (pair_plus x y) z) (pair_plus x (pair_plus y z)) (omega (arith, ints)) (omega (arith, ints));
  plus_zero = λ x. pair_same (pair_plus x (pair (pos 0) (pos 0))) x (omega (arith, ints)) (omega (arith, ints));
  plus_minus = λ x. pair_same (pair_plus x (pair_minus x)) (pair (pos 0) (pos 0)) (omega (arith, ints)) (omega (arith, ints));
  leq_refl = λ x. before_leq x x (inr (refl, omega (arith, ints)));
  leq_trans = pair_trans;
  leq_antisym = pair_antisym;
  leq_total = pair_total;
  leq_shift = pair_shift;
}

-- the larger of the two parts' weights
abbrev pub pair_weight : Pair → ℕ
pair_weight x = max (tick_weight x.tick) (tick_weight x.place)

-- each part within the limits of ticks
abbrev pub pair_bound : Pair → Bool
pair_bound x = tick_bound x.tick && tick_bound x.place

-- a stamp's place runs from 0 to 2^32 - 1
abbrev pub pair_stamp : Pair → Bool
pair_stamp x = tick_stamp x.tick && (int_le (pos 0) x.place && int_le x.place (pos 4294967295))

pub pair_weighed : Weighed pair_group pair_weight pair_bound pair_stamp
pair_weighed = record {
  zero_weighs = refl;
  sum_weighs = λ x y. omega (arith, tick_weighed.sum_weighs x.tick y.tick, tick_weighed.sum_weighs x.place y.place);
  bound_weighs = λ x h. let two = and_parts (tick_bound x.tick) (tick_bound x.place) h in omega (arith, tick_weighed.bound_weighs x.tick two.0, tick_weighed.bound_weighs x.place two.1);
  stamp_weighs = λ x h.
      let two = and_parts (tick_stamp x.tick) (int_le (pos 0) x.place && int_le x.place (pos 4294967295)) h in
      let place = and_parts (int_le (pos 0) x.place) (int_le x.place (pos 4294967295)) two.1 in
      let light : tick_weight x.place ≤ 256 = omega (arith, ints) in
      omega (arith, tick_weighed.stamp_weighs x.tick two.0);
}
