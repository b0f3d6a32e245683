-- Stamps of filled variables extend to all exactly if they pass the tests on closed bounds: the earliest stamps that remain possible do it.
use Rattle.std.proofs.Common.{◌≡◌, ℕ, zero, suc, ◌<◌, ◌≤◌, Bool, true, false, cond, ◌⊎◌, List, sym, refl, ap, ◌∙◌, subst, inl, inr, ⊎_elim, arith}
use Rattle.std.proofs.lemmas.Bool.{cases_Bool, cases_lt, both_ways}
use Rattle.kinds.specs.Ordered.{Ordered}
use Rattle.kinds.specs.declared.bound.Bound.{Bound}
use Rattle.kinds.specs.declared.bound.Bound.TheVariants.{At, NoBound}
use Rattle.network.specs.Chains.{Chain, Closed, Contradictory}
use Rattle.network.specs.Chains.Chain.{empty, step}
use Rattle.definitions.specs.Chronicles.{Limit, Given}
use Rattle.law.specs.Schedules.{Meets, Completable, Passes}
use Rattle.law.proofs.Groups.{move_out, move_in, shift_left, sub_zero}

module _ {G : Type 0} (O : Ordered G) (limits : List (Limit G)) where
  -- bounds that are met are met along every chain
  pub chain_met : (all : ℕ → G) → Meets O limits all → {i j : ℕ} {s : G} → Chain O (Given limits) i j s → O.leq (all j) (O.plus (all i) s) ≡ true
  chain_met all meets {i} empty = subst (λ z. O.leq (all i) z ≡ true) (sym (O.plus_zero (all i))) (O.leq_refl (all i))
  chain_met all meets {i} {j} (step {k = k} {c = c} {s = s} g rest) =
      O.leq_trans (all j) (O.plus (all k) s) (O.plus (all i) (O.plus c s)) (chain_met all meets rest)
      (subst (λ z. O.leq (O.plus (all k) s) z ≡ true) (O.plus_assoc (all i) c s) (O.leq_shift (all k) (O.plus (all i) c) s (meets i k c g)))

  module _ (n : ℕ) (within : (i j : ℕ) (c : G) → Given limits i j c → (i < n) × (j < n)) (D : ℕ → ℕ → Bound G)
      (closed : (i j : ℕ) → i < n → j < n → Closed O (Given limits) i j (D i j)) (consistent : Contradictory O (Given limits) → ⊥)
      (filled : ℕ → Bool) (stamp : ℕ → G) (now : G) where
    -- a closed bound is a chain's sum, and at most every chain's
    sum_of : (i j : ℕ) → i < n → j < n → (x : G) → D i j ≡ At x → Chain O (Given limits) i j x
    sum_of i j p q x e = (subst (Closed O (Given limits) i j) e (closed i j p q)).0

    at_most_chain : (i j : ℕ) → i < n → j < n → (s : G) → Chain O (Given limits) i j s → (x : G) × (D i j ≡ At x) × (O.leq x s ≡ true)
    at_most_chain i j p q s chain = go (D i j) refl (closed i j p q)
      where
        go : (b : Bound G) → D i j ≡ b → Closed O (Given limits) i j b → (x : G) × (D i j ≡ At x) × (O.leq x s ≡ true)
        go (At x) e h = (x, e, h.1 s chain)
        go NoBound e h = absurd (h s chain)

    pub completes_passes : Completable O n limits filled stamp now → Passes O n D filled stamp now
    completes_passes done =
        let all = done.0 in
        let c = done.1 in
        record {
          pairs = λ i j p q fi fj x e.
              subst (λ z. O.leq z (O.plus (stamp i) x) ≡ true) (c.same j q fj)
              (subst (λ z. O.leq (all j) (O.plus z x) ≡ true) (c.same i p fi) (chain_met all c.meets (sum_of i j p q x e)));
          latest = λ i j p q fi oj x e.
              O.leq_trans now (all j) (O.plus (stamp i) x) (c.after j q oj)
              (subst (λ z. O.leq (all j) (O.plus z x) ≡ true) (c.same i p fi) (chain_met all c.meets (sum_of i j p q x e)));
        }

    -- no variable comes before its stamp, where it is filled, or now
    abbrev floor : ℕ → G
    floor i = cond (filled i) (stamp i) now

    -- an earliest stamp of variable j after the floors of the first m variables: it is one of those that they ask for, and after each
    record Earliest (j m : ℕ) (e : G) : Type 0 where
      asked : (i : ℕ) × (i < n) × (x : G) × (D j i ≡ At x) × (e ≡ O.plus (floor i) (O.minus x))
      own : O.leq (floor j) e ≡ true
      each : (i : ℕ) → i < m → (x : G) → D j i ≡ At x → O.leq (O.plus (floor i) (O.minus x)) e ≡ true

    -- from a variable to itself the closed bound is zero
    self : (j : ℕ) → j < n → D j j ≡ At O.zero
    self j p =
        let h = at_most_chain j j p p O.zero empty in
        h.1 ∙ ap At (O.leq_antisym h.0 O.zero h.2 (⊎_elim (λ t. t) (λ f. absurd (consistent (j, h.0, sum_of j j p p h.0 h.1, f))) (cases_Bool (O.leq O.zero h.0))))

    earliest : (j : ℕ) → j < n → (m : ℕ) → m ≤ n → (e : G) × Earliest j m e
    earliest j p zero q = (
      floor j,
      record {
        asked = (j, p, O.zero, self j p, sym (sub_zero O (floor j)));
        own = O.leq_refl (floor j);
        each = λ i h. absurd (omega arith);
      },
    )
    earliest j p (suc m) q = go (D j m) refl (earliest j p m (omega arith))
      where
        one_more : (e : G) → ((i : ℕ) → i < m → (x : G) → D j i ≡ At x → O.leq (O.plus (floor i) (O.minus x)) e ≡ true) → ((x : G) → D j m ≡ At x → O.leq (O.plus (floor m) (O.minus x)) e ≡ true) →
            (i : ℕ) → i < suc m → (x : G) → D j i ≡ At x → O.leq (O.plus (floor i) (O.minus x)) e ≡ true
        one_more e below here i h x is = ⊎_elim
            (λ l. below i l x is)
            (λ l. let s : i ≡ m = omega arith in subst (λ k. O.leq (O.plus (floor k) (O.minus x)) e ≡ true) (sym s) (here x (subst (λ k. D j k ≡ At x) s is)))
            (cases_lt i m)

        at_same : {x y : G} → At x ≡ At y → x ≡ y
        at_same e = cc

        go : (b : Bound G) → D j m ≡ b → (e : G) × Earliest j m e → (e : G) × Earliest j (suc m) e
        go NoBound none (e, sofar) = (
          e,
          record {
            asked = sofar.asked;
            own = sofar.own;
            each = one_more e sofar.each (λ x is. absurd (cc));
          },
        )
        go (At x) is (e, sofar) = choose (O.leq e (O.plus (floor m) (O.minus x))) refl
          where
            choose : (t : Bool) → O.leq e (O.plus (floor m) (O.minus x)) ≡ t → (e : G) × Earliest j (suc m) e
            choose true h = (
              O.plus (floor m) (O.minus x),
              record {
                asked = (m, omega arith, x, is, refl);
                own = O.leq_trans (floor j) e (O.plus (floor m) (O.minus x)) sofar.own h;
                each = one_more (O.plus (floor m) (O.minus x)) (λ i l y k. O.leq_trans (O.plus (floor i) (O.minus y)) e (O.plus (floor m) (O.minus x)) (sofar.each i l y k) h)
                    (λ y k. subst (λ z. O.leq (O.plus (floor m) (O.minus z)) (O.plus (floor m) (O.minus x)) ≡ true) (at_same (sym is ∙ k)) (O.leq_refl (O.plus (floor m) (O.minus x))));
              },
            )
            choose false h = (
              e,
              record {
                asked = sofar.asked;
                own = sofar.own;
                each = one_more e sofar.each (λ y k. subst (λ z. O.leq (O.plus (floor m) (O.minus z)) e ≡ true) (at_same (sym is ∙ k)) (⊎_elim (λ b. absurd (both_ways _ h b)) (λ b. b) (O.leq_total e (O.plus (floor m) (O.minus x)))));
              },
            )

    -- the earliest stamps; past the variables it does not matter
    soonest : ℕ → G
    soonest j = ⊎_elim (λ p. (earliest j p n (omega arith)).0) (λ p. now) (cases_lt j n)

    soonest_is : (j : ℕ) → j < n → Earliest j n (soonest j)
    unfolding soonest
    soonest_is j p = go (cases_lt j n)
      where
        go : (c : (j < n) ⊎ (n ≤ j)) → Earliest j n (⊎_elim (λ p. (earliest j p n (omega arith)).0) (λ p. now) c)
        go (inl q) = (earliest j q n (omega arith)).1
        go (inr q) = absurd (omega arith)

    -- they meet every bound
    soonest_meets : Meets O limits soonest
    soonest_meets a b c g =
        let p = (within a b c g).0 in
        let q = (within a b c g).1 in
        let to = (soonest_is b q).asked in
        let i = to.0 in
        let x = to.2 in
        let by = at_most_chain a i p to.1 (O.plus c x) (step g (sum_of b i q to.1 x to.3)) in
        let y = by.0 in
        let at_least_lem = (soonest_is a p).each i to.1 y by.1 in
        subst (λ z. O.leq z (O.plus (soonest a) c) ≡ true) (sym to.4)
        (move_out O (floor i) (O.plus (soonest a) c) x
        (O.leq_trans (floor i) (O.plus (soonest a) y) (O.plus (O.plus (soonest a) c) x)
        (move_in O (floor i) (soonest a) y at_least_lem)
        (subst (λ z. O.leq (O.plus (soonest a) y) z ≡ true) (sym (O.plus_assoc (soonest a) c x)) (shift_left O y (O.plus c x) (soonest a) by.2))))

    pub passes_completes : Passes O n D filled stamp now → Completable O n limits filled stamp now
    passes_completes passes = (
      soonest,
      record {
        same = λ i p f. O.leq_antisym (soonest i) (stamp i) (no_later i p f) (subst (λ z. O.leq z (soonest i) ≡ true) (ap (λ t. cond t (stamp i) now) f) (soonest_is i p).own);
        after = λ i p o. subst (λ z. O.leq z (soonest i) ≡ true) (ap (λ t. cond t (stamp i) now) o) (soonest_is i p).own;
        meets = soonest_meets;
      },
    )
      where
        no_later : (i : ℕ) → i < n → filled i ≡ true → O.leq (soonest i) (stamp i) ≡ true
        no_later i p f =
            let by = (soonest_is i p).asked in
            let k = by.0 in
            let x = by.2 in
            subst (λ z. O.leq z (stamp i) ≡ true) (sym by.4) (move_out O (floor k) (stamp i) x (⊎_elim
            (λ full. subst (λ z. O.leq z (O.plus (stamp i) x) ≡ true) (sym (ap (λ t. cond t (stamp k) now) full)) (passes.pairs i k p by.1 f full x by.3))
            (λ free. subst (λ z. O.leq z (O.plus (stamp i) x) ≡ true) (sym (ap (λ t. cond t (stamp k) now) free)) (passes.latest i k p by.1 f free x by.3))
            (cases_Bool (filled k))))
