-- What the loops over rows keep, turn by turn.
use Rattle.std.proofs.Common.{◌≡◌, ℕ, ◌+◌, ◌^◌, ◌<◌, ◌≤◌, Bool, true, false, ◌⊎◌, List, Result, Ok, Err, MatchResult, sym, refl, ap, ◌∙◌, subst, inl, inr, ⊎_elim, arith, pow_mono, pow-add}
use Rattle.std.proofs.lemmas.Bool.{cases_lt, cases_eq}
use Rattle.kinds.specs.Ordered.{Ordered}
use Rattle.kinds.specs.Bounds.{join, at_most, admits, weighs, meant}
use Rattle.kinds.specs.declared.bound.Bound.{Bound}
use Rattle.kinds.specs.declared.bound.Bound.TheVariants.{At, NoBound}
use Rattle.network.specs.declared.closing.Unclosed.{Unclosed}
use Rattle.network.specs.declared.closing.Unclosed.TheVariants.{OutOfRange, NotAdmitted, Contradiction}
use Rattle.network.specs.Tables.{cell, entry, Tabled, Admitted, InRange, Closes, Elsewhere}
use Rattle.network.specs.Steps.{Under, Lesser, Tightened, Relaxed, Grounded, Rounding, Round, Going, Light, Running, Ran, StaysLight}
use Rattle.kinds.specs.Weights.{Weighed}
use Rattle.network.specs.Chains.{Chain, Contradictory}
use Rattle.network.specs.Chains.Chain.{empty, step}
use Rattle.network.proofs.Rounds.{round_keeps, below_zero, closed, consistent}
use Rattle.network.proofs.Order.{under, under_refl, under_same, join_mono, zero_join}

module _ {K G : Type 0} (O : Ordered G) (value : K → G) where
  module _ (i : ℕ) (i<8 : i < 8) (t u v : List (Bound K)) where
    pub grounded_more : (zero : Bound K) → Grounded O value i t u → Tightened O value i i zero u v → meant value zero ≡ At O.zero → Grounded O value (i + 1) t v
    grounded_more zero sofar low is = record {
      lowered = λ p h. ⊎_elim
          (λ l. subst (Lesser O (entry value t p p) (At O.zero)) (ap (meant value) (sym (low.kept (cell p p) (λ e. omega arith)))) (sofar.lowered p l))
          (λ l. let e : p ≡ i = omega arith in
          subst (λ q. Lesser O (entry value t q q) (At O.zero) (entry value v q q)) (sym e)
          (subst (λ b. Lesser O b (At O.zero) (entry value v i i)) (ap (meant value) (sofar.kept (cell i i) (λ q l e. omega arith)))
          (subst (λ b. Lesser O (entry value u i i) b (entry value v i i)) is low.lesser)))
          (cases_lt p i);
      kept = λ c ne. low.kept c (ne i (omega arith)) ∙ sofar.kept c (λ q h. ne q (omega arith));
    }

  module _ (weight : G → ℕ) (n k i : ℕ) (n≤8 : n ≤ 8) (k<n : k < n) (i<n : i < n) (t u v : List (Bound K)) (sofar : Rounding O value weight n k i t u) where
    -- row k itself stays as it is
    pub rounding_skip : i ≡ k → Rounding O value weight n k (i + 1) t u
    rounding_skip is = record {
      lowered = λ free p j h q light. ⊎_elim
          (λ l. sofar.lowered free p j l q light)
          (λ l. let e : p ≡ k = omega arith in
          subst (λ r. Lesser O (entry value t r j) (join O (entry value t r k) (entry value t k j)) (entry value u r j)) (sym e)
          (subst (Lesser O (entry value t k j) (join O (entry value t k k) (entry value t k j))) (ap (meant value) (sym (sofar.kept (cell k j) (λ r w h' ne l' e'. omega arith))))
          (record {
            one_of = inl refl;
            first = under_refl O (entry value t k j);
            second = subst (λ b. Under O b (join O (entry value t k k) (entry value t k j))) (zero_join O (entry value t k j)) (join_mono O free (under_refl O (entry value t k j)));
          })))
          (cases_lt p i);
      kept = λ c ne. sofar.kept c (λ p j h. ne p j (omega arith));
    }

    pub rounding_more : (i ≡ k → ⊥) → Relaxed O value weight i k n u v → Rounding O value weight n k (i + 1) t v
    rounding_more i≢k row = record {
      lowered = λ free p j h q light. ⊎_elim
          (λ l. subst (Lesser O (entry value t p j) (join O (entry value t p k) (entry value t k j))) (ap (meant value) (sym (row.kept (cell p j) (λ w l' e. omega arith)))) (sofar.lowered free p j l q light))
          (λ l. let e : p ≡ i = omega arith in
          subst (λ r. Lesser O (entry value t r j) (join O (entry value t r k) (entry value t k j)) (entry value v r j)) (sym e) (last j q
          (subst (λ r. weighs weight (entry value t r k) + weighs weight (entry value t k j) ≤ 16777216) e light)))
          (cases_lt p i);
      kept = λ c ne. row.kept c (λ j h. ne i j (omega arith) i≢k h) ∙ sofar.kept c (λ p j h. ne p j (omega arith));
    }
      where
        -- the rows from i on, and row k, are still those of t
        own : (j : ℕ) → j < n → entry value u i j ≡ entry value t i j
        own j q = ap (meant value) (sofar.kept (cell i j) (λ p w h ne l e. omega arith))

        through : (j : ℕ) → j < n → entry value u k j ≡ entry value t k j
        through j q = ap (meant value) (sofar.kept (cell k j) (λ p w h ne l e. omega arith))

        last : (j : ℕ) → j < n → weighs weight (entry value t i k) + weighs weight (entry value t k j) ≤ 16777216 → Lesser O (entry value t i j) (join O (entry value t i k) (entry value t k j)) (entry value v i j)
        last j q light =
            subst (λ b. Lesser O b (join O (entry value t i k) (entry value t k j)) (entry value v i j)) (own j q)
            (subst (λ b. Lesser O (entry value u i j) (join O b (entry value t k j)) (entry value v i j)) (own k k<n)
            (subst (λ b. Lesser O (entry value u i j) (join O (entry value u i k) b) (entry value v i j)) (through j q)
            (row.lowered j q
            (subst (λ b. weighs weight b + weighs weight (entry value u k j) ≤ 16777216) (sym (own k k<n))
            (subst (λ b. weighs weight (entry value t i k) + weighs weight b ≤ 16777216) (sym (through j q)) light)))))

module _ {K G : Type 0} (O : Ordered G) (value : K → G) (weight : G → ℕ) {bound stamp : G → _} (weighed : Weighed O weight bound stamp) (n : ℕ) (n≤8 : n ≤ 8) where
  join_light : (a b : Bound G) (w : ℕ) → weighs weight a ≤ w → weighs weight b ≤ w → weighs weight (join O a b) ≤ w + w
  join_light (At x) (At y) w p q = omega (arith, weighed.sum_weighs x y)
  join_light (At x) NoBound w p q = omega arith
  join_light NoBound b w p q = omega arith

  module _ (k : ℕ) (k<n : k < n) (t u v : List (Bound K)) where
    pub running_more : Running O value weight n k t u → at_most O (At O.zero) (entry value u k k) ≡ true → Rounding O value weight n k n u v → Running O value weight n (k + 1) t v
    running_more sofar free round = record {
      going = λ M start light.
          let before = sofar.going M start light in
          let small : 2 ^ k ≤ 2 ^ 8 = pow_mono {i = k} {j = 8} (omega arith) in
          let twice = pow-add 2 k 1 in
          let each : Round O n k (entry value u) (entry value v) = λ i j p q. round.lowered (under O free) i j p q (omega (arith, before.1 i k p k<n, before.1 k j k<n q)) in (
            round_keeps O (Tabled value n M) n k k<n (entry value u) (entry value v) before.0 (under O free) each,
            λ i j p q. ⊎_elim
                (λ e. subst (λ b. weighs weight b ≤ 2 ^ (k + 1)) (sym e) (omega (arith, before.1 i j p q)))
                (λ e. subst (λ b. weighs weight b ≤ 2 ^ (k + 1)) (sym e) (omega (arith, join_light (entry value u i k) (entry value u k j) (2 ^ k) (before.1 i k p k<n) (before.1 k j k<n q))))
                (each i j p q).one_of,
          );
      kept = λ c ne. round.kept c (λ p j h _ q. ne p j h q) ∙ sofar.kept c ne;
    }

    pub ran_below : Running O value weight n k t u → at_most O (At O.zero) (entry value u k k) ≡ false → Ran O value weight n t u (Err Contradiction)
    ran_below sofar low = record {
      outcome = λ M start light. (refl, below_zero O (Tabled value n M) n k (entry value u) (sofar.going M start light).0 k k<n low);
      kept = sofar.kept;
    }

  pub stays_light : (t u : List (Bound K)) → Running O value weight n n t u → StaysLight O value weight n t u (Ok tt)
  stays_light t u sofar M start light =
      let small : 2 ^ n ≤ 2 ^ 8 = pow_mono {i = n} {j = 8} n≤8 in
      λ i j p q. omega (arith, (sofar.going M start light).1 i j p q)

module _ {K G : Type 0} (O : Ordered G) (value : K → G) where
  pub both_kept : (n : ℕ) (t u v : List (Bound K)) → Grounded O value n t u → Elsewhere n u v → Elsewhere n t v
  both_kept n t u v ground kept c ne = kept c ne ∙ ground.kept c (λ i h. ne i i h h)

  module _ (n : ℕ) (n≤8 : n ≤ 8) (t u : List (Bound K)) (ground : Grounded O value n t u) where
    off : (i j : ℕ) → i < n → j < n → (i ≡ j → ⊥) → entry value u i j ≡ entry value t i j
    off i j p q ne = ap (meant value) (ground.kept (cell i j) (λ d h e. ne (omega arith)))

    -- each bound of u is one of t, or zero from a variable to itself
    either : (i j : ℕ) → i < n → j < n → (entry value u i j ≡ entry value t i j) ⊎ ((i ≡ j) × (entry value u i j ≡ At O.zero))
    either i j p q = ⊎_elim
        (λ e. ⊎_elim
        (λ s. inl (subst (λ k. entry value u i k ≡ entry value t i k) e s))
        (λ s. inr (e, subst (λ k. entry value u i k ≡ At O.zero) e s))
        (ground.lowered i p).one_of)
        (λ ne. inl (off i j p q ne))
        (cases_eq i j)

    pub started : Going O (Tabled value n t) n 0 (entry value u)
    started = record {
      sound = λ i j p q x e. ⊎_elim
          (λ s. subst (Chain O (Tabled value n t) i j) (O.plus_zero x) (step (p, q, sym s ∙ e) empty))
          (λ s. subst (Chain O (Tabled value n t) i j) (at_same (sym s.1 ∙ e)) (subst (λ k. Chain O (Tabled value n t) i k O.zero) s.0 empty))
          (either i j p q);
      given = λ i j p q c h. subst (Under O (entry value u i j)) h.2 (below i j p q);
      still = λ i p. (ground.lowered i p).second;
      settled = λ i h. absurd (omega arith);
      through = λ m h. absurd (omega arith);
    }
      where
        at_same : {x y : G} → At x ≡ At y → x ≡ y
        at_same e = cc

        below : (i j : ℕ) → i < n → j < n → Under O (entry value u i j) (entry value t i j)
        below i j p q = ⊎_elim
            (λ e. subst (λ k. Under O (entry value u i k) (entry value t i k)) e (ground.lowered i p).first)
            (λ ne. under_same O (off i j p q ne))
            (cases_eq i j)

  pub light_start : (weight : G → ℕ) {bound stamp : G → Bool} (weighed : Weighed O weight bound stamp) (n : ℕ) (n≤8 : n ≤ 8) (t u : List (Bound K)) → Admitted value bound n t → Grounded O value n t u → Light value weight n 1 u
  light_start weight {bound} weighed n n≤8 t u all ground i j p q = ⊎_elim
      (λ s. subst (λ b. weighs weight b ≤ 1) (sym s) (light (entry value t i j) (all i j p q)))
      (λ s. subst (λ b. weighs weight b ≤ 1) (sym s.1) (omega (arith, weighed.zero_weighs)))
      (either n n≤8 t u ground i j p q)
    where
      light : (b : Bound G) → admits bound b ≡ true → weighs weight b ≤ 1
      light (At x) h = weighed.bound_weighs x h
      light NoBound h = omega arith

  -- what the rounds came to is what closing answers
  pub closes : (bound : G → Bool) (n : ℕ) (t u : List (Bound K)) (end : Result (Unit {0}) Unclosed) → InRange n t → Admitted value bound n t → MatchResult end (λ _. Going O (Tabled value n t) n n (entry value u)) (λ e. (e ≡ Contradiction) × Contradictory O (Tabled value n t)) → Closes value O bound n t u end
  closes bound n t u (Ok done) range all going = (range, all, consistent O (Tabled value n t) n (entry value u) (λ i j x h. (h.0, h.1)) going, closed O (Tabled value n t) n (entry value u) (λ i j x h. (h.0, h.1)) going)
  closes bound n t u (Err Contradiction) range all cycle = (range, all, cycle.1)
  closes bound n t u (Err OutOfRange) range all cycle = let no : ◌≡◌ OutOfRange Contradiction = cycle.0 in absurd cc
  closes bound n t u (Err NotAdmitted) range all cycle = let no : ◌≡◌ NotAdmitted Contradiction = cycle.0 in absurd cc
