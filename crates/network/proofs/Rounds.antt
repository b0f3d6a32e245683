-- Rounds of the closure: what each keeps, and what the last one gives.
use Rattle.std.proofs.Common.{◌≡◌, ℕ, ◌+◌, ◌<◌, false, sym, refl, ap, ◌∙◌, subst, ⊎_elim, arith}
use Rattle.std.proofs.lemmas.Bool.{both_ways, cases_lt}
use Rattle.kinds.specs.Ordered.{Ordered}
use Rattle.kinds.specs.Bounds.{join, at_most}
use Rattle.kinds.specs.declared.bound.Bound.{Bound}
use Rattle.kinds.specs.declared.bound.Bound.TheVariants.{At, NoBound}
use Rattle.network.specs.Chains.{Chain, Closed, Contradictory}
use Rattle.network.specs.Chains.Chain.{empty, step}
use Rattle.network.specs.Steps.{Under, Net, Round, Going}
use Rattle.network.proofs.Order.{join_comm, under_refl, under_trans, join_mono, join_assoc, zero_plus, zero_join, join_zero}

module _ {G : Type 0} (O : Ordered G) (Given : ℕ → ℕ → G → Type 0) where
  pub chain_append : {i k j : ℕ} {x y : G} → Chain O Given i k x → Chain O Given k j y → Chain O Given i j (O.plus x y)
  chain_append {i} {k} {j} {x} {y} empty d = subst (Chain O Given k j) (sym (zero_plus O y)) d
  chain_append {y = y} (step {c = c} {s = s} g e) d = subst (Chain O Given _ _) (sym (O.plus_assoc c s y)) (step g (chain_append e d))

  sound_join : (i k j : ℕ) (a b : Bound G) → ((x : G) → a ≡ At x → Chain O Given i k x) → ((y : G) → b ≡ At y → Chain O Given k j y) → (z : G) → join O a b ≡ At z → Chain O Given i j z
  sound_join i k j (At x) (At y) f g z e = subst (Chain O Given i j) (let p : O.plus x y ≡ z = cc in p) (chain_append (f x refl) (g y refl))
  sound_join i k j (At x) NoBound f g z e = let w : ◌≡◌ {A = ℕ} 0 1 = cc in absurd (omega arith)
  sound_join i k j NoBound b f g z e = let w : ◌≡◌ {A = ℕ} 0 1 = cc in absurd (omega arith)

  module _ (n k : ℕ) (k<n : k < n) (D E : Net G) (going : Going O Given n k D) (free : Under O (At O.zero) (D k k)) (round : Round O n k D E) where
    -- from k around by i and back sums to zero at least
    around : (i : ℕ) → i < k + 1 → Under O (At O.zero) (join O (D k i) (D i k))
    around i h = ⊎_elim
        (λ l. under_trans O free (going.through i l k k k<n k<n))
        (λ l. let e : i ≡ k = omega arith in
        subst (λ m. Under O (At O.zero) (join O (D k m) (D m k))) (sym e)
        (subst (λ a. Under O a (join O (D k k) (D k k))) (zero_join O (At O.zero)) (join_mono O free free)))
        (cases_lt i k)

    -- the bounds to and from k stay as they are
    to_k : (i : ℕ) → i < n → Under O (D i k) (E i k)
    to_k i h = ⊎_elim
        (λ e. subst (Under O (D i k)) (sym e) (under_refl O (D i k)))
        (λ e. subst (Under O (D i k)) (sym e) (subst (λ a. Under O a (join O (D i k) (D k k))) (join_zero O (D i k)) (join_mono O (under_refl O (D i k)) free)))
        (round i k h k<n).one_of

    from_k : (j : ℕ) → j < n → Under O (D k j) (E k j)
    from_k j h = ⊎_elim
        (λ e. subst (Under O (D k j)) (sym e) (under_refl O (D k j)))
        (λ e. subst (Under O (D k j)) (sym e) (subst (λ a. Under O a (join O (D k k) (D k j))) (zero_join O (D k j)) (join_mono O free (under_refl O (D k j)))))
        (round k j k<n h).one_of

    by_k : (i j : ℕ) → i < n → j < n → (b : Bound G) → Under O (join O (D i k) (D k j)) b → Under O (E i j) b
    by_k i j p q b h = under_trans O (round i j p q).second h

    through_old : (m : ℕ) → m < k → (i j : ℕ) → i < n → j < n → Under O (E i j) (join O (E i m) (E m j))
    through_old m h i j p q = ⊎_elim
        (λ e. ⊎_elim
        (λ f. put e f (under_trans O (round i j p q).first (going.through m h i j p q)))
        (λ f. put e f (by_k i j p q _ (subst (Under O (join O (D i k) (D k j))) (join_assoc O (D i m) (D m k) (D k j)) (join_mono O (going.through m h i k p k<n) (under_refl O (D k j))))))
        (round m j m<n q).one_of)
        (λ e. ⊎_elim
        (λ f. put e f (by_k i j p q _ (subst (Under O (join O (D i k) (D k j))) (sym (join_assoc O (D i k) (D k m) (D m j))) (join_mono O (under_refl O (D i k)) (going.through m h k j k<n q)))))
        (λ f. put e f (by_k i j p q _ detour))
        (round m j m<n q).one_of)
        (round i m p m<n).one_of
      where
        m<n : m < n
        m<n = omega arith

        put : {a b : Bound G} → E i m ≡ a → E m j ≡ b → Under O (E i j) (join O a b) → Under O (E i j) (join O (E i m) (E m j))
        put {a} {b} e f u = subst (λ c. Under O (E i j) (join O c (E m j))) (sym e) (subst (λ c. Under O (E i j) (join O a c)) (sym f) u)

        detour : Under O (join O (D i k) (D k j)) (join O (join O (D i k) (D k m)) (join O (D m k) (D k j)))
        detour =
            subst (Under O (join O (D i k) (D k j)))
            (ap (join O (D i k)) (join_assoc O (D k m) (D m k) (D k j)) ∙ sym (join_assoc O (D i k) (D k m) (join O (D m k) (D k j))))
            (join_mono O (under_refl O (D i k))
            (subst (λ a. Under O a (join O (join O (D k m) (D m k)) (D k j))) (zero_join O (D k j))
            (join_mono O (around m (omega arith)) (under_refl O (D k j)))))

    pub round_keeps : Going O Given n (k + 1) E
    round_keeps = record {
      sound = λ i j p q x e. ⊎_elim
          (λ f. going.sound i j p q x (sym f ∙ e))
          (λ f. sound_join i k j (D i k) (D k j) (going.sound i k p k<n) (going.sound k j k<n q) x (sym f ∙ e))
          (round i j p q).one_of;
      given = λ i j p q c h. under_trans O (round i j p q).first (going.given i j p q c h);
      still = λ i p. under_trans O (round i i p p).first (going.still i p);
      settled = λ i h. ⊎_elim
          (λ f. subst (Under O (At O.zero)) (sym f) (⊎_elim
          (λ l. going.settled i l)
          (λ l. let e : i ≡ k = omega arith in subst (λ m. Under O (At O.zero) (D m m)) (sym e) free)
          (cases_lt i k)))
          (λ f. subst (Under O (At O.zero)) (sym (f ∙ join_comm O (D i k) (D k i))) (around i h))
          (round i i (omega arith) (omega arith)).one_of;
      through = λ m h i j p q. ⊎_elim
          (λ l. through_old m l i j p q)
          (λ l. let e : m ≡ k = omega arith in
          subst (λ v. Under O (E i j) (join O (E i v) (E v j))) (sym e)
          (by_k i j p q _ (join_mono O (to_k i p) (from_k j q))))
          (cases_lt m k);
    }

  -- a variable whose own bound is below zero lies on such a cycle
  pub below_zero : (n k : ℕ) (D : Net G) → Going O Given n k D → (i : ℕ) → i < n → at_most O (At O.zero) (D i i) ≡ false → Contradictory O Given
  below_zero n k D going i h low = find (D i i) refl
    where
      find : (b : Bound G) → D i i ≡ b → Contradictory O Given
      find (At x) e = (i, x, going.sound i i h h x e, subst (λ b. at_most O (At O.zero) b ≡ false) e low)
      find NoBound e = absurd (both_ways _ low (ap (at_most O (At O.zero)) e))

  module _ (n : ℕ) (D : Net G) (within : (i j : ℕ) (c : G) → Given i j c → (i < n) × (j < n)) (going : Going O Given n n D) where
    least : {i j : ℕ} {s : G} → Chain O Given i j s → i < n → Under O (D i j) (At s)
    least {i} empty p = going.still i p
    least {i} {j} (step {k = m} {c = c} {s = s} g d) p =
        let m<n = (within i m c g).1 in
        under_trans O (going.through m m<n i j p (target d m<n)) (join_mono O (going.given i m p m<n c g) (least d m<n))
      where
        target : {i j : ℕ} {s : G} → Chain O Given i j s → i < n → j < n
        target empty p = p
        target (step {i} {k = m} {c = c} g d) p = target d (within i m c g).1

    pub closed : (i j : ℕ) → i < n → j < n → Closed O Given i j (D i j)
    closed i j p q = find (D i j) refl
      where
        find : (b : Bound G) → D i j ≡ b → Closed O Given i j b
        find (At x) e = (going.sound i j p q x e, λ s d. (subst (λ b. Under O b (At s)) e (least d p)).is)
        find NoBound e = λ s d. both_ways _ refl (subst (λ b. Under O b (At s)) e (least d p)).is

    pub consistent : Contradictory O Given → ⊥
    consistent c = go c.2 refl c.3
      where
        go : {i j : ℕ} {s : G} → Chain O Given i j s → i ≡ j → O.leq O.zero s ≡ false → ⊥
        go empty e low = both_ways _ low (O.leq_refl O.zero)
        go {i} {j} (step {k = m} {c = c} {s = s} g d) e low =
            let p = (within i m c g).0 in
            both_ways _ low (under_trans O (going.settled i p) (subst (λ v. Under O (D i v) (At (O.plus c s))) (sym e) (least (step g d) p))).is
