-- A choice that passes the tests, with one variable more filled: it passes exactly if the new stamp allows each variable.
use Rattle.std.proofs.Common.{◌≡◌, ℕ, ◌<◌, Bool, true, false, cond, sym, refl, ap, ◌∙◌, subst, ⊎_elim}
use Rattle.std.proofs.lemmas.Bool.{both_ways, cases_Bool, cases_eq}
use Rattle.kinds.specs.Bounds.{at_most, join}
use Rattle.kinds.specs.Ordered.{Ordered}
use Rattle.kinds.specs.declared.bound.Bound.{Bound}
use Rattle.kinds.specs.declared.bound.Bound.TheVariants.{At, NoBound}
use Rattle.law.specs.Schedules.{Passes}
use Rattle.rows.specs.Placings.{Allows}

module _ {G : Type 0} (O : Ordered G) where
  limit_met : (y x : G) (b : Bound G) → at_most O (At y) (join O (At x) b) ≡ true → (c : G) → b ≡ At c → O.leq y (O.plus x c) ≡ true
  limit_met y x b h c e = subst (λ b. at_most O (At y) (join O (At x) b) ≡ true) e h

  met_limit : (y x : G) (b : Bound G) → ((c : G) → b ≡ At c → O.leq y (O.plus x c) ≡ true) → at_most O (At y) (join O (At x) b) ≡ true
  met_limit y x (At c) h = h c refl
  met_limit y x NoBound h = refl

  -- x at variable j, which was open, and nothing else changed
  module _ (n : ℕ) (D : ℕ → ℕ → Bound G) (filled filled' : ℕ → Bool) (stamp stamp' : ℕ → G) (j : ℕ) (p : j < n) (x : G)
      (was-open : filled j ≡ false) (is_filled_lem : filled' j ≡ true) (own : stamp' j ≡ x)
      (same-filled : (i : ℕ) → (i ≡ j → ⊥) → filled' i ≡ filled i) (same-stamp : (i : ℕ) → (i ≡ j → ⊥) → stamp' i ≡ stamp i) where
    abbrev floor : ℕ → G
    floor i = cond (filled i) (stamp i) x

    -- a variable that is filled now keeps its stamp, an open one x
    floor_filled : (i : ℕ) → filled' i ≡ true → floor i ≡ stamp' i
    floor_filled i f = ⊎_elim
        (λ e. ap (λ t. cond t (stamp i) x) (ap filled e ∙ was-open) ∙ sym (ap stamp' e ∙ own))
        (λ ne. ap (λ t. cond t (stamp i) x) (sym (same-filled i ne) ∙ f) ∙ sym (same-stamp i ne)) (cases_eq i j)

    other : (i : ℕ) → filled' i ≡ false → i ≡ j → ⊥
    other i o e = both_ways _ o (ap filled' e ∙ is_filled_lem)

    floor_open : (i : ℕ) → filled' i ≡ false → floor i ≡ x
    floor_open i o = ap (λ t. cond t (stamp i) x) (sym (same-filled i (other i o)) ∙ o)

    pub passes_allows : Passes O n D filled' stamp' x → (i : ℕ) → i < n → Allows O D filled stamp x j i
    passes_allows passes i q = met_limit (floor i) x (D j i) (λ c e. ⊎_elim
        (λ f. subst (λ y. O.leq y (O.plus x c) ≡ true) (sym (floor_filled i f)) (subst (λ z. O.leq (stamp' i) (O.plus z c) ≡ true) own (passes.pairs j i p q is_filled_lem f c e)))
        (λ o. subst (λ y. O.leq y (O.plus x c) ≡ true) (sym (floor_open i o)) (subst (λ z. O.leq x (O.plus z c) ≡ true) own (passes.latest j i p q is_filled_lem o c e)))
        (cases_Bool (filled' i)))

    module _ (parent : Passes O n D filled stamp x) (allows : (i : ℕ) → i < n → Allows O D filled stamp x j i) where
      -- by the new stamp, where the bound is from j
      from_new : (a b : ℕ) → b < n → a ≡ j → (c : G) → D a b ≡ At c → O.leq (floor b) (O.plus (stamp' a) c) ≡ true
      from_new a b q e c is =
          subst (λ z. O.leq (floor b) (O.plus z c) ≡ true) (sym (ap stamp' e ∙ own)) (limit_met (floor b) x (D j b) (allows b q) c (subst (λ i. D i b ≡ At c) e is))

      -- by the parent, where it is from another variable
      from_old : (a b : ℕ) → a < n → b < n → (a ≡ j → ⊥) → filled a ≡ true → (c : G) → D a b ≡ At c → filled b ≡ false → O.leq x (O.plus (stamp' a) c) ≡ true
      from_old a b r q ne f c is o = subst (λ z. O.leq x (O.plus z c) ≡ true) (sym (same-stamp a ne)) (parent.latest a b r q f o c is)

      pairs : (a b : ℕ) → a < n → b < n → filled' a ≡ true → filled' b ≡ true → (c : G) → D a b ≡ At c → O.leq (stamp' b) (O.plus (stamp' a) c) ≡ true
      pairs a b r q fa fb c is = ⊎_elim
          (λ e. subst (λ y. O.leq y (O.plus (stamp' a) c) ≡ true) (floor_filled b fb) (from_new a b q e c is))
          (λ ne. let f = sym (same-filled a ne) ∙ fa in ⊎_elim
          (λ e. subst (λ y. O.leq y (O.plus (stamp' a) c) ≡ true) (sym (ap stamp' e ∙ own)) (from_old a b r q ne f c is (ap filled e ∙ was-open)))
          (λ nf. subst (λ y. O.leq y (O.plus (stamp' a) c) ≡ true) (sym (same-stamp b nf)) (subst (λ z. O.leq (stamp b) (O.plus z c) ≡ true) (sym (same-stamp a ne)) (parent.pairs a b r q f (sym (same-filled b nf) ∙ fb) c is)))
          (cases_eq b j)) (cases_eq a j)

      latest : (a b : ℕ) → a < n → b < n → filled' a ≡ true → filled' b ≡ false → (c : G) → D a b ≡ At c → O.leq x (O.plus (stamp' a) c) ≡ true
      latest a b r q fa ob c is = ⊎_elim
          (λ e. subst (λ y. O.leq y (O.plus (stamp' a) c) ≡ true) (floor_open b ob) (from_new a b q e c is))
          (λ ne. from_old a b r q ne (sym (same-filled a ne) ∙ fa) c is (sym (same-filled b (other b ob)) ∙ ob)) (cases_eq a j)

      pub allows_passes : Passes O n D filled' stamp' x
      allows_passes = record { pairs = pairs; latest = latest }
