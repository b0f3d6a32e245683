-- The smallest element that something holds of, found one place after the other.
use Rattle.std.proofs.Common.{◌≡◌, ℕ, zero, suc, ◌+◌, ◌<◌, ◌≤◌, Bool, true, false, cond, ◌⊎◌, ◌∷◌, sym, refl, ap, ◌∙◌, subst, inl, inr, ⊎_elim, arith, filter}
use Rattle.std.specs.List.{FoldsTo, range_with_len}
use Rattle.std.proofs.lemmas.Bool.{false≢true, cases_lt}
use Rattle.kinds.specs.Ordered.{Ordered}
use Rattle.kinds.specs.Bounds.{meant, Smallest}
use Rattle.kinds.specs.declared.bound.Bound.{Bound, Bound as BoundOf}
use Rattle.kinds.specs.declared.bound.Bound.TheVariants.{At, NoBound}
use Rattle.network.specs.Steps.{Under, Lesser}
use Rattle.network.proofs.Order.{under, under_trans, under_refl}

module _ {G : Type 0} (O : Ordered G) where
  smallest_from : (P : G → Type 0) (b : Bound G) → ((x : G) → b ≡ At x → P x) → ((x : G) → P x → Under O b (At x)) → Smallest O P b
  smallest_from P (At x) is least = (is x refl, λ y p. (least y p).is)
  smallest_from P NoBound is least = λ y p. false≢true (least y p).is

  smallest_is : (P : G → Type 0) (b : Bound G) → Smallest O P b → (x : G) → b ≡ At x → P x
  smallest_is P b small x e = (subst (Smallest O P) e small).0

  pub smallest_under : (P : G → Type 0) (b : Bound G) → Smallest O P b → (x : G) → P x → Under O b (At x)
  smallest_under P (At y) small x p = under O (small.1 x p)
  smallest_under P NoBound small x p = absurd (small x p)

  pub smallest_itself : (b : Bound G) → Smallest O (λ x. b ≡ At x) b
  smallest_itself b = smallest_from (λ x. b ≡ At x) b (λ x e. e) (λ x e. subst (Under O b) e (under_refl O b))

  -- what R holds of, P holds of or of something smaller
  pub smallest_through : (P R : G → Type 0) (b : Bound G) → ((x : G) → P x → R x) → ((x : G) → R x → (y : G) × P y × (O.leq y x ≡ true)) → Smallest O P b → Smallest O R b
  smallest_through P R b on back small =
      smallest_from R b (λ x e. on x (smallest_is P b small x e)) (λ x r. let (y, p, le) = back x r in under_trans O (smallest_under P b small y p) (under O le))

  -- the lesser of two is the smallest of both
  smallest_of_both : (P Q R : G → Type 0) (a b c : Bound G) → Lesser O a b c → Smallest O P a → Smallest O Q b → ((x : G) → P x → R x) → ((x : G) → Q x → R x) → ((x : G) → R x → P x ⊎ Q x) → Smallest O R c
  smallest_of_both P Q R a b c low small-a small_b on-p on-q back = smallest_from R c
      (λ x e. ⊎_elim (λ s. on-p x (smallest_is P a small-a x (sym s ∙ e))) (λ s. on-q x (smallest_is Q b small_b x (sym s ∙ e))) low.one_of)
      (λ x r. ⊎_elim (λ p. under_trans O low.first (smallest_under P a small-a x p)) (λ q. under_trans O low.second (smallest_under Q b small_b x q)) (back x r))

  -- what is the smallest of P is the smallest of what holds of the same elements
  pub same_smallest : (P R : G → Type 0) (b : Bound G) → ((x : G) → P x → R x) → ((x : G) → R x → P x) → Smallest O P b → Smallest O R b
  same_smallest P R b on back = smallest_through P R b on (λ x r. (x, back x r, O.leq_refl x))

  module _ (p : ℕ → Bool) (Q : ℕ → G → Type 0) where
    -- Q holds at one of the first n places, one that passes the test
    abbrev pub Among : ℕ → G → Type 0
    Among n x = (i : ℕ) × (i < n) × (p i ≡ true) × Q i x

    -- a fold over the places that pass takes the lesser of the smallest so far and the smallest at the next place
    module _ {K F : Type 0} (value : K → G) (f : F) (turn : F × BoundOf K → ℕ → F × BoundOf K → Type 0) (n : ℕ)
        (turns : (b : BoundOf K) (i : ℕ) (end : F × BoundOf K) → i < n → p i ≡ true → turn (f, b) i end → (end.0 ≡ f) × ((here : Bound G) × Smallest O (Q i) here × Lesser O (meant value b) here (meant value end.1))) where
      -- so does a fold from place a on, where P holds of what was met before
      abbrev From : ℕ → G → Type 0
      From a x = (i : ℕ) × (a ≤ i) × (i < n) × (p i ≡ true) × Q i x

      abbrev Folded : ℕ → ℕ → Type 1
      Folded m a = (P : G → Type 0) (b : BoundOf K) (end : F × BoundOf K) → Smallest O P (meant value b) → FoldsTo turn (f, b) (filter p (range_with_len a m)) end → Smallest O (λ x. P x ⊎ From a x) (meant value end.1)

      one_turn : (m a : ℕ) → a < n → Folded m (a + 1) → Folded (suc m) a
      one_turn m a inside rest P b end small = go (p a) refl
        where
          go : (t : Bool) → p a ≡ t → FoldsTo turn (f, b) (cond t (a ∷ filter p (range_with_len (a + 1) m)) (filter p (range_with_len (a + 1) m))) end → Smallest O (λ x. P x ⊎ From a x) (meant value end.1)
          go false skipped folds = same_smallest (λ x. P x ⊎ From (a + 1) x) (λ x. P x ⊎ From a x) _
              (λ x. ⊎_elim inl (λ (i, low, high, t, h). inr (i, omega arith, high, t, h)))
              (λ x. ⊎_elim inl (λ (i, low, high, t, h). ⊎_elim (λ less. inr (i, omega arith, high, t, h)) (λ l. let s : i ≡ a = omega arith in absurd (false≢true (sym skipped ∙ ap p (sym s) ∙ t))) (cases_lt a i)))
              (rest P b end small folds)
          go true passes ((f', d), step, folds) =
              let (kept, (here, least, low)) = turns b a (f', d) inside passes step in
              same_smallest (λ x. (P x ⊎ Q a x) ⊎ From (a + 1) x) (λ x. P x ⊎ From a x) _
              (λ x. ⊎_elim (⊎_elim inl (λ h. inr (a, omega arith, inside, passes, h))) (λ (i, low, high, t, h). inr (i, omega arith, high, t, h)))
              (λ x. ⊎_elim (λ h. inl (inl h)) (λ (i, low, high, t, h). ⊎_elim (λ less. inr (i, omega arith, high, t, h)) (λ l. let s : i ≡ a = omega arith in inl (inr (subst (λ i. Q i x) s h))) (cases_lt a i)))
              (rest (λ x. P x ⊎ Q a x) d end
              (smallest_of_both P (Q a) (λ x. P x ⊎ Q a x) _ _ _ low small least (λ x. inl) (λ x. inr) (λ x h. h))
              (subst (λ f. FoldsTo turn (f, d) (filter p (range_with_len (a + 1) m)) end) kept folds))

      folded : (m a : ℕ) → a + m ≡ n → Folded m a
      folded zero a e P b end = λ small is. same_smallest P (λ x. P x ⊎ From a x) _ (λ x. inl) (λ x. ⊎_elim (λ h. h) (λ (i, low, high, t, h). absurd (omega arith))) (subst (λ d. Smallest O P (meant value d.1)) is small)
      folded (suc m) a e P b end = one_turn m a (omega arith) (folded m (a + 1) (omega arith)) P b end

      pub fold_smallest : (end : F × BoundOf K) → FoldsTo turn (f, NoBound) (filter p (range_with_len 0 n)) end → Smallest O (Among n) (meant value end.1)
      fold_smallest end folds = same_smallest (λ x. ⊥ ⊎ From 0 x) (Among n) _
          (λ x. ⊎_elim absurd (λ (i, low, high, t, h). (i, high, t, h))) (λ x (i, high, t, h). inr (i, omega arith, high, t, h))
          (folded n 0 (omega arith) (λ x. ⊥) NoBound end (λ x h. h) folds)
