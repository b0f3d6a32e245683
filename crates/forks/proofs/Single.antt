-- What one parent and one variable come to: nothing, one row, or one line.
use Rattle.std.proofs.Common.{◌≡◌, ℕ, true, false, List, [], ◌∷◌, Some, sym, refl, ◌∙◌, subst, inl, ⊎_elim}
use Rattle.std.proofs.lemmas.Bool.{both_ways}
use Rattle.kinds.specs.declared.bound.Bound.{Bound}
use Rattle.kinds.specs.declared.kind.Kind.{Ghosts as Meaning}
use Rattle.law.specs.Bags.{Exactly}
use Rattle.law.specs.Histories.{R, Seen, Loading}
use Rattle.law.specs.Holding.{HeldIn, Recognised}
use Rattle.law.proofs.Sets.{exactly_none}
use Rattle.law.proofs.Tests.{open_is, is_open}
use Rattle.rows.specs.Filled.{is_in}
use Rattle.rows.specs.Placings.{loading_plus, choice_plus, Placeable, Placed}
use Rattle.rows.specs.declared.holding.Placing.TheVariants.{Fails}
use Rattle.report.specs.declared.line.Line.{Line}
use Rattle.report.specs.Lines.{line_of}
use Rattle.forks.specs.declared.row.Row.{Row}
use Rattle.forks.specs.declared.row.Arrival.{Arrival}
use Rattle.forks.specs.Forks.{PutAt, Parent, Forked}
use Rattle.forks.specs.Rows.{choice_of, row_of, Grown, recognition}

exactly_one : {X : Type 0} (P : X → Type 0) (x : X) → P x → ((y : X) → P y → x ≡ y) → Exactly P (x ∷ [])
exactly_one P x p only = record {
  once = ((λ m. m), tt);
  each = λ y. (⊎_elim (λ e. subst P e p) (λ m. absurd m), λ q. inl (only y q));
}

module _ {K : Type 0} (kind : Meaning K) (l : Loading kind.G) (e : Seen kind.G) where
  -- no choice that Q names is held or recognised
  pub forked_none : (Q : List ℕ → Type 0) (slot : ℕ) → ((k : List ℕ) → Q k → (HeldIn kind.group (loading_plus l e) (Some e.seen.stamp) k → ⊥) × (Recognised kind.group (loading_plus l e) k → ⊥)) → Forked kind l e Q slot [] []
  forked_none Q slot none = record {
    rows = exactly_none _ (λ r (s, q, held). (none r.choice q).0 held);
    standing = tt;
    lines = exactly_none _ (λ x (letter, s, stamp, q, rec). (none x.choice q).1 rec);
  }

  -- nothing is held that has nothing open
  held_not_full : {k : List ℕ} → HeldIn kind.group (loading_plus l e) (Some e.seen.stamp) k → Recognised kind.group (loading_plus l e) k → ⊥
  held_not_full held rec = let (i, p, o) = held.some_open in rec.full i p o

  module _ (table : List (Bound K)) (wanted : ℕ) (arrival : Arrival K) (parent : Row K) (by : Parent kind l e table wanted arrival parent) (j : ℕ) where
    abbrev k : List ℕ
    k = choice_of parent

    abbrev Put : List ℕ → Type 0
    Put = PutAt l k e j

    pub not_wanted : is_in wanted j ≡ false → Forked kind l e Put parent.slot [] []
    not_wanted f = forked_none Put parent.slot (λ k' p. absurd (both_ways _ f ((by.wants j).1 (p.inside, p.typed))))

    pub not_open : is_in parent.filled.bits j ≡ true → Forked kind l e Put parent.slot [] []
    not_open t = forked_none Put parent.slot (λ k' p. absurd (both_ways _ (by.standing.portrays.filled j p.inside ∙ open_is k j p.is_open) t))

    -- what is wanted and not filled
    pub put_here : is_in wanted j ≡ true → is_in parent.filled.bits j ≡ false → Put (choice_plus k j e)
    put_here t f = let (inside, typed) = (by.wants j).0 t in record { inside = inside; is_open = is_open k j (sym (by.standing.portrays.filled j inside) ∙ f); typed = typed; choice = refl }

    pub placeable : {k' : List ℕ} → Put k' → Placeable kind.group l k j e
    placeable p = record { inside = p.inside; is_open = p.is_open; typed = p.typed; numbered = by.numbered; newest = by.newest; alive = by.alive }

    pub fails_put : (Placeable kind.group l k j e → Placed kind.group (loading_plus l e) (choice_plus k j e) e.seen.stamp Fails) → Forked kind l e Put parent.slot [] []
    fails_put placed = forked_none Put parent.slot (λ k' p.
        subst (λ k. (HeldIn kind.group (loading_plus l e) (Some e.seen.stamp) k → ⊥) × (Recognised kind.group (loading_plus l e) k → ⊥)) (sym p.choice) (placed (placeable p)))

    module _ (put : Put (choice_plus k j e)) where
      pub grows_put : HeldIn kind.group (loading_plus l e) (Some e.seen.stamp) (choice_plus k j e) → (r : Row K) → Grown kind l parent j e r → Forked kind l e Put parent.slot (r ∷ []) []
      grows_put held r grown = record {
        rows = exactly_one _ (row_of r)
            (grown.slot, subst Put (sym grown.choice) put, subst (HeldIn kind.group (loading_plus l e) (Some e.seen.stamp)) (sym grown.choice) held)
            (λ q (s, p, h). λ i. record { slot = (grown.slot ∙ sym s) i; choice = (grown.choice ∙ sym p.choice) i });
        standing = ((grown.slot, grown.standing), tt);
        lines = exactly_none _ (λ x (letter, s, stamp, q, rec). held_not_full held (subst (Recognised kind.group (loading_plus l e)) q.choice rec));
      }

      pub ripens_put : Recognised kind.group (loading_plus l e) (choice_plus k j e) → (x : Line K) → line_of kind.value x ≡ recognition e parent.slot (choice_plus k j e) → Forked kind l e Put parent.slot [] (x ∷ [])
      ripens_put rec x is-line = record {
        rows = exactly_none _ (λ r (s, q, held). held_not_full (subst (HeldIn kind.group (loading_plus l e) (Some e.seen.stamp)) q.choice held) rec);
        standing = tt;
        lines = exactly_one _ (line_of kind.value x)
            (subst (λ y. (y.letter ≡ R) × (y.slot ≡ parent.slot) × (y.stamp ≡ e.seen.stamp) × Put y.choice × Recognised kind.group (loading_plus l e) y.choice) (sym is-line) (refl, refl, refl, put, rec))
            (λ y (letter, s, stamp, q, r). is-line ∙ (λ i. record { letter = sym letter i; slot = sym s i; choice = sym q.choice i; stamp = sym stamp i }));
      }
