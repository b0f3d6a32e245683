-- Slots with nothing filled take an event, one after another.
use Rattle.std.proofs.Common.{◌≡◌, ℕ, ◌≤◌, true, false, ◌⊎◌, ◌↔◌, List, [], ◌∷◌, ◌++◌, get_or, replicate, is_some as option_is_some, Some, None, Option, sym, refl, ap, ◌∙◌, subst, inl, inr, ⊎_elim}
use Rattle.std.proofs.ByRecursion.{All-append}
use Rattle.std.proofs.lemmas.List.{map-append, append-nil, append_assoc, get_or-replicate}
use Rattle.std.proofs.lemmas.Bool.{both_ways}
use Rattle.kinds.specs.declared.kind.Kind.{Ghosts as Meaning}
use Rattle.logs.specs.Events.{Event}
use Rattle.law.specs.Each.{Each}
use Rattle.law.specs.Each.Each.{none, more}
use Rattle.law.specs.Forks.{Blank}
use Rattle.law.specs.Histories.{Act, event, Loading, loading_of}
use Rattle.law.specs.Holding.{width}
use Rattle.law.specs.Steps.{Begins}
use Rattle.law.specs.Telling.{Row as HeldRow}
use Rattle.law.proofs.Counting.{exactly_as}
use Rattle.law.proofs.Sets.{exactly_none, exactly_one, exactly_append}
use Rattle.law.proofs.Ticks.{same_loading}
use Rattle.slots.specs.Slots.{types_in}
use Rattle.slots.specs.Variables.{width as width_in}
use Rattle.slots.specs.declared.table.Slots.{Slots}
use Rattle.report.specs.declared.line.Line.{Line}
use Rattle.report.specs.Lines.{line_of}
use Rattle.forks.specs.declared.row.Row.{Row}
use Rattle.forks.specs.Rows.{row_of, InLoading}
use Rattle.forks.specs.Spreads.{SpreadOf, Spread, LoadedAs, Loaded, Begun}
use Rattle.forks.proofs.Spreading.{spread_none, spread_more}

each_join : {A B : Type 0} {F : A → List B → Type 0} {xs us : List A} {ys vs : List B} → Each F xs ys → Each F us vs → Each F (xs ++ us) (ys ++ vs)
each_join {F = F} {xs = xs} {ys = ys} old none = subst (λ zs. Each F zs (ys ++ [])) (sym (append-nil xs)) (subst (Each F xs) (sym (append-nil ys)) old)
each_join {F = F} {xs = xs} {ys = ys} old (more {xs = us} {ys = vs} {zs = ws} {x = u} each here) =
    subst (λ zs. Each F zs (ys ++ (vs ++ ws))) (append_assoc xs us (u ∷ [])) (subst (Each F ((xs ++ us) ++ (u ∷ []))) (append_assoc ys vs ws) (more (each_join old each) here))

module _ {K : Type 0} (kind : Meaning K) (a : List (Act kind.G)) (e : Event kind.G) where
  spread_join : (ps qs : List HeldRow) (born born' : List (Row K)) (ripe ripe' : List (Line K)) → Spread kind a e ps born ripe → Spread kind a e qs born' ripe' → Spread kind a e (ps ++ qs) (born ++ born') (ripe ++ ripe')
  spread_join ps qs born born' ripe ripe' old new = record {
    forks = subst (Each _ (ps ++ qs)) (sym (map-append row_of born born')) (each_join old.forks new.forks);
    ripens = subst (Each _ (ps ++ qs)) (sym (map-append (line_of kind.value) ripe ripe')) (each_join old.ripens new.ripens);
    standing = All-append (InLoading kind (event e [] ∷ a)) born born' old.standing new.standing;
  }

  pub begun_none : (Q : HeldRow → Type 0) → ((r : HeldRow) → Q r → Begins a r → ⊥) → Begun kind a e Q [] []
  begun_none Q no' = record { begins = []; all = exactly_none _ (λ r (q, b). no' r q b); spread = spread_none kind a e }

  -- a slot that is loaded begins with its blank row
  pub begun_one : (slot : ℕ) (l : Loading kind.G) → loading_of slot a ≡ Some l → (p : HeldRow) → p.slot ≡ slot → p.choice ≡ replicate (width l) 0 → (born : List (Row K)) (ripe : List (Line K)) → SpreadOf kind a e p born ripe →
      Begun kind a e (λ r. r.slot ≡ slot) born ripe
  begun_one slot l loaded p of-slot blank born ripe spread = record {
    begins = p ∷ [];
    all = exactly_one _ p (of-slot, (l, ap (λ s. loading_of s a) of-slot ∙ loaded, blank))
        (λ r (s, (m, is_m, k)). λ i. record { slot = (of-slot ∙ sym s) i; choice = (blank ∙ ap (λ l. replicate (width l) 0) (same_loading loaded (ap (λ s. loading_of s a) (sym s) ∙ is_m)) ∙ sym k) i });
    spread = spread_more kind a e [] p [] born [] ripe (spread_none kind a e) spread;
  }

  pub begun_join : (P Q S : HeldRow → Type 0) → ((r : HeldRow) → P r → Q r → ⊥) → ((r : HeldRow) → S r ↔ (P r ⊎ Q r)) → (born born' : List (Row K)) (ripe ripe' : List (Line K)) → Begun kind a e P born ripe → Begun kind a e Q born' ripe' →
      Begun kind a e S (born ++ born') (ripe ++ ripe')
  begun_join P Q S apart is born born' ripe ripe' one two = record {
    begins = one.begins ++ two.begins;
    all = exactly_append _ _ _ one.begins two.begins one.all two.all (λ r (p, b) (q, c). apart r p q)
        (λ r. ((λ (s, b). ⊎_elim (λ p. inl (p, b)) (λ q. inr (q, b)) ((is r).0 s)), ⊎_elim (λ (p, b). ((is r).1 (inl p), b)) (λ (q, b). ((is r).1 (inr q), b))));
    spread = spread_join one.begins two.begins born born' ripe ripe' one.spread two.spread;
  }

  pub begun_as : (P Q : HeldRow → Type 0) (born : List (Row K)) (ripe : List (Line K)) → ((r : HeldRow) → Begins a r → P r ↔ Q r) → Begun kind a e P born ripe → Begun kind a e Q born ripe
  begun_as P Q born ripe same one = record {
    begins = one.begins;
    all = exactly_as _ _ one.begins (λ r. ((λ (p, b). ((same r b).0 p, b)), λ (q, b). ((same r b).1 q, b))) one.all;
    spread = one.spread;
  }

-- what a slot in memory is loaded with
module _ {G : Type 0} (a : List (Act G)) (slots : Slots) (loaded : Loaded a slots) (s : ℕ) where
  pub not_loaded : option_is_some (types_in slots s) ≡ false → loading_of s a ≡ None
  not_loaded f = go (loading_of s a) refl (loaded s)
    where
      go : (o : Option (Loading G)) → loading_of s a ≡ o → LoadedAs o (types_in slots s) → loading_of s a ≡ None
      go None is_none as' = is_none
      go (Some l) is_some (types, few) = absurd (both_ways _ f (ap option_is_some types))

  pub is_loaded_lem : option_is_some (types_in slots s) ≡ true → (l : Loading G) × (loading_of s a ≡ Some l) × (width l ≡ width_in (types_in slots s)) × (width l ≤ 8)
  is_loaded_lem t = go (loading_of s a) refl (loaded s)
    where
      go : (o : Option (Loading G)) → loading_of s a ≡ o → LoadedAs o (types_in slots s) → (l : Loading G) × (loading_of s a ≡ Some l) × (width l ≡ width_in (types_in slots s)) × (width l ≤ 8)
      go None is_none as' = absurd (both_ways _ (ap option_is_some as') t)
      go (Some l) is_some (types, few) = (l, is_some, sym (ap width_in types), few)

-- the blank choice has nothing filled
pub blank-blank : {G : Type 0} (l : Loading G) (k : List ℕ) → k ≡ replicate (width l) 0 → Blank l k
blank-blank l k is-blank i p = ap (λ k. get_or k i 0) is-blank ∙ get_or-replicate (width l) i 0 0 p
