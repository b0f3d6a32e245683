-- What a new type name and a new bound make of a draft.
use Rattle.std.proofs.Common.{◌≡◌, ℕ, ◌+◌, ◌<◌, Bool, true, not, ◌&&◌, eqb, ltb, ◌⊎◌, List, [], ◌∷◌, ◌++◌, length, is_ok, Ok, Err, Result, MatchResult, sym, refl, ap, ◌∙◌, subst, inl, inr, ⊎_elim, arith}
use Rattle.std.proofs.lemmas.List.{length_push}
use Rattle.std.proofs.lemmas.Bool.{false≢true, cases_eq, and_from, and_parts, ltb-true, lt-ltb, ne_eqb, not_from_false}
use Rattle.text.specs.declared.fault.Fault.{Fault}
use Rattle.kinds.specs.Ordered.{Ordered}
use Rattle.kinds.specs.Bounds.{at_most, meant, Smallest}
use Rattle.kinds.specs.declared.bound.Bound.{Bound}
use Rattle.kinds.specs.declared.bound.Bound.TheVariants.{At, NoBound}
use Rattle.network.specs.Tables.{cell, entry}
use Rattle.network.specs.Steps.{Lesser, Tightened}
use Rattle.definitions.specs.declared.draft.Draft.{Draft}
use Rattle.definitions.specs.Chronicles.{Limit, Chronicle, Given}
use Rattle.definitions.specs.Reading.{is_pair}
use Rattle.definitions.specs.TypeNames.{type_names}
use Rattle.definitions.specs.Drafts.{Holds, Drafted, Agrees}

module _ {G : Type 0} (l : Limit G) (i j : ℕ) (c : G) where
  pub given_push : (ls : List (Limit G)) → Given (ls ++ (l ∷ [])) i j c → Given ls i j c ⊎ ((l.from ≡ i) × (l.to ≡ j) × (l.most ≡ c))
  given_push [] (inl h) = inr h
  given_push [] (inr h) = absurd h
  given_push (m ∷ ls) (inl h) = inl (inl h)
  given_push (m ∷ ls) (inr h) = ⊎_elim (λ g. inl (inr g)) (λ g. inr g) (given_push ls h)

  pub push_given : (ls : List (Limit G)) → Given ls i j c ⊎ ((l.from ≡ i) × (l.to ≡ j) × (l.most ≡ c)) → Given (ls ++ (l ∷ [])) i j c
  push_given [] (inl h) = absurd h
  push_given [] (inr h) = inl h
  push_given (m ∷ ls) (inl (inl h)) = inl h
  push_given (m ∷ ls) (inl (inr h)) = inr (push_given ls (inl h))
  push_given (m ∷ ls) (inr h) = inr (push_given ls (inr h))

module _ {G : Type 0} (group : Ordered G) where
  smallest_like : (P Q : G → Type 0) (b : Bound G) → ((c : G) → P c → Q c) → ((c : G) → Q c → P c) → Smallest group P b → Smallest group Q b
  smallest_like P Q (At x) to from s = (to x s.0, λ c q. s.1 c (from c q))
  smallest_like P Q NoBound to from s = λ c q. s c (from c q)

  -- one more element
  smallest_more : (P : G → Type 0) (x : G) (a b : Bound G) → Smallest group P a → Lesser group a (At x) b → Smallest group (λ c. P c ⊎ (x ≡ c)) b
  smallest_more P x a b s less = go a b s less.one_of less.first.is less.second.is
    where
      new : (b : Bound G) → b ≡ At x → ((c : G) → P c → group.leq x c ≡ true) → Smallest group (λ c. P c ⊎ (x ≡ c)) b
      new b e least = subst (Smallest group (λ c. P c ⊎ (x ≡ c))) (sym e) (inr refl, λ c. ⊎_elim (least c) (λ f. subst (λ y. group.leq x y ≡ true) f (group.leq_refl x)))

      go : (a b : Bound G) → Smallest group P a → (b ≡ a) ⊎ (b ≡ At x) → at_most group b a ≡ true → at_most group b (At x) ≡ true → Smallest group (λ c. P c ⊎ (x ≡ c)) b
      go (At y) b s (inl e) f g =
          subst (Smallest group (λ c. P c ⊎ (x ≡ c))) (sym e)
          (inl s.0, λ c. ⊎_elim (s.1 c) (λ h. subst (λ z. group.leq y z ≡ true) h (subst (λ z. at_most group z (At x) ≡ true) e g)))
      go NoBound b s (inl e) f g = absurd (false≢true (subst (λ z. at_most group z (At x) ≡ true) e g))
      go (At y) b s (inr e) f g = new b e (λ c p. group.leq_trans x y c (subst (λ z. at_most group z (At y) ≡ true) e f) (s.1 c p))
      go NoBound b s (inr e) f g = new b e (λ c p. absurd (s c p))

module _ {K G : Type 0} (group : Ordered G) (value : K → G) (bound : G → Bool) (draft : Draft K) (d : Chronicle G) (old : Drafted group value bound draft d) where
  module _ (from to : ℕ) (most : K) (from<n : from < length d.types) (to<n : to < length d.types) (allowed : bound (value most) ≡ true) where
    abbrev l : Limit G
    l = record { from = from; to = to; most = value most }

    holds_more : (u : List (Bound K)) → Tightened group value from to (At most) draft.table.now u → Holds group value u (d.limits ++ (l ∷ []))
    holds_more u tight i j p q = ⊎_elim
        (λ e. ⊎_elim (λ f. here e f) (λ ne. there (λ s. ne s.1)) (cases_eq to j))
        (λ ne. there (λ s. ne s.0))
        (cases_eq from i)
      where
        there : ((from ≡ i) × (to ≡ j) → ⊥) → Smallest group (Given (d.limits ++ (l ∷ [])) i j) (entry value u i j)
        there ne =
            let few = old.held.few in
            subst (Smallest group (Given (d.limits ++ (l ∷ [])) i j)) (ap (meant value) (sym (tight.kept (cell i j) (λ e. ne (omega arith, omega arith)))))
            (smallest_like group (Given d.limits i j) (Given (d.limits ++ (l ∷ [])) i j) (entry value draft.table.now i j)
            (λ c g. push_given l i j c d.limits (inl g))
            (λ c g. ⊎_elim (λ h. h) (λ h. absurd (ne (h.0, h.1))) (given_push l i j c d.limits g))
            (old.held.holds i j p q))

        here : from ≡ i → to ≡ j → Smallest group (Given (d.limits ++ (l ∷ [])) i j) (entry value u i j)
        here e f =
            smallest_like group (λ c. Given d.limits i j c ⊎ (value most ≡ c)) (Given (d.limits ++ (l ∷ [])) i j) (entry value u i j)
            (λ c. ⊎_elim (λ g. push_given l i j c d.limits (inl g)) (λ g. push_given l i j c d.limits (inr (e, f, g))))
            (λ c g. ⊎_elim inl (λ h. inr h.2) (given_push l i j c d.limits g))
            (smallest_more group (Given d.limits i j) (value most) (entry value draft.table.now i j) (entry value u i j) (old.held.holds i j p q)
            (subst (λ y. Lesser group (entry value draft.table.now i y) (At (value most)) (entry value u i y)) f
            (subst (λ x. Lesser group (entry value draft.table.now x to) (At (value most)) (entry value u x to)) e tight.lesser)))

    pub limit_added : (after : Draft K) → after.slot ≡ draft.slot → type_names after.types ≡ type_names draft.types → after.limits ≡ draft.limits + 1 →
        Tightened group value from to (At most) draft.table.now after.table.now → length after.table.now ≡ length draft.table.now →
        Drafted group value bound after (record { slot = d.slot; types = d.types; limits = d.limits ++ (l ∷ []) })
    limit_added after slot types limits tight long = record {
      slot = slot ∙ old.slot;
      types = types ∙ old.types;
      limits = omega (arith, length_push d.limits l, old.limits, limits);
      held = record {
        long = omega (arith, old.held.long);
        few = old.held.few;
        holds = holds_more after.table.now tight;
        between = λ i j c g. ⊎_elim (old.held.between i j c) (λ h. (omega (arith, h.0), omega (arith, h.1))) (given_push l i j c d.limits g);
        admitted = λ i j c g. ⊎_elim (old.held.admitted i j c) (λ h. subst (λ x. bound x ≡ true) h.2 allowed) (given_push l i j c d.limits g);
      };
    }

-- a step that is accepted
pub agrees_ok : {G : Type 0} (a : Result (Chronicle G) Fault) (P : Chronicle G → Type 0) (d : Chronicle G) → a ≡ Ok d → P d → Agrees {A = Unit {0}} a P (Ok tt)
agrees_ok a P d e p = subst (λ r. Agrees r P (Ok tt)) (sym e) p

-- the pair of a bound that passed its tests
pub pair_passes : {G : Type 0} (d : Chronicle G) (l : Limit G) → l.from < length d.types → l.to < length d.types → (l.from ≡ l.to → ⊥) → is_pair d l ≡ true
pair_passes d l p q ne =
    and_from (ltb l.from (length d.types)) (ltb l.to (length d.types) && not (eqb l.from l.to)) (lt-ltb l.from (length d.types) p)
    (and_from (ltb l.to (length d.types)) (not (eqb l.from l.to)) (lt-ltb l.to (length d.types) q) (not_from_false (eqb l.from l.to) (ne_eqb l.from l.to ne)))

-- and what its test tells of it
pub pair_inside : {G : Type 0} (d : Chronicle G) (l : Limit G) → is_pair d l ≡ true → (l.from < length d.types) × (l.to < length d.types)
pair_inside d l pair =
    let outer = and_parts (ltb l.from (length d.types)) (ltb l.to (length d.types) && not (eqb l.from l.to)) pair in
    let inner = and_parts (ltb l.to (length d.types)) (not (eqb l.from l.to)) outer.1 in
    (ltb-true l.from (length d.types) outer.0, ltb-true l.to (length d.types) inner.0)

pub when_is_ok : {T E : Type 0} (P Q : Type 0) (r : Result T E) → is_ok r ≡ true → MatchResult r (λ _. P) (λ _. Q) → P
when_is_ok P Q (Ok x) e p = p
when_is_ok P Q (Err x) e q = absurd (false≢true e)
