-- What an event or clock call adds to the lines owed: just its own lines.
use Rattle.std.proofs.Common.{◌≡◌, ℕ, ◌+◌, ◌≤◌, eqb, ◌⊎◌, List, ◌∷◌, ◌++◌, length, Some, None, Option, sym, refl, ap, ◌∙◌, subst, inl, inr, ⊎_elim, arith}
use Rattle.std.proofs.lemmas.Bool.{cond-false, ne_eqb}
use Rattle.kinds.specs.Ordered.{Ordered}
use Rattle.kinds.specs.declared.bound.Bound.TheVariants.{At}
use Rattle.definitions.specs.Chronicles.{Chronicle}
use Rattle.law.specs.Bags.{◌∈◌, Exactly}
use Rattle.law.specs.Histories.{Letter, R, D, Line, Act, load, withdraw, event, clock, Seen, Loading, now_of, event_count, loading_of, joined}
use Rattle.law.specs.Holding.{Choice, NotBefore, HeldIn, Held, Recognised, Deadline}
use Rattle.law.specs.Telling.{Goes, New, of_slot, told_of, LastStamp, WasHeld, is, was, OwedAs, Owed, CallLineAs, CallLine}
use Rattle.law.proofs.Growing.{loading_with, Old, choice_old, choice_on, recognised_on, recognised_back, last_on, last_back, held_back, deadline_on, deadline_back}
use Rattle.law.proofs.Numbers.{numbered-at}
use Rattle.law.proofs.Sets.{exactly_append, exactly_slot}

pub same_loading : {G : Type 0} {o : Option (Loading G)} {l m : Loading G} → o ≡ Some l → o ≡ Some m → l ≡ m
same_loading p q = cc

pub no_loading : {G A : Type 0} {o : Option (Loading G)} {l : Loading G} → o ≡ None → o ≡ Some l → A
no_loading p q = absurd (cc)

module _ {G : Type 0} (group : Ordered G) where
  -- a row that was held is a choice of the loading that lasts
  pub was_choice : (s : ℕ) (k : List ℕ) {h : List (Act G)} → WasHeld group s k h → (l : Loading G) → loading_of s h ≡ Some l → Choice l k
  was_choice s k (is (m, e, held)) l f = subst (λ x. Choice x k) (same_loading e f) held.choice
  was_choice s k (was {a = load t c} {h} goes w) l f = was_choice s k w l (sym (cond-false (eqb t s) _ _ (ne_eqb t s goes)) ∙ f)
  was_choice s k (was {a = withdraw t} {h} goes w) l f = was_choice s k w l (sym (cond-false (eqb t s) _ _ (ne_eqb t s goes)) ∙ f)
  was_choice s k (was {a = event e told} {h} goes w) l f = go (loading_of s h) refl f (was_choice s k w)
    where
      go : (o : Option (Loading G)) → loading_of s h ≡ o → joined o (record { number = event_count h + 1; seen = e }) ≡ Some l → ((m : Loading G) → loading_of s h ≡ Some m → Choice m k) → Choice l k
      go None before after old = no_loading refl after
      go (Some m) before after old =
          let num = numbered-at s h m before in
          subst (λ x. Choice x k) (same_loading refl after)
          (choice_on m.chronicle m.since (record { number = event_count h + 1; seen = e } ∷ m.since) (event_count h) (λ x i. inr i) (λ x i small. ⊎_elim (λ same. absurd (omega (arith, ap (λ z. z.number) same))) (λ j. j) i) k
          (choice_old m.chronicle m.since (event_count h) k num (old m before)) (old m before))
  was_choice s k (was {a = clock t told} {h} goes w) l f = was_choice s k w l f

  module _ (s : ℕ) (h : List (Act G)) (a : Act G) (told : List (Line G)) (goes : Goes s a) (mine : Exactly (CallLine group h a) told) (sofar : Exactly (Owed group h s) (told_of s h)) where
    -- the slot is not loaded
    pub tick_empty : loading_of s h ≡ None → loading_of s (a ∷ h) ≡ None → Exactly (Owed group (a ∷ h) s) (of_slot s told ++ told_of s h)
    tick_empty before after = exactly_append _ (Owed group h s) (Owed group (a ∷ h) s) (of_slot s told) (told_of s h) (exactly_slot s (CallLine group h a) told mine) sofar
        (λ x p q. no_loading before q.1)
        (λ x. ((λ o. no_loading after o.1), ⊎_elim (λ (p, e). none x x.letter (subst (λ t. CallLineAs group h a t x.choice x.stamp x.letter) e p)) (λ q. no_loading before q.1)))
      where
        none : (x : Line G) (letter : Letter) → CallLineAs group h a s x.choice x.stamp letter → Owed group (a ∷ h) s x
        none x R p = no_loading after p.1
        none x D p = no_loading before p.1

    module _ (c : Chronicle G) (xs ys : List (Seen G)) (before : loading_of s h ≡ Some (loading_with c xs)) (after : loading_of s (a ∷ h) ≡ Some (loading_with c ys))
        (keep : (e : Seen G) → e ∈ xs → e ∈ ys) (lose : (e : Seen G) → e ∈ ys → e.number ≤ event_count h → e ∈ xs)
        (u : G) (now_is : now_of (a ∷ h) ≡ Some u) (later : NotBefore group (now_of h) u)
        (new_or_old : (k : List ℕ) → Choice (loading_with c ys) k → New h a k ⊎ Old c (event_count h) k) (new-not-old : (k : List ℕ) → length k ≡ length c.types → New h a k → Old c (event_count h) k → ⊥)
        (decided : (k : List ℕ) → Held group h s k ⊎ (Held group h s k → ⊥)) where
      old_of : (k : List ℕ) → Choice (loading_with c xs) k → Old c (event_count h) k
      old_of k choice = choice_old c xs (event_count h) k (numbered-at s h (loading_with c xs) before) choice

      -- what is held after the call was held before it, if it is a choice of the events before
      held-before : (k : List ℕ) → Old c (event_count h) k → Held group (a ∷ h) s k → Held group h s k
      held-before k old (l, e, held) = (
        loading_with c xs,
        before,
        held_back c xs ys (event_count h) keep lose k old group (now_of h) u later
            (subst (λ t. HeldIn group (loading_with c ys) t k) now_is (subst (λ m. HeldIn group m (now_of (a ∷ h)) k) (same_loading e after) held)),
      )

      to_parts : (k : List ℕ) (x : G) (letter : Letter) (l : Loading G) → loading_of s (a ∷ h) ≡ Some l → OwedAs group (a ∷ h) s l k x letter →
          CallLineAs group h a s k x letter ⊎ ((m : Loading G) × (loading_of s h ≡ Some m) × OwedAs group h s m k x letter)
      to_parts k x R l e (rec, last) = ⊎_elim
          (λ new. inl (l, e, rec, last, new))
          (λ old. inr (loading_with c xs, before, (recognised_back c xs ys (event_count h) keep lose k old group (subst (λ m. Recognised group m k) (same_loading e after) rec), last_back c xs ys (event_count h) keep lose k old x (subst (λ m. LastStamp m k x) (same_loading e after) last))))
          (new_or_old k (subst (λ m. Choice m k) (same_loading e after) rec.choice))
      to_parts k x D l e (w, gone, due) = go w
        where
          due' : Deadline group (loading_with c ys) k (At x)
          due' = subst (λ m. Deadline group m k (At x)) (same_loading e after) due

          go : WasHeld group s k (a ∷ h) → CallLineAs group h a s k x D ⊎ ((m : Loading G) × (loading_of s h ≡ Some m) × OwedAs group h s m k x D)
          go (is held) = absurd (gone held)
          go (was g before-it) =
              let choice = was_choice s k before-it (loading_with c xs) before in
              let old = old_of k choice in
              ⊎_elim
              (λ held. inl (loading_with c xs, before, held, gone, deadline_back c xs ys (event_count h) keep lose k old group (At x) due'))
              (λ not-held. inr (loading_with c xs, before, (before-it, not-held, deadline_back c xs ys (event_count h) keep lose k old group (At x) due')))
              (decided k)

      from_call : (k : List ℕ) (x : G) (letter : Letter) → CallLineAs group h a s k x letter → (l : Loading G) × (loading_of s (a ∷ h) ≡ Some l) × OwedAs group (a ∷ h) s l k x letter
      from_call k x R (l, e, rec, last, new) = (l, e, (rec, last))
      from_call k x D (l, e, held, gone, due) =
          let due' = subst (λ m. Deadline group m k (At x)) (same_loading e before) due in
          let choice = was_choice s k {h = h} (is held) (loading_with c xs) before in
          (loading_with c ys, after, (was goes (is held), gone, deadline_on c xs ys (event_count h) keep lose k (old_of k choice) group (At x) due'))

      from_owed : (k : List ℕ) (x : G) (letter : Letter) (l : Loading G) → loading_of s h ≡ Some l → OwedAs group h s l k x letter → (m : Loading G) × (loading_of s (a ∷ h) ≡ Some m) × OwedAs group (a ∷ h) s m k x letter
      from_owed k x R l e (rec, last) =
          let rec' = subst (λ m. Recognised group m k) (same_loading e before) rec in
          let old = old_of k rec'.choice in
          (loading_with c ys, after, (recognised_on c xs ys (event_count h) keep lose k old group rec', last_on c xs ys (event_count h) keep lose k old x (subst (λ m. LastStamp m k x) (same_loading e before) last)))
      from_owed k x D l e (w, gone, due) =
          let old = old_of k (was_choice s k w (loading_with c xs) before) in
          (loading_with c ys, after, (was goes w, (λ held. gone (held-before k old held)), deadline_on c xs ys (event_count h) keep lose k old group (At x) (subst (λ m. Deadline group m k (At x)) (same_loading e before) due)))

      apart : (k : List ℕ) (x : G) (letter : Letter) → CallLineAs group h a s k x letter → (l : Loading G) → loading_of s h ≡ Some l → OwedAs group h s l k x letter → ⊥
      apart k x R (l, e, rec, last, new) m f (rec', last') =
          let choice = subst (λ z. Choice z k) (same_loading f before) rec'.choice in
          new-not-old k choice.wide new (old_of k choice)
      apart k x D (l, e, held, gone, due) m f (w, not-held, due') = not-held held

      pub tick_loaded : Exactly (Owed group (a ∷ h) s) (of_slot s told ++ told_of s h)
      tick_loaded = exactly_append _ (Owed group h s) (Owed group (a ∷ h) s) (of_slot s told) (told_of s h) (exactly_slot s (CallLine group h a) told mine) sofar
          (λ x (p, e) (l, f, g, q). apart x.choice x.stamp x.letter (subst (λ t. CallLineAs group h a t x.choice x.stamp x.letter) e p) l f q)
          (λ x. (
            (λ (l, f, g, q). ⊎_elim (λ p. inl (subst (λ t. CallLineAs group h a t x.choice x.stamp x.letter) (sym g) p, g)) (λ (m, e, o). inr (m, e, g, o)) (to_parts x.choice x.stamp x.letter l f q)),
            ⊎_elim
                (λ (p, e). let o = from_call x.choice x.stamp x.letter (subst (λ t. CallLineAs group h a t x.choice x.stamp x.letter) e p) in (o.0, o.1, e, o.2))
                (λ (l, f, g, q). let o = from_owed x.choice x.stamp x.letter l f q in (o.0, o.1, g, o.2)),
          ))
