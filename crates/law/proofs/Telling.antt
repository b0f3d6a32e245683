-- From what single calls owe: of each loading just the lines owed are told.
use Rattle.std.proofs.Common.{◌≡◌, ℕ, ◌+◌, ◌<◌, Bool, true, false, cond, eqb, ◌⊎◌, List, [], ◌∷◌, ◌++◌, length, Some, None, Option, sym, refl, ap, ◌∙◌, subst, inl, inr, ⊎_elim, arith}
use Rattle.std.proofs.lemmas.Bool.{cases_eq, eqb-true, eqb-false}
use Rattle.kinds.specs.Ordered.{Ordered}
use Rattle.definitions.specs.Chronicles.{Chronicle}
use Rattle.logs.specs.Events.{Event}
use Rattle.law.specs.Bags.{Exactly}
use Rattle.law.specs.Histories.{Letter, R, D, Line, Act, load, withdraw, event, clock, Seen, Loading, now_of, event_count, loading_of, joined}
use Rattle.law.specs.Holding.{at, NotBefore, HeldIn, Held, Recognised}
use Rattle.law.specs.Telling.{Row, Goes, of_slot, told_of, WasHeld, is, was, OwedAs, Owed, Reads, Tells, CallLine, Lawful}
use Rattle.law.proofs.Growing.{loading_with, choice_old}
use Rattle.law.proofs.Numbers.{numbered-at}
use Rattle.law.proofs.Searches.{one_or_all}
use Rattle.law.proofs.Sets.{exactly_none, held_or_not}
use Rattle.law.proofs.Ticks.{same_loading, no_loading, tick_empty, tick_loaded}

-- a place of a choice that has the number m, or none
pub find : (k : List ℕ) (m n : ℕ) → ((i : ℕ) × (i < n) × (at k i ≡ m)) ⊎ ((i : ℕ) → i < n → at k i ≡ m → ⊥)
find k m n = one_or_all (λ i. at k i ≡ m) (λ i. at k i ≡ m → ⊥) (λ i. cases_eq (at k i) m) n

module _ {G : Type 0} (group : Ordered G) where
  -- a call on another slot
  module _ (s : ℕ) (h : List (Act G)) (a : Act G) (goes : Goes s a) (loading-is : loading_of s (a ∷ h) ≡ loading_of s h) (now_is : now_of (a ∷ h) ≡ now_of h) where
    held_same : (k : List ℕ) → Held group (a ∷ h) s k → Held group h s k
    held_same k (l, e, held) = (l, sym loading-is ∙ e, subst (λ t. HeldIn group l t k) now_is held)

    held_still : (k : List ℕ) → Held group h s k → Held group (a ∷ h) s k
    held_still k (l, e, held) = (l, loading-is ∙ e, subst (λ t. HeldIn group l t k) (sym now_is) held)

    was_back : (k : List ℕ) → WasHeld group s k (a ∷ h) → WasHeld group s k h
    was_back k (is held) = is (held_same k held)
    was_back k (was g w) = w

    owed_back : (k : List ℕ) (x : G) (letter : Letter) (l : Loading G) → OwedAs group (a ∷ h) s l k x letter → OwedAs group h s l k x letter
    owed_back k x R l o = o
    owed_back k x D l (w, gone, due) = (was_back k w, (λ held. gone (held_still k held)), due)

    owed_on : (k : List ℕ) (x : G) (letter : Letter) (l : Loading G) → OwedAs group h s l k x letter → OwedAs group (a ∷ h) s l k x letter
    owed_on k x R l o = o
    owed_on k x D l (w, gone, due) = (was goes w, (λ held. gone (held_same k held)), due)

    other_slot : Exactly (Owed group h s) (told_of s h) → Exactly (Owed group (a ∷ h) s) (told_of s h)
    other_slot old = record {
      once = old.once;
      each = λ x. (
        (λ m. let (l, e, g, o) = (old.each x).0 m in (l, loading-is ∙ e, g, owed_on x.choice x.stamp x.letter l o)),
        (λ (l, e, g, o). (old.each x).1 (l, sym loading-is ∙ e, g, owed_back x.choice x.stamp x.letter l o)),
      );
    }

  -- nothing is owed of a loading that has no event
  none_owed : (s : ℕ) (h : List (Act G)) (c : Chronicle G) → 0 < length c.types → loading_of s h ≡ Some (loading_with c []) → ((k : List ℕ) → WasHeld group s k h → Held group h s k) → (x : Line G) → Owed group h s x → ⊥
  none_owed s h c some is-new fresh x (l, e, g, o) = go x.letter o
    where
      go : (letter : Letter) → OwedAs group h s l x.choice x.stamp letter → ⊥
      go R (rec, last) =
          let rec' = subst (λ m. Recognised group m x.choice) (same_loading e is-new) rec in
          (rec'.choice.filled 0 some (rec'.full 0 some)).1.among
      go D (w, gone, due) = gone (fresh x.choice w)

  event_told : (s : ℕ) (h : List (Act G)) (e : Event G) (told : List (Line G)) → NotBefore group (now_of h) e.stamp → Exactly (CallLine group h (event e told)) told → (rows : List Row) → Reads group h rows →
      Exactly (Owed group h s) (told_of s h) → Exactly (Owed group (event e told ∷ h) s) (of_slot s told ++ told_of s h)
  event_told s h e told later mine rows reads old = go (loading_of s h) refl
    where
      new : Seen G
      new = record { number = event_count h + 1; seen = e }

      go : (o : Option (Loading G)) → loading_of s h ≡ o → Exactly (Owed group (event e told ∷ h) s) (of_slot s told ++ told_of s h)
      go None is_none = tick_empty group s h (event e told) told tt mine old is_none (ap (λ o. joined o (record { number = event_count h + 1; seen = e })) is_none)
      go (Some l) is_some =
          let num = numbered-at s h l is_some in
          let ys = record { number = event_count h + 1; seen = e } ∷ l.since in
          let after = ap (λ o. joined o (record { number = event_count h + 1; seen = e })) is_some in
          let all = numbered-at s (event e told ∷ h) (loading_with l.chronicle ys) after in
          tick_loaded group s h (event e told) told tt mine old l.chronicle l.since ys is_some after
          (λ x m. inr m)
          (λ x m small. ⊎_elim (λ same. absurd (omega (arith, ap (λ z. z.number) same))) (λ j. j) m)
          e.stamp refl later
          (λ k choice. ⊎_elim
          (λ (i, p, is-new). inl (i, omega (arith, choice.wide), is-new))
          (λ none. inr (λ i p. let top = choice_old l.chronicle ys (event_count h + 1) k all choice i p in omega (arith, none i p)))
          (find k (event_count h + 1) (length l.chronicle.types)))
          (λ k wide (i, p, is-new) o. absurd (omega (arith, o i (omega (arith, wide)))))
          (held_or_not group h rows reads s)

  clock_told : (s : ℕ) (h : List (Act G)) (t : G) (told : List (Line G)) → NotBefore group (now_of h) t → Exactly (CallLine group h (clock t told)) told → (rows : List Row) → Reads group h rows →
      Exactly (Owed group h s) (told_of s h) → Exactly (Owed group (clock t told ∷ h) s) (of_slot s told ++ told_of s h)
  clock_told s h t told later mine rows reads old = go (loading_of s h) refl
    where
      go : (o : Option (Loading G)) → loading_of s h ≡ o → Exactly (Owed group (clock t told ∷ h) s) (of_slot s told ++ told_of s h)
      go None is_none = tick_empty group s h (clock t told) told tt mine old is_none is_none
      go (Some l) is_some =
          let num = numbered-at s h l is_some in
          tick_loaded group s h (clock t told) told tt mine old l.chronicle l.since l.since is_some is_some
          (λ x m. m) (λ x m small. m) t refl later
          (λ k choice. inr (choice_old l.chronicle l.since (event_count h) k num choice))
          (λ k wide none o. none)
          (held_or_not group h rows reads s)

  load_told : (s : ℕ) (h : List (Act G)) (t : ℕ) (c : Chronicle G) → 0 < length c.types → Exactly (Owed group h s) (told_of s h) → Exactly (Owed group (load t c ∷ h) s) (told_of s (load t c ∷ h))
  load_told s h t c some old = go (eqb t s) refl
    where
      go : (b : Bool) → eqb t s ≡ b → Exactly (Owed group (load t c ∷ h) s) (cond (eqb t s) [] (told_of s h))
      go true e =
          let is-new = ap (λ b. cond b (Some (loading_with c [])) (loading_of s h)) e in
          subst (Exactly (Owed group (load t c ∷ h) s)) (sym (ap (λ b. cond b [] (told_of s h)) e))
          (exactly_none (Owed group (load t c ∷ h) s) (none_owed s (load t c ∷ h) c some is-new (λ k. fresh k)))
        where
          fresh : (k : List ℕ) → WasHeld group s k (load t c ∷ h) → Held group (load t c ∷ h) s k
          fresh k (is held) = held
          fresh k (was goes w) = absurd (goes (eqb-true t s e))
      go false e =
          subst (Exactly (Owed group (load t c ∷ h) s)) (sym (ap (λ b. cond b [] (told_of s h)) e))
          (other_slot s h (load t c) (eqb-false t s e) (ap (λ b. cond b (Some (loading_with c [])) (loading_of s h)) e) refl old)

  withdraw_told : (s : ℕ) (h : List (Act G)) (t : ℕ) → Exactly (Owed group h s) (told_of s h) → Exactly (Owed group (withdraw t ∷ h) s) (told_of s (withdraw t ∷ h))
  withdraw_told s h t old = go (eqb t s) refl
    where
      go : (b : Bool) → eqb t s ≡ b → Exactly (Owed group (withdraw t ∷ h) s) (cond (eqb t s) [] (told_of s h))
      go true e =
          subst (Exactly (Owed group (withdraw t ∷ h) s)) (sym (ap (λ b. cond b [] (told_of s h)) e))
          (exactly_none (Owed group (withdraw t ∷ h) s) (λ x (l, f, g, o). no_loading (ap (λ b. cond b None (loading_of s h)) e) f))
      go false e =
          subst (Exactly (Owed group (withdraw t ∷ h) s)) (sym (ap (λ b. cond b [] (told_of s h)) e))
          (other_slot s h (withdraw t) (eqb-false t s e) (ap (λ b. cond b None (loading_of s h)) e) refl old)

  pub lawful_tells : (h : List (Act G)) → Lawful group h → Tells group h
  lawful_tells [] lawful s = exactly_none (Owed group [] s) (λ x (l, e, g, o). no_loading refl e)
  lawful_tells (load t c ∷ h) (owes, rows, rest) s = load_told s h t c owes.1 (lawful_tells h rest s)
  lawful_tells (withdraw t ∷ h) (owes, rows, rest) s = withdraw_told s h t (lawful_tells h rest s)
  lawful_tells (event e told ∷ h) (owes, rows, rest) s = event_told s h e told owes.0 owes.1 rows.0 rows.1 (lawful_tells h rest s)
  lawful_tells (clock t told ∷ h) (owes, rows, rest) s = clock_told s h t told owes.0 owes.1 rows.0 rows.1 (lawful_tells h rest s)
