-- Why clock calls do not count: a row that was ever held was held right after its last event.
use Rattle.std.proofs.Common.{◌≡◌, ℕ, ◌+◌, Bool, true, false, cond, eqb, ◌⊎◌, List, [], ◌∷◌, length, Some, None, Option, sym, refl, ap, ◌∙◌, subst, inl, inr, ⊎_elim, arith}
use Rattle.std.proofs.lemmas.Bool.{eqb-false}
use Rattle.kinds.specs.Ordered.{Ordered}
use Rattle.definitions.specs.Chronicles.{Chronicle}
use Rattle.logs.specs.Events.{Event}
use Rattle.law.specs.Bags.{◌∈◌}
use Rattle.law.specs.Clocks.{without_clocks, NoWithdrawal, Alike, ClocksAlike, ClocksDoNotCount}
use Rattle.law.specs.Histories.{Letter, R, D, Line, Act, load, withdraw, event, clock, Loading, now_of, event_count, loading_of, joined}
use Rattle.law.specs.Holding.{at, HeldIn, Held}
use Rattle.law.specs.Telling.{Goes, told_of, WasHeld, is, was, OwedAs, Lawful}
use Rattle.law.proofs.Growing.{loading_with, choice_old, held_back}
use Rattle.law.proofs.Numbers.{numbered-at}
use Rattle.law.proofs.Ticks.{same_loading, no_loading}
use Rattle.law.proofs.Telling.{lawful_tells}

module _ {G : Type 0} where
  count_same : (h : List (Act G)) → event_count (without_clocks h) ≡ event_count h
  count_same [] = refl
  count_same (load s c ∷ h) = count_same h
  count_same (withdraw s ∷ h) = count_same h
  count_same (event e told ∷ h) = ap (λ n. n + 1) (count_same h)
  count_same (clock t told ∷ h) = count_same h

  pub loading_same : (s : ℕ) (h : List (Act G)) → loading_of s (without_clocks h) ≡ loading_of s h
  loading_same s [] = refl
  loading_same s (load t c ∷ h) = ap (cond (eqb t s) (Some (loading_with c []))) (loading_same s h)
  loading_same s (withdraw t ∷ h) = ap (cond (eqb t s) None) (loading_same s h)
  loading_same s (event e told ∷ h) = ap (λ o. joined o (record { number = event_count (without_clocks h) + 1; seen = e })) (loading_same s h) ∙ ap (λ n. joined (loading_of s h) (record { number = n + 1; seen = e })) (count_same h)
  loading_same s (clock t told ∷ h) = loading_same s h

-- the row was held right after one of the events
data HeldAtEvent {G : Type 0} (group : Ordered G) (s : ℕ) (k : List ℕ) : List (Act G) → Type 0 where
  here : {e : Event G} {h : List (Act G)} → Held group (event e [] ∷ h) s k → HeldAtEvent group s k (event e [] ∷ h)
  past : {a : Act G} {h : List (Act G)} → Goes s a → HeldAtEvent group s k h → HeldAtEvent group s k (a ∷ h)

module _ {G : Type 0} (group : Ordered G) (s : ℕ) (k : List ℕ) where
  -- after an event, clock calls before it do not show
  held_plain : (e : Event G) (told : List (Line G)) (h : List (Act G)) → Held group (event e told ∷ h) s k → Held group (event e [] ∷ without_clocks h) s k
  held_plain e told h (l, f, held) = (l, loading_same s (event e told ∷ h) ∙ f, held)

  plain_held : (e : Event G) (told : List (Line G)) (h : List (Act G)) → Held group (event e [] ∷ without_clocks h) s k → Held group (event e told ∷ h) s k
  plain_held e told h (l, f, held) = (l, sym (loading_same s (event e told ∷ h)) ∙ f, held)

  no_events : (c : Chronicle G) (t : Option G) → HeldIn group (loading_with c []) t k → ⊥
  no_events c t held = let (i, p, nz) = held.some_filled in (held.choice.filled i p nz).1.among

  held-at-event : (h : List (Act G)) → Lawful group h → NoWithdrawal h → Held group h s k → HeldAtEvent group s k (without_clocks h)
  held-at-event [] lawful none (l, f, held) = no_loading refl f
  held-at-event (load t c ∷ h) (owes, rows, rest) none (l, f, held) = go (eqb t s) refl (held-at-event h rest none)
    where
      go : (b : Bool) → eqb t s ≡ b → (Held group h s k → HeldAtEvent group s k (without_clocks h)) → HeldAtEvent group s k (load t c ∷ without_clocks h)
      go true e on = absurd (no_events c (now_of h) (subst (λ m. HeldIn group m (now_of h) k) (same_loading f (ap (λ b. cond b (Some (loading_with c [])) (loading_of s h)) e)) held))
      go false e on = past (eqb-false t s e) (on (l, sym (ap (λ b. cond b (Some (loading_with c [])) (loading_of s h)) e) ∙ f, held))
  held-at-event (withdraw t ∷ h) lawful none held = absurd none
  held-at-event (event e told ∷ h) lawful none held = here (held_plain e told h held)
  held-at-event (clock t told ∷ h) (owes, rows, rest) none (l, f, held) =
      held-at-event h rest none (l, f, held_back l.chronicle l.since l.since (event_count h) (λ e m. m) (λ e m o. m) k (choice_old l.chronicle l.since (event_count h) k (numbered-at s h l f) held.choice) group (now_of h) t owes.0 held)

  was_split : (a : Act G) (h : List (Act G)) → WasHeld group s k (a ∷ h) → Held group (a ∷ h) s k ⊎ (Goes s a × WasHeld group s k h)
  was_split a h (is held) = inl held
  was_split a h (was goes w) = inr (goes, w)

  never_was : {h : List (Act G)} → WasHeld group s k h → length h ≡ 0 → Held group h s k
  never_was (is held) e = held
  never_was (was goes w) e = absurd (omega arith)

  was_at_event : (h : List (Act G)) → Lawful group h → NoWithdrawal h → WasHeld group s k h → HeldAtEvent group s k (without_clocks h)
  was_at_event [] lawful none w = held-at-event [] lawful none (never_was w refl)
  was_at_event (load t c ∷ h) lawful none w =
      ⊎_elim (held-at-event (load t c ∷ h) lawful none) (λ (goes, v). past goes (was_at_event h lawful.2 none v)) (was_split (load t c) h w)
  was_at_event (withdraw t ∷ h) lawful none w = absurd none
  was_at_event (event e told ∷ h) lawful none w =
      ⊎_elim (held-at-event (event e told ∷ h) lawful none) (λ (goes, v). past tt (was_at_event h lawful.2 none v)) (was_split (event e told) h w)
  was_at_event (clock t told ∷ h) lawful none w =
      ⊎_elim (held-at-event (clock t told ∷ h) lawful none) (λ (goes, v). was_at_event h lawful.2 none v) (was_split (clock t told) h w)

  at_load : (t : ℕ) (c : Chronicle G) (es : List (Act G)) → HeldAtEvent group s k (load t c ∷ es) → Goes s (load t c) × HeldAtEvent group s k es
  at_load t c es (past goes at) = (goes, at)

  at-event : (e : Event G) (es : List (Act G)) → HeldAtEvent group s k (event e [] ∷ es) → Held group (event e [] ∷ es) s k ⊎ HeldAtEvent group s k es
  at-event e es (here held) = inl held
  at-event e es (past goes at) = inr at

  none_at : {es : List (Act G)} → HeldAtEvent group s k es → length es ≡ 0 → ⊥
  none_at (here held) e = omega arith
  none_at (past goes at) e = omega arith

  event_was : (h : List (Act G)) → NoWithdrawal h → HeldAtEvent group s k (without_clocks h) → WasHeld group s k h
  event_was [] none at = absurd (none_at at refl)
  event_was (load t c ∷ h) none at = let x = at_load t c (without_clocks h) at in was x.0 (event_was h none x.1)
  event_was (withdraw t ∷ h) none at = absurd none
  event_was (event e told ∷ h) none at = ⊎_elim (λ held. is (plain_held e told h held)) (λ old. was tt (event_was h none old)) (at-event e (without_clocks h) at)
  event_was (clock t told ∷ h) none at = was tt (event_was h none at)

-- two watches that saw the same but for clock calls
module _ {G : Type 0} (group : Ordered G) (e : Event G) (told told' : List (Line G)) (g h : List (Act G)) (lawful : Lawful group (event e told ∷ g)) (lawful' : Lawful group (event e told' ∷ h))
    (none : NoWithdrawal g) (none' : NoWithdrawal h) (same : without_clocks g ≡ without_clocks h) (s : ℕ) where
  loadings : loading_of s (event e told ∷ g) ≡ loading_of s (event e told' ∷ h)
  loadings = sym (loading_same s (event e told ∷ g)) ∙ ap (λ es. loading_of s (event e [] ∷ es)) same ∙ loading_same s (event e told' ∷ h)

  pub held_on : (k : List ℕ) → Held group (event e told ∷ g) s k → Held group (event e told' ∷ h) s k
  held_on k (l, f, held) = (l, sym loadings ∙ f, held)

  pub held_off : (k : List ℕ) → Held group (event e told' ∷ h) s k → Held group (event e told ∷ g) s k
  held_off k (l, f, held) = (l, loadings ∙ f, held)

  owed_on : (k : List ℕ) (x : G) (letter : Letter) (l : Loading G) → OwedAs group (event e told ∷ g) s l k x letter → OwedAs group (event e told' ∷ h) s l k x letter
  owed_on k x R l o = o
  owed_on k x D l (w, gone, due) =
      (event_was group s k (event e told' ∷ h) none' (subst (λ es. HeldAtEvent group s k (event e [] ∷ es)) same (was_at_event group s k (event e told ∷ g) lawful none w)), (λ held. gone (held_off k held)), due)

  pub told_on : (x : Line G) → x ∈ told_of s (event e told ∷ g) → x ∈ told_of s (event e told' ∷ h)
  told_on x m =
      let (l, f, i, o) = ((lawful_tells group (event e told ∷ g) lawful s).each x).0 m in
      ((lawful_tells group (event e told' ∷ h) lawful' s).each x).1 (l, sym loadings ∙ f, i, owed_on x.choice x.stamp x.letter l o)

alike_at : {G : Type 0} (group : Ordered G) (e : Event G) (told told' : List (Line G)) (g h : List (Act G)) → Lawful group (event e told ∷ g) → Lawful group (event e told' ∷ h) → NoWithdrawal g → NoWithdrawal h →
    without_clocks g ≡ without_clocks h → Alike group (event e told ∷ g) (event e told' ∷ h)
alike_at group e told told' g h lawful lawful' none none' same = record {
  rows = λ s k. (held_on group e told told' g h lawful lawful' none none' same s k, held_off group e told told' g h lawful lawful' none none' same s k);
  lines = λ s x. (told_on group e told told' g h lawful lawful' none none' same s x, told_on group e told' told h g lawful' lawful none' none (sym same) s x);
}

-- the same event, and the same before it
same_event : {G : Type 0} {e f : Event G} {g h : List (Act G)} → event e [] ∷ g ≡ event f [] ∷ h → (e ≡ f) × (g ≡ h)
same_event p = (cc, cc)

pub clocks_alike : {G : Type 0} (group : Ordered G) → ClocksAlike group
clocks_alike group [] h lawful lawful' p = absurd p.ends.0
clocks_alike group (load s c ∷ g) h lawful lawful' p = absurd p.ends.0
clocks_alike group (withdraw s ∷ g) h lawful lawful' p = absurd p.ends.0
clocks_alike group (clock t told ∷ g) h lawful lawful' p = absurd p.ends.0
clocks_alike group (event e told ∷ g) [] lawful lawful' p = absurd p.ends.1
clocks_alike group (event e told ∷ g) (load s c ∷ h) lawful lawful' p = absurd p.ends.1
clocks_alike group (event e told ∷ g) (withdraw s ∷ h) lawful lawful' p = absurd p.ends.1
clocks_alike group (event e told ∷ g) (clock t told' ∷ h) lawful lawful' p = absurd p.ends.1
clocks_alike {G} group (event e told ∷ g) (event f told' ∷ h) lawful lawful' p = alike f (sym (same_event p.same).0) lawful'
  where
    alike : (f : Event G) → f ≡ e → Lawful group (event f told' ∷ h) → Alike group (event e told ∷ g) (event f told' ∷ h)
    alike f one lawful-f =
        let lawful-e : Lawful group (event e told' ∷ h) = subst (λ x. Lawful group (event x told' ∷ h)) one lawful-f in
        let (none, none') = p.lasting in
        subst (λ x. Alike group (event e told ∷ g) (event x told' ∷ h)) (sym one) (alike_at group e told told' g h lawful lawful-e none none' (same_event p.same).1)

-- so with the event named on its own
pub clocks_do_not_count_lem : {G : Type 0} (group : Ordered G) → ClocksDoNotCount group
clocks_do_not_count_lem group = record {
  rows = λ e told told' g h lawful lawful' none none' same. (alike_at group e told told' g h lawful lawful' none none' same).rows;
  lines = λ e told told' g h lawful lawful' none none' same. (alike_at group e told told' g h lawful lawful' none none' same).lines;
}
