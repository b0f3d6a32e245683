-- What an event makes of the rows is exactly what is held and recognised with it.
use Rattle.std.proofs.Common.{◌≡◌, ℕ, ◌+◌, ◌<◌, ◌≤◌, ◌⊎◌, ◌↔◌, List, [], ◌∷◌, ◌++◌, length, set, replicate, Some, None, Option, sym, refl, ap, ◌∙◌, subst, inl, inr, ⊎_elim, arith}
use lib.ListN.{length-replicate, get_or-replicate}
use Rattle.std.proofs.lemmas.List.{length-set, get_or-set_same, set-set, set-get_or, ext_get_or}
use Rattle.kinds.specs.Ordered.{Ordered}
use Rattle.logs.specs.Events.{Event}
use Rattle.law.specs.Bags.{◌∈◌, Exactly}
use Rattle.law.specs.Each.{Each}
use Rattle.law.specs.Forks.{left_out, Blank, ComesFromBefore}
use Rattle.law.specs.Histories.{R, Line, Act, event, Seen, Loading, now_of, event_count, loading_of, joined}
use Rattle.law.specs.Holding.{at, width, Fills, Choice, NotBefore, HeldIn, Held, Recognised}
use Rattle.law.specs.Steps.{Stays, Parent, Takes, ForkOf, RipeOf, NewRow, LineOf}
use Rattle.law.specs.Telling.{Row, New, LastStamp, Reads}
use Rattle.law.proofs.Each.{each_from}
use Rattle.law.proofs.Ends.{row, of_letter}
use Rattle.law.proofs.Forks.{comes_from_before}
use Rattle.law.proofs.Growing.{loading_with, Old, choice_old, holding_shrinks_lem, held_on, held_back}
use Rattle.law.proofs.Numbers.{Numbered, numbered-at}
use Rattle.law.proofs.Sets.{exactly_append}
use Rattle.law.proofs.Telling.{find}
use Rattle.law.proofs.Ticks.{same_loading, no_loading}

module _ {G : Type 0} (a : List (Act G)) (e : Event G) where
  abbrev pub new : Seen G
  new = record { number = event_count a + 1; seen = e }

  abbrev pub grown : Loading G → Loading G
  grown l = loading_with l.chronicle (new ∷ l.since)

  pub loaded_on : (s : ℕ) (l : Loading G) → loading_of s a ≡ Some l → loading_of s (event e [] ∷ a) ≡ Some (grown l)
  loaded_on s l loaded = ap (λ o. joined o new) loaded

  -- a slot that is loaded after the event was loaded before it
  pub loaded_back : (s : ℕ) (m : Loading G) → loading_of s (event e [] ∷ a) ≡ Some m → (l : Loading G) × (loading_of s a ≡ Some l) × (m ≡ grown l)
  loaded_back s m = go (loading_of s a) refl
    where
      go : (o : Option (Loading G)) → loading_of s a ≡ o → joined o new ≡ Some m → (l : Loading G) × (loading_of s a ≡ Some l) × (m ≡ grown l)
      go None before after = no_loading refl after
      go (Some l) before after = (l, before, same_loading after refl)

  -- up to the event before, the loading has the same events
  pub same_old : (l : Loading G) (x : Seen G) → x ∈ (new ∷ l.since) → x.number ≤ event_count a → x ∈ l.since
  same_old l x (inl same) small = absurd (omega (arith, ap (λ z. z.number) same))
  same_old l x (inr m) small = m

  module _ (s : ℕ) (l : Loading G) (loaded : loading_of s a ≡ Some l) where
    numbers : Numbered (event_count a + 1) (new ∷ l.since)
    numbers = numbered-at s (event e [] ∷ a) (grown l) (loaded_on s l loaded)

    pub old_of : (k : List ℕ) → Choice l k → Old l.chronicle (event_count a) k
    old_of k choice = choice_old l.chronicle l.since (event_count a) k (numbered-at s a l loaded) choice

    -- a row of events before is held after the event as if it had not come, but for the time
    pub held_after : (group : Ordered G) (k : List ℕ) → Choice l k → HeldIn group l (Some e.stamp) k ↔ Held group (event e [] ∷ a) s k
    held_after group k choice = (
      (λ held. (grown l, loaded_on s l loaded, held_on l.chronicle l.since (new ∷ l.since) (event_count a) (λ x m. inr m) (same_old l) k (old_of k choice) group (Some e.stamp) held)),
      (λ (m, f, held).
          held_back l.chronicle l.since (new ∷ l.since) (event_count a) (λ x m. inr m) (same_old l) k (old_of k choice) group (Some e.stamp) e.stamp (group.leq_refl e.stamp)
          (subst (λ m. HeldIn group m (Some e.stamp) k) (same_loading f (loaded_on s l loaded)) held)),
    )

    module _ (k : List ℕ) (choice : Choice (grown l) k) where
      -- the event's number stands for the event
      pub fills_new : (i : ℕ) (x : Seen G) → at k i ≡ event_count a + 1 → Fills (grown l) k i x → x ≡ new
      fills_new i x here f = numbers.unique x new f.among (inl refl) (f.number ∙ here)

      top : (j : ℕ) → j < width l → at k j ≤ event_count a + 1
      top = choice_old l.chronicle (new ∷ l.since) (event_count a + 1) k numbers choice

      new_or_old : New a (event e []) k ⊎ Old l.chronicle (event_count a) k
      new_or_old = ⊎_elim (λ (i, p, is-new). inl (i, omega (arith, choice.wide), is-new)) (λ none. inr (λ i p. omega (arith, none i p, top i p))) (find k (event_count a + 1) (width l))

      -- the event stands at one place
      module _ (i : ℕ) (p : i < width l) (here : at k i ≡ event_count a + 1) where
        fills_here : Fills (grown l) k i new
        fills_here = let (x, f) = choice.filled i p (λ z. omega arith) in subst (Fills (grown l) k i) (fills_new i x here f) f

        -- it is the last, so the choice has its stamp
        last_is_new : LastStamp (grown l) k e.stamp
        last_is_new = (i, new, p, (λ z. omega arith), fills_here, (λ j q. omega (arith, top j q)), refl)

        new_is_last : (y : G) → LastStamp (grown l) k y → y ≡ e.stamp
        new_is_last y (j, x, q, nz, f, most, is) =
            let last : at k j ≡ event_count a + 1 = omega (arith, most i p, top j q) in
            is ∙ ap (λ z. z.seen.stamp) (fills_new j x last f)

        -- without it the choice can take it
        takes_it : Takes a e (row s (left_out k i)) k
        takes_it = record {
          loading = l;
          loaded = loaded;
          place = i;
          within = p;
          free = get_or-set_same k i 0 0 (omega (arith, choice.wide));
          typed = fills_here.typed;
          made = sym (set-set k i 0 (event_count a + 1) ∙ ap (set k i) (sym here) ∙ set-get_or k i 0);
        }

        parent : (group : Ordered G) → NotBefore group (now_of a) e.stamp → Blank l (left_out k i) ⊎ HeldIn group l (Some e.stamp) (left_out k i) → Parent group a e (row s (left_out k i))
        parent group later (inl blank) =
            let long : length (left_out k i) ≡ width l = length-set k i 0 ∙ choice.wide in
            inr (l, loaded, ext_get_or 0 (left_out k i) (replicate (width l) 0) (long ∙ sym (length-replicate (width l) 0)) (λ j q. let q' : j < width l = omega arith in blank j q' ∙ sym (get_or-replicate (width l) j 0 0 q')))
        parent group later (inr held) = inl ((l, loaded, holding_shrinks_lem group l (left_out k i) (now_of a) e.stamp later held), (held_after group (left_out k i) held.choice).0 held)

      -- what takes the event to the choice is the choice without it
      taken : (p : Row) → s ≡ p.slot → (t : Takes a e p k) → (t.place < width l) × (at k t.place ≡ event_count a + 1) × (p ≡ row s (left_out k t.place))
      taken p slot t =
          let inside : t.place < width l = subst (λ m. t.place < width m) (same_loading t.loaded (subst (λ x. loading_of x a ≡ Some l) slot loaded)) t.within in
          let long : length p.choice ≡ width l = sym (length-set p.choice t.place (event_count a + 1)) ∙ ap length (sym t.made) ∙ choice.wide in
          let back : set p.choice t.place 0 ≡ p.choice = ap (set p.choice t.place) (sym t.free) ∙ set-get_or p.choice t.place 0 in
          let left : left_out k t.place ≡ p.choice = ap (λ z. left_out z t.place) t.made ∙ set-set p.choice t.place (event_count a + 1) 0 ∙ back in
          (inside, ap (λ z. at z t.place) t.made ∙ get_or-set_same p.choice t.place (event_count a + 1) 0 (omega arith), λ i. row (sym slot i) (sym left i))

      pub one_place : (p q : Row) → s ≡ p.slot → s ≡ q.slot → (t : Takes a e p k) (u : Takes a e q k) → t.place ≡ u.place
      one_place p q of-p of-q t u =
          let (x, here, is-p) = taken p of-p t in
          let (y, there, is-q) = taken q of-q u in
          choice.distinct t.place u.place x y (λ z. omega arith) (here ∙ sym there)

      one_parent : (p q : Row) → s ≡ p.slot → s ≡ q.slot → Takes a e p k → Takes a e q k → p ≡ q
      one_parent p q of-p of-q t u = (taken p of-p t).2 ∙ ap (λ m. row s (left_out k m)) (one_place p q of-p of-q t u) ∙ sym (taken q of-q u).2

module _ {G : Type 0} (group : Ordered G) (a : List (Act G)) (e : Event G) where
  -- the choice of a row held after the event, with its loading before it
  pub held_choice : (r : Row) → Held group (event e [] ∷ a) r.slot r.choice → (l : Loading G) × (loading_of r.slot a ≡ Some l) × HeldIn group (grown a e l) (Some e.stamp) r.choice
  held_choice r (m, f, held) = let (l, loaded, is) = loaded_back a e r.slot m f in (l, loaded, subst (λ m. HeldIn group m (Some e.stamp) r.choice) is held)

  -- the choice that a line recognises, with its loading before the event
  pub ripe_choice : (s : ℕ) (k : List ℕ) (m : Loading G) → loading_of s (event e [] ∷ a) ≡ Some m → Recognised group m k → (l : Loading G) × (loading_of s a ≡ Some l) × (m ≡ grown a e l) × Recognised group (grown a e l) k
  ripe_choice s k m f rec = let (l, loaded, is) = loaded_back a e s m f in (l, loaded, is, subst (λ m. Recognised group m k) is rec)

  -- two parents of a row are one
  fork_of_one : (p q r : Row) → ForkOf group a e p r → ForkOf group a e q r → p ≡ q
  fork_of_one p q r f g =
      let (l, loaded, held) = held_choice r f.held in
      one_parent a e r.slot l loaded r.choice held.choice p q f.slot g.slot f.takes g.takes

  ripe_of_one : (p q : Row) (x : Line G) → RipeOf group a e p x → RipeOf group a e q x → p ≡ q
  ripe_of_one p q x f g =
      let (l, loaded, is, rec) = ripe_choice x.slot x.choice f.loading f.loaded f.recognised in
      one_parent a e x.slot l loaded x.choice rec.choice p q f.slot g.slot f.takes g.takes

  fork_is_new : (p r : Row) → ForkOf group a e p r → NewRow group a e r
  fork_is_new p r f =
      let (l, loaded, held) = held_choice r f.held in
      let (inside, here, is) = taken a e r.slot l loaded r.choice held.choice p f.slot f.takes in
      (f.held, (f.takes.place, omega (arith, held.choice.wide), here))

module _ {G : Type 0} (group : Ordered G) (a : List (Act G)) (e : Event G) (later : NotBefore group (now_of a) e.stamp) where
  from_before : (s : ℕ) (l : Loading G) → loading_of s a ≡ Some l → ComesFromBefore group l (Some e.stamp) (new a e)
  from_before s l loaded = comes_from_before group l (Some e.stamp) (new a e) (event_count a) (numbered-at s a l loaded) refl (group.leq_refl e.stamp)

  new_is_fork : (r : Row) → NewRow group a e r → (p : Row) × Parent group a e p × ForkOf group a e p r
  new_is_fork r (after, (i, inside, here)) =
      let (l, loaded, held) = held_choice group a e r after in
      let p : i < width l = omega (arith, held.choice.wide) in (
        row r.slot (left_out r.choice i),
        parent a e r.slot l loaded r.choice held.choice i p here group later ((from_before r.slot l loaded).held r.choice i p here held),
        record { slot = refl; takes = takes_it a e r.slot l loaded r.choice held.choice i p here; held = after },
      )

  -- what the parents make is what is held with the event
  pub forks_are_new : {parents forks : List Row} → Exactly (Parent group a e) parents → Each (λ p rs. Exactly (ForkOf group a e p) rs) parents forks → Exactly (NewRow group a e) forks
  forks_are_new {parents} {forks} all each = each_from (ForkOf group a e) (fork_of_one group a e) (Parent group a e) (NewRow group a e) (λ r. ((λ (p, m, f). fork_is_new group a e p r f), new_is_fork r)) all each

  module _ (told : List (Line G)) where
    ripe_is_line : (p : Row) (x : Line G) → RipeOf group a e p x → LineOf group a (event e told) R x
    ripe_is_line p x f =
        let (l, loaded, is, rec) = ripe_choice group a e x.slot x.choice f.loading f.loaded f.recognised in
        let (inside, here, from) = taken a e x.slot l loaded x.choice rec.choice p f.slot f.takes in
        let last = last_is_new a e x.slot l loaded x.choice rec.choice f.takes.place inside here in
        (f.letter, of_letter group a (event e told) x (sym f.letter) (grown a e l, loaded_on a e x.slot l loaded, rec, subst (LastStamp (grown a e l) x.choice) (sym f.stamp) last, (f.takes.place, omega (arith, rec.choice.wide), here)))

    line_is_ripe : (x : Line G) → LineOf group a (event e told) R x → (p : Row) × Parent group a e p × RipeOf group a e p x
    line_is_ripe x (letter, line) =
        let (m, f, was-rec, last, (i, inside, here)) = of_letter group a (event e told) x letter line in
        let (l, loaded, is, rec) = ripe_choice group a e x.slot x.choice m f was-rec in
        let p : i < width l = omega (arith, rec.choice.wide) in (
          row x.slot (left_out x.choice i),
          parent a e x.slot l loaded x.choice rec.choice i p here group later ((from_before x.slot l loaded).recognised x.choice i p here rec),
          record {
            letter = letter;
            slot = refl;
            takes = takes_it a e x.slot l loaded x.choice rec.choice i p here;
            loading = m;
            loaded = f;
            recognised = was-rec;
            stamp = new_is_last a e x.slot l loaded x.choice rec.choice i p here x.stamp (subst (λ m. LastStamp m x.choice x.stamp) is last);
          },
        )

    -- what the parents make is what is recognised with the event
    pub ripe_are_recognised : {parents : List Row} {ripe : List (Line G)} → Exactly (Parent group a e) parents → Each (λ p xs. Exactly (RipeOf group a e p) xs) parents ripe → Exactly (LineOf group a (event e told) R) ripe
    ripe_are_recognised all each = each_from (RipeOf group a e) (ripe_of_one group a e) (Parent group a e) (LineOf group a (event e told) R) (λ x. ((λ (p, m, f). ripe_is_line p x f), line_is_ripe x)) all each

  -- a row held after the event has it, or was held before
  new_or_stays : (r : Row) → Held group (event e [] ∷ a) r.slot r.choice → Stays group a (event e []) r ⊎ NewRow group a e r
  new_or_stays r after =
      let (l, loaded, held) = held_choice group a e r after in
      ⊎_elim
      (λ new. inr (after, new))
      (λ old. inl ((l, loaded, held_back l.chronicle l.since (new a e ∷ l.since) (event_count a) (λ x m. inr m) (same_old a e l) r.choice old group (now_of a) e.stamp later held), after))
      (new_or_old a e r.slot l loaded r.choice held.choice)

  stays_not_new : (r : Row) → Stays group a (event e []) r → NewRow group a e r → ⊥
  stays_not_new r ((l, loaded, held), after) (after', (i, inside, here)) = omega (arith, old_of a e r.slot l loaded r.choice held.choice i (omega (arith, held.choice.wide)))

  -- the rows after the event are those that stay and the new ones
  pub event_reads : (told : List (Line G)) (kept forks : List Row) → Exactly (Stays group a (event e [])) kept → Exactly (NewRow group a e) forks → Reads group (event e told ∷ a) (kept ++ forks)
  event_reads told kept forks old fresh = exactly_append (Stays group a (event e [])) (NewRow group a e) _ kept forks old fresh stays_not_new (λ r. (new_or_stays r, ⊎_elim (λ h. h.1) (λ h. h.0)))
