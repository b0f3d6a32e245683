-- What a row makes with the event, variable by variable.
use Rattle.std.proofs.Common.{◌≡◌, ℕ, ◌+◌, ◌<◌, ◌≤◌, cond, eqb, List, [], ◌∷◌, get_or, set, replicate, Some, sym, refl, ap, ◌∙◌, subst, inl, inr, ⊎_elim, arith}
use lib.ListN.{length-replicate, get_or-replicate}
use Rattle.std.proofs.lemmas.List.{length-set, get_or-set_same, get_or-set_other}
use Rattle.std.proofs.lemmas.Bool.{cases_eq, eq-eqb, ne_eqb, cond-true, cond-false}
use Rattle.std.specs.List.{range_with_len}
use Rattle.kinds.specs.Ordered.{Ordered}
use Rattle.logs.specs.Events.{Event}
use Rattle.law.specs.Bags.{Exactly}
use Rattle.law.specs.Each.{Each}
use Rattle.law.specs.Histories.{R, Line, Act, event, Seen, Loading, event_count, loading_of}
use Rattle.law.specs.Holding.{at, width, Fills, Choice, Agrees, Held, Recognised}
use Rattle.law.specs.Steps.{Takes, ForkOf, RipeOf, ForkAt, RipeAt}
use Rattle.law.specs.Telling.{Row}
use Rattle.law.proofs.Each.{each_from, exactly_counting}
use Rattle.law.proofs.Ends.{row}
use Rattle.law.proofs.Events.{new, grown, loaded_on, one_place, fills_new, held_choice, ripe_choice, old_of, same_old}
use Rattle.law.proofs.Sets.{exactly_none, exactly_one}
use Rattle.law.proofs.Ticks.{same_loading}

module _ {G : Type 0} (group : Ordered G) (a : List (Act G)) (e : Event G) (p : Row) (l : Loading G) (loaded : loading_of p.slot a ≡ Some l) where
  fork_place : (i j : ℕ) (r : Row) → ForkAt group a e p i r → ForkAt group a e p j r → i ≡ j
  fork_place i j r (f, is-i) (g, is-j) =
      let (m, was, held) = held_choice group a e r f.held in
      sym is-i ∙ one_place a e r.slot m was r.choice held.choice p p f.slot g.slot f.takes g.takes ∙ is-j

  ripe_place : (i j : ℕ) (x : Line G) → RipeAt group a e p i x → RipeAt group a e p j x → i ≡ j
  ripe_place i j x (f, is-i) (g, is-j) =
      let (m, was, is, rec) = ripe_choice group a e x.slot x.choice f.loading f.loaded f.recognised in
      sym is-i ∙ one_place a e x.slot m was x.choice rec.choice p p f.slot g.slot f.takes g.takes ∙ is-j

  within_it : {k : List ℕ} (t : Takes a e p k) → (0 ≤ t.place) × (t.place < 0 + width l)
  within_it t = (omega arith, omega (arith, subst (λ m. t.place < width m) (same_loading t.loaded loaded) t.within))

  -- all that a row makes, from each variable
  pub places_fork : {forks : List Row} → Each (λ j rs. Exactly (ForkAt group a e p j) rs) (range_with_len 0 (width l)) forks → Exactly (ForkOf group a e p) forks
  places_fork = each_from (ForkAt group a e p) fork_place _ (ForkOf group a e p) (λ r. ((λ (j, q, (f, is)). f), λ f. (f.takes.place, within_it f.takes, (f, refl)))) (exactly_counting 0 (width l))

  pub places_ripe : {ripe : List (Line G)} → Each (λ j xs. Exactly (RipeAt group a e p j) xs) (range_with_len 0 (width l)) ripe → Exactly (RipeOf group a e p) ripe
  places_ripe = each_from (RipeAt group a e p) ripe_place _ (RipeOf group a e p) (λ x. ((λ (j, q, (f, is)). f), λ f. (f.takes.place, within_it f.takes, (f, refl)))) (exactly_counting 0 (width l))

  module _ (j : ℕ) where
    -- the choice with the event at variable j, and the line that tells of it
    abbrev pub placed : List ℕ
    placed = set p.choice j (event_count a + 1)

    abbrev pub ripe_line : Line G
    ripe_line = record { letter = R; slot = p.slot; choice = placed; stamp = e.stamp }

    -- the variable is open and of the event's type
    abbrev pub Fits : Type 0
    Fits = (at p.choice j ≡ 0) × (e.name ≡ get_or l.chronicle.types j [])

    abbrev takes_there : j < width l → Fits → Takes a e p placed
    takes_there q (free, typed) = record { loading = l; loaded = loaded; place = j; within = q; free = free; typed = typed; made = refl }

    fits : {k : List ℕ} (t : Takes a e p k) → t.place ≡ j → Fits × (k ≡ placed)
    fits t is = (
      (ap (at p.choice) (sym is) ∙ t.free, t.typed ∙ ap (λ m. get_or m.chronicle.types t.place []) (same_loading t.loaded loaded) ∙ ap (λ i. get_or l.chronicle.types i []) is),
      t.made ∙ ap (λ i. set p.choice i (event_count a + 1)) is,
    )

    -- a row that is held, or none
    one_fork : (r : Row) → ForkAt group a e p j r → row p.slot placed ≡ r
    one_fork r (f, is) = λ i. row (sym f.slot i) (sym (fits f.takes is).1 i)

    pub fork_there : j < width l → Fits → Held group (event e [] ∷ a) p.slot placed → Exactly (ForkAt group a e p j) (row p.slot placed ∷ [])
    fork_there q fit held = exactly_one (ForkAt group a e p j) (row p.slot placed) (record { slot = refl; takes = takes_there q fit; held = held }, refl) one_fork

    pub no_fork : (Fits → Held group (event e [] ∷ a) p.slot placed → ⊥) → Exactly (ForkAt group a e p j) []
    no_fork none = exactly_none (ForkAt group a e p j) (λ r (f, is). none (fits f.takes is).0 (subst (λ q. Held group (event e [] ∷ a) q.slot q.choice) (sym (one_fork r (f, is))) f.held))

    -- a line of a recognition, or none
    one_ripe : (x : Line G) → RipeAt group a e p j x → ripe_line ≡ x
    one_ripe x (f, is) = λ i. record { letter = sym f.letter i; slot = sym f.slot i; choice = sym (fits f.takes is).1 i; stamp = sym f.stamp i }

    pub ripe_there : j < width l → Fits → Recognised group (grown a e l) placed → Exactly (RipeAt group a e p j) (ripe_line ∷ [])
    ripe_there q fit rec = exactly_one (RipeAt group a e p j) ripe_line
        (record { letter = refl; slot = refl; takes = takes_there q fit; loading = grown a e l; loaded = loaded_on a e p.slot l loaded; recognised = rec; stamp = refl }, refl) one_ripe

    pub no_ripe : (Fits → Recognised group (grown a e l) placed → ⊥) → Exactly (RipeAt group a e p j) []
    no_ripe none = exactly_none (RipeAt group a e p j) (λ x (f, is).
        let same = same_loading f.loaded (subst (λ s. loading_of s (event e [] ∷ a) ≡ Some (grown a e l)) (sym f.slot) (loaded_on a e p.slot l loaded)) in
        none (fits f.takes is).0 (subst (Recognised group (grown a e l)) (fits f.takes is).1 (subst (λ m. Recognised group m x.choice) same f.recognised)))

-- with the event at a variable of its type, a choice is one of the loading after it
module _ {G : Type 0} (a : List (Act G)) (e : Event G) (s : ℕ) (l : Loading G) (loaded : loading_of s a ≡ Some l) (k : List ℕ) (choice : Choice l k) (j : ℕ) (q : j < width l) (typed : e.name ≡ get_or l.chronicle.types j []) where
  abbrev put : List ℕ
  put = set k j (event_count a + 1)

  here : at put j ≡ event_count a + 1
  here = get_or-set_same k j (event_count a + 1) 0 (omega (arith, choice.wide))

  there : (i : ℕ) → (i ≡ j → ⊥) → at put i ≡ at k i
  there i ne = get_or-set_other k j i (event_count a + 1) 0 ne

  old : (i : ℕ) → i < width l → at k i ≤ event_count a
  old = old_of a e s l loaded k choice

  filled_with : (i : ℕ) → i < width l → (at put i ≡ 0 → ⊥) → (x : Seen G) × Fills (grown a e l) put i x
  filled_with i p nz = ⊎_elim
      (λ is. (new a e, record { among = inl refl; number = sym (ap (at put) is ∙ here); typed = typed ∙ ap (λ m. get_or l.chronicle.types m []) (sym is) }))
      (λ ne. let (x, f) = choice.filled i p (λ z. nz (there i ne ∙ z)) in (x, record { among = inr f.among; number = f.number ∙ sym (there i ne); typed = f.typed }))
      (cases_eq i j)

  distinct_with : (i m : ℕ) → i < width l → m < width l → (at put i ≡ 0 → ⊥) → at put i ≡ at put m → i ≡ m
  distinct_with i m p r nz same = elim (cases_eq i j) [
    | inl is ↦ elim (cases_eq m j) [
      | inl it ↦ is ∙ sym it
      | inr ne ↦ absurd (omega (arith, old m r, sym (there m ne) ∙ sym same ∙ ap (at put) is ∙ here))
    ]
    | inr ne ↦ elim (cases_eq m j) [
      | inl it ↦ absurd (omega (arith, old i p, sym (there i ne) ∙ same ∙ ap (at put) it ∙ here))
      | inr no' ↦ choice.distinct i m p r (λ z. nz (there i ne ∙ z)) (sym (there i ne) ∙ same ∙ there m no')
    ]
  ]

  pub placed_choice : Choice (grown a e l) put
  placed_choice = record { wide = length-set k j (event_count a + 1) ∙ choice.wide; filled = filled_with; distinct = distinct_with }

  -- its stamps are those before, and the event's
  pub placed_agrees : (stamp : ℕ → G) → Agrees l k stamp → Agrees (grown a e l) put (λ i. cond (eqb i j) e.stamp (stamp i))
  placed_agrees stamp agrees i x p nz f = ⊎_elim
      (λ is. cond-true (eqb i j) _ _ (eq-eqb i j is) ∙ sym (ap (λ y. y.seen.stamp) (fills_new a e s l loaded put placed_choice i x (ap (at put) is ∙ here) f)))
      (λ ne. cond-false (eqb i j) _ _ (ne_eqb i j ne) ∙ agrees i x p (λ z. nz (there i ne ∙ z)) (record { among = same_old a e l x f.among (omega (arith, f.number, there i ne, old i p)); number = f.number ∙ there i ne; typed = f.typed }))
      (cases_eq i j)

-- nothing filled is a choice
pub blank_choice : {G : Type 0} (l : Loading G) → Choice l (replicate (width l) 0)
blank_choice l = record {
  wide = length-replicate (width l) 0;
  filled = λ i p nz. absurd (nz (get_or-replicate (width l) i 0 0 p));
  distinct = λ i j p q nz e. absurd (nz (get_or-replicate (width l) i 0 0 p));
}

pub blank_agrees : {G : Type 0} (l : Loading G) (stamp : ℕ → G) → Agrees l (replicate (width l) 0) stamp
blank_agrees l stamp i e p nz f = absurd (nz (get_or-replicate (width l) i 0 0 p))
