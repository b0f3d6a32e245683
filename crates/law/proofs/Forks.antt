-- Why rows and recognitions with a new event come from those before it.
use Rattle.std.proofs.Common.{◌≡◌, ℕ, ◌+◌, ◌<◌, true, ◌⊎◌, List, ◌∷◌, Some, None, Option, sym, ap, ◌∙◌, subst, inl, inr, ⊎_elim, arith}
use Rattle.std.proofs.lemmas.List.{length-set, get_or-set_same, get_or-set_other}
use Rattle.std.proofs.lemmas.Bool.{cases_eq}
use Rattle.kinds.specs.Ordered.{Ordered}
use Rattle.law.specs.Forks.{left_out, Blank, ComesFromBefore}
use Rattle.law.specs.Histories.{Seen, Loading}
use Rattle.law.specs.Holding.{at, width, Fills, Choice, Agrees, NotBefore, HeldIn}
use Rattle.law.specs.Schedules.{Meets}
use Rattle.law.proofs.Growing.{loading_with}
use Rattle.law.proofs.Numbers.{Numbered}
use Rattle.law.proofs.Searches.{one_or_all}

-- something is filled, or nothing
filled_or_blank : (k : List ℕ) (n : ℕ) → ((i : ℕ) × (i < n) × (at k i ≡ 0 → ⊥)) ⊎ ((i : ℕ) → i < n → at k i ≡ 0)
filled_or_blank k n = one_or_all (λ i. at k i ≡ 0 → ⊥) (λ i. at k i ≡ 0) (λ i. ⊎_elim inr inl (cases_eq (at k i) 0)) n

module _ {G : Type 0} (group : Ordered G) (l : Loading G) (now : Option G) (new : Seen G) (n : ℕ) (num : Numbered n l.since) (next : new.number ≡ n + 1) (later : NotBefore group now new.seen.stamp) where
  abbrev after : Loading G
  after = loading_with l.chronicle (new ∷ l.since)

  module _ (k : List ℕ) (i : ℕ) (p : i < width l) (here : at k i ≡ new.number) (choice : Choice after k) where
    gap : at (left_out k i) i ≡ 0
    gap = get_or-set_same k i 0 0 (omega (arith, choice.wide))

    elsewhere : (j : ℕ) → (j ≡ i → ⊥) → at (left_out k i) j ≡ at k j
    elsewhere j ne = get_or-set_other k i j 0 0 ne

    -- a variable that is filled after leaving the event out is another one
    other : (j : ℕ) → (at (left_out k i) j ≡ 0 → ⊥) → j ≡ i → ⊥
    other j nz e = nz (ap (at (left_out k i)) e ∙ gap)

    fills_left : (j : ℕ) → j < width l → (at (left_out k i) j ≡ 0 → ⊥) → (e : Seen G) → Fills after k j e → Fills l (left_out k i) j e
    fills_left j q nz e f = record { among = ⊎_elim (λ s. absurd (other j nz (choice.distinct j i q p (λ z. nz (elsewhere j (other j nz) ∙ z)) (sym f.number ∙ ap (λ x. x.number) (sym s) ∙ sym here)))) (λ m. m) f.among; number = f.number ∙ sym (elsewhere j (other j nz)); typed = f.typed }

    left_choice : Choice l (left_out k i)
    left_choice = record {
      wide = length-set k i 0 ∙ choice.wide;
      filled = λ j q nz. let (e, f) = choice.filled j q (λ z. nz (elsewhere j (other j nz) ∙ z)) in (e, fills_left j q nz e f);
      distinct = λ j m q r nz e. choice.distinct j m q r (λ z. nz (elsewhere j (other j nz) ∙ z)) (sym (elsewhere j (other j nz)) ∙ e ∙ elsewhere m (λ s. nz (e ∙ ap (at (left_out k i)) s ∙ gap)));
    }

    left_agrees : (stamp : ℕ → G) → Agrees after k stamp → Agrees l (left_out k i) stamp
    left_agrees stamp a j e q nz f =
        a j e q (λ z. nz (elsewhere j (other j nz) ∙ z)) (record { among = inr f.among; number = f.number ∙ elsewhere j (other j nz); typed = f.typed })

    not_before : (x : G) → group.leq new.seen.stamp x ≡ true → NotBefore group now x
    not_before x h = go now later
      where
        go : (t : Option G) → NotBefore group t new.seen.stamp → NotBefore group t x
        go None a = tt
        go (Some t) a = group.leq_trans t new.seen.stamp x a h

    -- stamps that meet every bound, those open none before the event
    from_stamps : (stamp : ℕ → G) → Agrees after k stamp → ((j : ℕ) → j < width l → at k j ≡ 0 → group.leq new.seen.stamp (stamp j) ≡ true) → Meets group l.chronicle.limits stamp →
        Blank l (left_out k i) ⊎ HeldIn group l now (left_out k i)
    from_stamps stamp agrees Open-after meets = ⊎_elim
        (λ some. inr (record {
          choice = left_choice;
          some_filled = some;
          some_open = (i, p, gap);
          stamps = stamp;
          agrees = left_agrees stamp agrees;
          after = λ j q z. not_before (stamp j) (⊎_elim (λ e. own j e) (λ ne. Open-after j q (sym (elsewhere j ne) ∙ z)) (cases_eq j i));
          meets = meets;
        }))
        inl (filled_or_blank (left_out k i) (width l))
      where
        own : (j : ℕ) → j ≡ i → group.leq new.seen.stamp (stamp j) ≡ true
        own j e =
            let nz : at k i ≡ 0 → ⊥ = λ z. omega arith in
            let (x, f) = choice.filled i p nz in
            let is-new : x ≡ new = ⊎_elim sym (λ m. absurd (omega (arith, f.number, num.most x m))) f.among in
            subst (λ y. group.leq new.seen.stamp y ≡ true) (sym (ap stamp e ∙ agrees i x p nz f ∙ ap (λ y. y.seen.stamp) is-new)) (group.leq_refl new.seen.stamp)

  pub comes_from_before : ComesFromBefore group l now new
  comes_from_before = record {
    held = λ k i p here h. from_stamps k i p here h.choice h.stamps h.agrees h.after h.meets;
    recognised = λ k i p here r. from_stamps k i p here r.choice r.stamps r.agrees (λ j q z. absurd (r.full j q z)) r.meets;
  }
