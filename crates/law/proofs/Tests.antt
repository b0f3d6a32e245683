-- Why the tests on closed bounds decide.
use Rattle.std.proofs.Common.{◌≡◌, ℕ, ◌<◌, true, false, eqb, List, sym, ◌∙◌}
use Rattle.std.proofs.lemmas.Bool.{eq-eqb, ne_eqb, eqb-true, eqb-false, not-true, not-false, not_from_true, not_from_false}
use Rattle.kinds.specs.Ordered.{Ordered}
use Rattle.kinds.specs.declared.bound.Bound.{Bound}
use Rattle.law.specs.Histories.{Loading}
use Rattle.law.specs.Holding.{at, width, Choice, Agrees}
use Rattle.law.specs.Tests.{is_filled, ClosedBy, TestsDecide}
use Rattle.law.proofs.Extension.{completes_passes, passes_completes}

pub filled_is : (k : List ℕ) (i : ℕ) → (at k i ≡ 0 → ⊥) → is_filled k i ≡ true
filled_is k i nz = not_from_false (eqb (at k i) 0) (ne_eqb (at k i) 0 nz)

pub open_is : (k : List ℕ) (i : ℕ) → at k i ≡ 0 → is_filled k i ≡ false
open_is k i z = not_from_true (eqb (at k i) 0) (eq-eqb (at k i) 0 z)

pub is_filled_lem : (k : List ℕ) (i : ℕ) → is_filled k i ≡ true → at k i ≡ 0 → ⊥
is_filled_lem k i e = eqb-false (at k i) 0 (not-true (eqb (at k i) 0) e)

pub is_open : (k : List ℕ) (i : ℕ) → is_filled k i ≡ false → at k i ≡ 0
is_open k i e = eqb-true (at k i) 0 (not-false (eqb (at k i) 0) e)

module _ {G : Type 0} (group : Ordered G) (l : Loading G) (k : List ℕ) (choice : Choice l k) (closed : ℕ → ℕ → Bound G) (by : ClosedBy group l.chronicle closed (width l)) (stamp : ℕ → G) (agrees : Agrees l k stamp) (now : G) where
  -- two ways to give the filled variables their events' stamps are one
  same_stamps : (all : ℕ → G) → Agrees l k all → (i : ℕ) → i < width l → is_filled k i ≡ true → all i ≡ stamp i
  same_stamps all a i p f = let (e, fills) = choice.filled i p (is_filled_lem k i f) in a i e p (is_filled_lem k i f) fills ∙ sym (agrees i e p (is_filled_lem k i f) fills)

  pub tests_decide : TestsDecide group l k closed stamp now
  tests_decide = record {
    held = λ some_filled some_open. (
      (λ h. completes_passes group l.chronicle.limits (width l) by.within closed by.each by.consistent (is_filled k) stamp now
          (h.stamps, record { same = same_stamps h.stamps h.agrees; after = λ i p o. h.after i p (is_open k i o); meets = h.meets })),
      (λ passes. let (all, done) = passes_completes group l.chronicle.limits (width l) by.within closed by.each by.consistent (is_filled k) stamp now passes in
          record {
            choice = choice;
            some_filled = some_filled;
            some_open = some_open;
            stamps = all;
            agrees = λ i e p nz fills. done.same i p (filled_is k i nz) ∙ agrees i e p nz fills;
            after = λ i p z. done.after i p (open_is k i z);
            meets = done.meets;
          }),
    );
    recognised = λ full. (
      (λ r. completes_passes group l.chronicle.limits (width l) by.within closed by.each by.consistent (is_filled k) stamp now
          (r.stamps, record { same = same_stamps r.stamps r.agrees; after = λ i p o. absurd (full i p (is_open k i o)); meets = r.meets })),
      (λ passes. let (all, done) = passes_completes group l.chronicle.limits (width l) by.within closed by.each by.consistent (is_filled k) stamp now passes in
          record { choice = choice; full = full; stamps = all; agrees = λ i e p nz fills. done.same i p (filled_is k i nz) ∙ agrees i e p nz fills; meets = done.meets }),
    );
  }
