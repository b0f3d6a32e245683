-- From what the loops of an event or clock call build to what the call owes, and when it fits.
use Rattle.std.proofs.Common.{◌≡◌, ℕ, ◌<◌, ◌≤◌, List, [], ◌∷◌, ◌++◌, length, sym, refl, ap, ◌∙◌, subst, arith}
use lib.ListN.{get_or-replicate}
use Rattle.std.specs.List.{range_with_len}
use Rattle.kinds.specs.Ordered.{Ordered}
use Rattle.kinds.specs.declared.kind.Kind.{Ghosts as Meaning}
use Rattle.logs.specs.Events.{Event}
use Rattle.law.specs.Bags.{Exactly}
use Rattle.law.specs.Each.{Each}
use Rattle.law.specs.Histories.{Letter, R, D, Line, Act, event, clock, now_of}
use Rattle.law.specs.Holding.{at, width, NotBefore}
use Rattle.law.specs.Refusals.{Lent, capacity, RowsShort, LinesShort}
use Rattle.law.specs.Steps.{SmallSlots, Begins, Stays, Buried, Parent, ForkOf, RipeOf}
use Rattle.law.specs.Telling.{Row, Reads, CallLineAs, CallLine, Owes}
use Rattle.law.proofs.Counting.{exactly_as, exactly_length}
use Rattle.law.proofs.Each.{each_from, exactly_counting}
use Rattle.law.proofs.Ends.{call_lines, kept_stay, dead_lines, clock_reads, clock_lines}
use Rattle.law.proofs.Events.{forks_are_new, ripe_are_recognised, event_reads}
use Rattle.law.proofs.Sets.{exactly_append}
use Rattle.law.proofs.Ticks.{same_loading}

module _ {G : Type 0} (group : Ordered G) (a : List (Act G)) where
  -- what a call should tell does not hang on what it tells
  event_line : (e : Event G) (told said : List (Line G)) (s : ℕ) (k : List ℕ) (x : G) (letter : Letter) → CallLineAs group a (event e told) s k x letter → CallLineAs group a (event e said) s k x letter
  event_line e told said s k x R line = line
  event_line e told said s k x D line = line

  clock_line : (t : G) (told said : List (Line G)) (s : ℕ) (k : List ℕ) (x : G) (letter : Letter) → CallLineAs group a (clock t told) s k x letter → CallLineAs group a (clock t said) s k x letter
  clock_line t told said s k x R line = line
  clock_line t told said s k x D line = line

  pub event_owes : (e : Event G) (told : List (Line G)) → NotBefore group (now_of a) e.stamp → Exactly (CallLine group a (event e [])) told → Owes group a (event e told)
  event_owes e told later lines = (later, exactly_as _ _ told (λ x. (event_line e [] told x.slot x.choice x.stamp x.letter, event_line e told [] x.slot x.choice x.stamp x.letter)) lines)

  pub clock_owes : (t : G) (told : List (Line G)) → NotBefore group (now_of a) t → Exactly (CallLine group a (clock t [])) told → Owes group a (clock t told)
  clock_owes t told later lines = (later, exactly_as _ _ told (λ x. (clock_line t [] told x.slot x.choice x.stamp x.letter, clock_line t told [] x.slot x.choice x.stamp x.letter)) lines)

  -- a loop over the slots finds where a row can begin
  pub slots_begin : {begins : List Row} → SmallSlots a → Each (λ s rs. Exactly (λ r. (r.slot ≡ s) × Begins a r) rs) (range_with_len 1 8) begins → Exactly (Begins a) begins
  slots_begin small = each_from (λ s r. (r.slot ≡ s) × Begins a r) (λ s t r (p, b) (q, c). sym p ∙ q) _ (Begins a)
      (λ r. ((λ (s, m, (p, b)). b), λ b. let (low, high) = small r.slot b.0 b.1 in (r.slot, (low, omega arith), (refl, b)))) (exactly_counting 1 8)

  -- a row that is held has something filled
  stays_not_begins : (act : Act G) (r : Row) → Stays group a act r → Begins a r → ⊥
  stays_not_begins act r ((l, loaded, held), after) (m, loaded', blank) =
      let (i, p, nz) = held.some_filled in
      nz (ap (λ k. at k i) blank ∙ get_or-replicate (width m) i 0 0 (subst (λ l. i < width l) (same_loading loaded loaded') p))

  pub parents_are : (e : Event G) {kept begins : List Row} → Exactly (Stays group a (event e [])) kept → Exactly (Begins a) begins → Exactly (Parent group a e) (kept ++ begins)
  parents_are e {kept} {begins} ks bs = exactly_append _ (Begins a) _ kept begins ks bs (stays_not_begins (event e [])) (λ r. ((λ p. p), λ p. p))

  -- the rows go through the event, which those that stay and begin take
  pub event_done : (e : Event G) → NotBefore group (now_of a) e.stamp → {rows kept begins forks : List Row} {dead ripe : List (Line G)} → Reads group a rows → Buried group a (event e []) rows kept dead → Exactly (Begins a) begins →
      Each (λ p rs. Exactly (ForkOf group a e p) rs) (kept ++ begins) forks → Each (λ p xs. Exactly (RipeOf group a e p) xs) (kept ++ begins) ripe →
      Reads group (event e (dead ++ ripe) ∷ a) (kept ++ forks) × Owes group a (event e (dead ++ ripe))
  event_done e later {kept = kept} {forks = forks} {dead} {ripe} reads buried bs fs xs =
      let ks = kept_stay group a (event e []) reads buried in
      let ps = parents_are e ks bs in (
        event_reads group a e later (dead ++ ripe) kept forks ks (forks_are_new group a e later ps fs),
        event_owes e (dead ++ ripe) later (call_lines group a (event e []) dead ripe (dead_lines group a (event e []) reads buried) (ripe_are_recognised group a e later [] ps xs)),
      )

  -- the rows go through a clock call
  pub clock_done : (t : G) → NotBefore group (now_of a) t → {rows kept : List Row} {dead : List (Line G)} → Reads group a rows → Buried group a (clock t []) rows kept dead → Reads group (clock t dead ∷ a) kept × Owes group a (clock t dead)
  clock_done t later {kept = kept} {dead} reads buried =
      (clock_reads group a t dead later kept (kept_stay group a (clock t []) reads buried), clock_owes t dead later (clock_lines group a t [] dead (dead_lines group a (clock t []) reads buried)))

-- what fits in one list fits in every one
module _ {K : Type 0} (kind : Meaning K) (lent : Lent) (a : List (Act kind.G)) where
  pub rows_fit : (e : Event kind.G) (rows : List Row) → Reads kind.group (event e [] ∷ a) rows → length rows ≤ capacity lent → RowsShort kind lent a e → ⊥
  rows_fit e rows reads fit (others, read, over) = omega (arith, exactly_length _ rows others reads read)

  pub lines_fit : (act : Act kind.G) (room : ℕ) (lines : List (Line kind.G)) → Exactly (CallLine kind.group a act) lines → length lines ≤ room → LinesShort kind lent a act room → ⊥
  lines_fit act room lines each fit (others, told, over) = omega (arith, exactly_length _ lines others each told)
