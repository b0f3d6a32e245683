-- What the top of a queue says of the rows whose deadlines it holds.
use Rattle.std.proofs.Common.{◌≡◌, ℕ, zero, suc, Bool, true, false, not, List, [], ◌∷◌, map, Some, None, Option, sym, refl, ap, ◌∙◌, subst, arith}
use Rattle.std.specs.List.{ContainsAt as Has, AllByRecursion as All}
use Rattle.std.proofs.ByRecursion.{All-weaker, all_shuffled, has_shuffled}
use Rattle.std.proofs.lemmas.List.Sorted.{IsPermutation-sym}
use Rattle.kinds.specs.declared.bound.Bound.{Bound}
use Rattle.kinds.specs.declared.bound.Bound.TheVariants.{At, NoBound}
use Rattle.kinds.specs.declared.kind.Kind.{Ghosts as Meaning}
use Rattle.kinds.specs.Bounds.{at_most, meant}
use Rattle.kinds.specs.Ordered.{Ordered}
use Rattle.forks.specs.declared.row.Row.{Row}
use Rattle.queue.specs.declared.heap.Heap.{Heap}
use Rattle.queue.specs.Heaps.{Leads}
use Rattle.queue.specs.Held.{held}
use Rattle.deadlines.specs.declared.due.Due.{Due}
use Rattle.deadlines.specs.Ranking.{meaning, no_later, bounds_rank}
use Rattle.deadlines.specs.Queues.{due_of, deadline, QueueHolds, NoneBefore, Next, Top, AnyBefore}

module _ {X Y : Type 0} (f : X → Y) where
  all_unmapped : (P : Y → Type 0) (xs : List X) → All P (map f xs) → All (λ x. P (f x)) xs
  all_unmapped P [] all = tt
  all_unmapped P (x ∷ xs) (here, rest) = (here, all_unmapped P xs rest)

  has_unmapped : (xs : List X) (y : Y) → Has (map f xs) y → (x : X) × Has xs x × (f x ≡ y)
  has_unmapped [] y (k, inside, is) = absurd (omega arith)
  has_unmapped (x ∷ xs) y (zero, inside, is) = (x, (0, omega arith, λ d. refl), is y)
  has_unmapped (x ∷ xs) y (suc k, inside, is) =
      let rest = has_unmapped xs y (k, omega arith, is) in
      (rest.0, (suc rest.1.0, let h = rest.1.1 in omega arith, rest.1.2), rest.2)

module _ {G : Type 0} (group : Ordered G) where
  -- only 'no bound' lies above it
  above_all : (b : Bound G) → at_most group NoBound b ≡ true → b ≡ NoBound
  above_all (At x) h = let z : ◌≡◌ {A = ℕ} 0 1 = cc in absurd (omega arith)
  above_all NoBound h = refl

  below_none : (b : Bound G) → at_most group b NoBound ≡ true
  below_none (At x) = refl
  below_none NoBound = refl

module _ {K : Type 0} (kind : Meaning K) (rs : List (Row K)) where
  module _ (q : Heap (Due K)) (holds : QueueHolds kind rs q) where
    of_rows : (P : Due K → Type 0) → All P (held q) → All (λ r. P (due_of r)) rs
    of_rows P all = all_unmapped due_of P rs (all_shuffled P (held q) (map due_of rs) (IsPermutation-sym (map due_of rs) (held q) holds.bag) all)

    of_a_row : (d : Due K) → Has (held q) d → (r : Row K) × Has rs r × (due_of r ≡ d)
    of_a_row d has = has_unmapped due_of rs d (has_shuffled (held q) (map due_of rs) d (IsPermutation-sym (map due_of rs) (held q) holds.bag) has)

    -- d leads the queue, and means b
    module _ (d : Due K) (leads : Leads (no_later kind) (held q) (Some d)) (b : Bound kind.G) (means : meaning kind d ≡ b) where
      none_before : NoneBefore kind b rs
      none_before = of_rows (λ e. at_most kind.group b (meaning kind e) ≡ true) (subst (λ x. All (λ e. at_most kind.group x (meaning kind e) ≡ true) (held q)) means leads.1)

      a_row : (r : Row K) × Has rs r × (deadline kind r ≡ b)
      a_row = let r = of_a_row d leads.0 in (r.0, r.1, ap (meaning kind) r.2 ∙ means)

    pub top_says : (top : Option (Due K)) → Leads (no_later kind) (held q) top → Top kind rs top
    unfolding Next
    top_says None is = of_rows (λ e. meaning kind e ≡ NoBound) (subst (All (λ e. meaning kind e ≡ NoBound)) (sym is) tt)
    top_says (Some d) leads = (
      λ is. All-weaker _ _ (λ r. above_all kind.group (deadline kind r)) rs (none_before d leads NoBound (ap (meant kind.value) is)),
      λ k is. (a_row d leads (At (kind.value k)) (ap (meant kind.value) is), none_before d leads (At (kind.value k)) (ap (meant kind.value) is)),
    )

  pub none_at_all : Next kind rs None → (b : Bound kind.G) → AnyBefore kind b rs false
  unfolding Next
  none_at_all none b = All-weaker _ _ (λ r h. ap (at_most kind.group b) h ∙ below_none kind.group b) rs none

  pub by_the_smallest : (m k : K) (r : Bool) → r ≡ not (kind.group.leq (kind.value m) (kind.value k)) → Next kind rs (Some k) → AnyBefore kind (At (kind.value m)) rs r
  unfolding Next
  by_the_smallest m k r is next = subst (AnyBefore kind (At (kind.value m)) rs) (sym is) (told (kind.group.leq (kind.value m) (kind.value k)) refl)
    where
      told : (t : Bool) → kind.group.leq (kind.value m) (kind.value k) ≡ t → AnyBefore kind (At (kind.value m)) rs (not t)
      told true no_later = All-weaker _ _ (λ r h. (bounds_rank kind.group).chain (At (kind.value m)) (At (kind.value k)) (deadline kind r) no_later h) rs next.1
      told false later = let r = next.0 in (r.0, r.1, ap (at_most kind.group (At (kind.value m))) r.2 ∙ later)
