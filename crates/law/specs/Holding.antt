-- Choices of a loading, rows that are held, recognitions and deadlines.
use Rattle.std.specs.Prelude.{◌≡◌, ℕ, ◌<◌, true, List, [], length, Some, None, Option, ◌≢◌, slice_index, slice_index_or}
use Rattle.kinds.specs.Ordered.{Ordered}
use Rattle.kinds.specs.declared.bound.Bound.{Bound}
use Rattle.network.specs.Chains.{Chain}
use Rattle.definitions.specs.Chronicles.{Given}
use Rattle.kinds.specs.Bounds.{Smallest}
use Rattle.law.specs.Bags.{◌∈◌}
use Rattle.law.specs.Histories.{Act, Seen, Loading, now_of, loading_of}
use Rattle.law.specs.Schedules.{Meets}

-- variable i of a choice, an event's number or 0 where it is open; variables count from 0 here
abbrev pub at : List ℕ → ℕ → ℕ
at k i = slice_index k i

module _ {G : Type 0} where
  abbrev pub width : Loading G → ℕ
  width l = length l.chronicle.types

  -- event e fills variable i
  pub record Fills (l : Loading G) (k : List ℕ) (i : ℕ) (e : Seen G) : Type 0 where
    pub among : e ∈ l.since
    pub number : e.number ≡ at k i
    pub typed : e.seen.name ≡ slice_index_or l.chronicle.types i []

  -- each filled variable has an event of its type, accepted during the loading, and no event twice
  pub record Choice (l : Loading G) (k : List ℕ) : Type 0 where
    pub wide : length k ≡ width l
    pub filled : (i : ℕ) → i < width l → (at k i ≢ 0) → (e : Seen G) × Fills l k i e
    pub distinct : (i j : ℕ) → i < width l → j < width l → (at k i ≢ 0) → at k i ≡ at k j → i ≡ j

  -- the stamps of the events where variables are filled
  abbrev pub Agrees : Loading G → List ℕ → (ℕ → G) → Type 0
  Agrees l k stamp = (i : ℕ) (e : Seen G) → i < width l → (at k i ≢ 0) → Fills l k i e → stamp i ≡ e.seen.stamp

module _ {G : Type 0} (group : Ordered G) where
  abbrev pub NotBefore : Option G → G → Type 0
  NotBefore None x = Unit {0}
  NotBefore (Some t) x = group.leq t x ≡ true

  -- a row, a choice with something filled and something open, that can still be completed, none of the open variables before now
  pub record HeldIn (l : Loading G) (now : Option G) (k : List ℕ) : Type 0 where
    pub choice : Choice l k
    pub some_filled : (i : ℕ) × (i < width l) × (at k i ≢ 0)
    pub some_open : (i : ℕ) × (i < width l) × (at k i ≡ 0)
    pub stamps : ℕ → G
    pub agrees : Agrees l k stamps
    pub after : (i : ℕ) → i < width l → at k i ≡ 0 → NotBefore now (stamps i)
    pub meets : Meets group l.chronicle.limits stamps

  abbrev pub Held : List (Act G) → ℕ → List ℕ → Type 0
  Held h s k = (l : Loading G) × (loading_of s h ≡ Some l) × HeldIn l (now_of h) k

  -- a choice with nothing open that meets every bound
  pub record Recognised (l : Loading G) (k : List ℕ) : Type 0 where
    pub choice : Choice l k
    pub full : (i : ℕ) → i < width l → at k i ≢ 0
    pub stamps : ℕ → G
    pub agrees : Agrees l k stamps
    pub meets : Meets group l.chronicle.limits stamps

  -- a stamp that some open variable can have at most: that of a filled one plus the sum of a chain to it
  abbrev pub Latest : Loading G → List ℕ → ℕ → G → Type 0
  Latest l k j x = (i : ℕ) × (e : Seen G) × (s : G) × (i < width l) × (at k i ≢ 0) × Fills l k i e × Chain group (Given l.chronicle.limits) i j s × (x ≡ group.plus e.seen.stamp s)

  -- the deadline of a row: the smallest latest stamp of its open variables, or none
  abbrev pub Deadline : Loading G → List ℕ → Bound G → Type 0
  Deadline l k b = Smallest group (λ x. (j : ℕ) × (j < width l) × (at k j ≡ 0) × Latest l k j x) b

  -- holding only shrinks as now grows
  abbrev pub HoldingShrinks : Type 0
  HoldingShrinks = (l : Loading G) (k : List ℕ) (before : Option G) (now : G) → NotBefore before now → HeldIn l (Some now) k → HeldIn l before k
