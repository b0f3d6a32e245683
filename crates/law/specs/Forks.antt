-- Where rows and recognitions with a new event come from.
use Rattle.std.specs.Prelude.{◌≡◌, ℕ, ◌+◌, ◌<◌, ◌⊎◌, List, ◌∷◌, Some, Option, slice_set}
use Rattle.kinds.specs.Ordered.{Ordered}
use Rattle.logs.specs.Events.{Event}
use Rattle.law.specs.Histories.{Act, Seen, Loading, now_of, event_count, loading_of}
use Rattle.law.specs.Holding.{at, width, NotBefore, HeldIn, Recognised}

-- the choice with one variable open again
abbrev pub left_out : List ℕ → ℕ → List ℕ
left_out k i = slice_set k i 0

-- nothing is filled
abbrev pub Blank : {G : Type 0} → Loading G → List ℕ → Type 0
Blank l k = (i : ℕ) → i < width l → at k i ≡ 0

-- what is held or recognised with the new event comes from a row held before it, or from nothing, by leaving the event out
pub record ComesFromBefore {G : Type 0} (group : Ordered G) (l : Loading G) (now : Option G) (new : Seen G) : Type 0 where
  pub held : (k : List ℕ) (i : ℕ) → i < width l → at k i ≡ new.number → HeldIn group (record { chronicle = l.chronicle; since = new ∷ l.since }) (Some new.seen.stamp) k →
      Blank l (left_out k i) ⊎ HeldIn group l now (left_out k i)
  pub recognised : (k : List ℕ) (i : ℕ) → i < width l → at k i ≡ new.number → Recognised group (record { chronicle = l.chronicle; since = new ∷ l.since }) k →
      Blank l (left_out k i) ⊎ HeldIn group l now (left_out k i)

-- for every loading at every moment, and every event that is accepted next
abbrev pub NewRowsFromOld : {G : Type 0} → Ordered G → Type 0
NewRowsFromOld {G} group = (s : ℕ) (h : List (Act G)) (l : Loading G) → loading_of s h ≡ Some l → (e : Event G) → NotBefore group (now_of h) e.stamp →
    ComesFromBefore group l (now_of h) (record { number = event_count h + 1; seen = e })
