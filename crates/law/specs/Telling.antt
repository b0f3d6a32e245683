-- Which lines a watch owes, which it told, and what one accepted call owes.
use Rattle.std.specs.Prelude.{◌≡◌, ℕ, ◌+◌, ◌<◌, ◌≤◌, cond, List, [], ◌∷◌, ◌++◌, length, Some, None, ◌==◌, ◌≢◌}
use Rattle.kinds.specs.Ordered.{Ordered}
use Rattle.kinds.specs.declared.bound.Bound.TheVariants.{At}
use Rattle.law.specs.Bags.{Exactly}
use Rattle.law.specs.Histories.{Letter, R, D, Line, Act, load, withdraw, event, clock, Seen, Loading, now_of, event_count, loading_of}
use Rattle.law.specs.Holding.{at, width, Fills, NotBefore, Held, Recognised, Deadline}

-- a row by its slot and choice
pub record Row : Type 0 where
  pub slot : ℕ
  pub choice : List ℕ

-- the call leaves the loading of a slot as it is, or adds an event to it
abbrev pub Goes : {G : Type 0} → ℕ → Act G → Type 0
Goes s (load t c) = t ≡ s → ⊥
Goes s (withdraw t) = t ≡ s → ⊥
Goes s (event e told) = Unit {0}
Goes s (clock t told) = Unit {0}

abbrev pub of_slot : {G : Type 0} → ℕ → List (Line G) → List (Line G)
of_slot s [] = []
of_slot s (x ∷ xs) = cond (x.slot == s) (x ∷ of_slot s xs) (of_slot s xs)

-- the lines told of the loading of a slot that lasts
abbrev pub told_of : {G : Type 0} → ℕ → List (Act G) → List (Line G)
told_of s [] = []
told_of s (load t c ∷ h) = cond (t == s) [] (told_of s h)
told_of s (withdraw t ∷ h) = cond (t == s) [] (told_of s h)
told_of s (event e told ∷ h) = of_slot s told ++ told_of s h
told_of s (clock t told ∷ h) = of_slot s told ++ told_of s h

-- x is the stamp of the last event of a choice
abbrev pub LastStamp : {G : Type 0} → Loading G → List ℕ → G → Type 0
LastStamp {G} l k x = (i : ℕ) × (e : Seen G) × (i < width l) × (at k i ≢ 0) × Fills l k i e × ((j : ℕ) → j < width l → at k j ≤ at k i) × (x ≡ e.seen.stamp)

-- the row was held at some moment of the loading that lasts
pub data WasHeld {G : Type 0} (group : Ordered G) (s : ℕ) (k : List ℕ) : List (Act G) → Type 0 where
  is : {h : List (Act G)} → Held group h s k → WasHeld group s k h
  was : {a : Act G} {h : List (Act G)} → Goes s a → WasHeld group s k h → WasHeld group s k (a ∷ h)

-- the choice has the event that the call accepts
abbrev pub New : {G : Type 0} → List (Act G) → Act G → List ℕ → Type 0
New h (load s c) k = ⊥
New h (withdraw s) k = ⊥
New h (event e told) k = (i : ℕ) × (i < length k) × (at k i ≡ event_count h + 1)
New h (clock t told) k = ⊥

module _ {G : Type 0} (group : Ordered G) where
  -- the line is owed: a recognition with its last event's stamp, or a row that ceased to be held with its deadline
  abbrev pub OwedAs : List (Act G) → ℕ → Loading G → List ℕ → G → Letter → Type 0
  OwedAs h s l k x R = Recognised group l k × LastStamp l k x
  OwedAs h s l k x D = WasHeld group s k h × (Held group h s k → ⊥) × Deadline group l k (At x)

  abbrev pub Owed : List (Act G) → ℕ → Line G → Type 0
  Owed h s line = (l : Loading G) × (loading_of s h ≡ Some l) × (line.slot ≡ s) × OwedAs h s l line.choice line.stamp line.letter

  -- the rows read are exactly those held
  abbrev pub Reads : List (Act G) → List Row → Type 0
  Reads h rows = Exactly (λ r. Held group h r.slot r.choice) rows

  -- of each loading just the lines that are owed are told, each once
  abbrev pub Tells : List (Act G) → Type 0
  Tells h = (s : ℕ) → Exactly (Owed h s) (told_of s h)

  -- a line of one call: of a row held before it and not after, or of a recognition with the event that it accepts
  abbrev pub CallLineAs : List (Act G) → Act G → ℕ → List ℕ → G → Letter → Type 0
  CallLineAs h a s k x R = (l : Loading G) × (loading_of s (a ∷ h) ≡ Some l) × Recognised group l k × LastStamp l k x × New h a k
  CallLineAs h a s k x D = (l : Loading G) × (loading_of s h ≡ Some l) × Held group h s k × (Held group (a ∷ h) s k → ⊥) × Deadline group l k (At x)

  abbrev pub CallLine : List (Act G) → Act G → Line G → Type 0
  CallLine h a line = CallLineAs h a line.slot line.choice line.stamp line.letter

  -- what an accepted call owes, after the calls h: it fits the slots and now, and tells just its lines
  abbrev pub Owes : List (Act G) → Act G → Type 0
  Owes h (load s c) = (loading_of s h ≡ None) × (0 < length c.types)
  Owes h (withdraw s) = loading_of s h ≡ None → ⊥
  Owes h (event e told) = NotBefore group (now_of h) e.stamp × Exactly (CallLine h (event e told)) told
  Owes h (clock t told) = NotBefore group (now_of h) t × Exactly (CallLine h (clock t told)) told

  -- every call owes its due, and at every moment some list has the rows held
  abbrev pub Lawful : List (Act G) → Type 0
  Lawful [] = Unit {0}
  Lawful (a ∷ h) = Owes h a × ((rows : List Row) × Reads h rows) × Lawful h

  -- from what single calls owe follows what is told of every loading
  abbrev pub OwedIsTold : Type 0
  OwedIsTold = (h : List (Act G)) → Lawful h → Tells h
