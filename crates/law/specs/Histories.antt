-- What happened to a watch: the accepted calls, the latest first, each with the lines that it told.
use Rattle.std.specs.Prelude.{ℕ, ◌+◌, cond, List, [], ◌∷◌, Some, None, Option, ◌==◌}
use Rattle.definitions.specs.Chronicles.{Chronicle}
use Rattle.logs.specs.Events.{Event}

-- a line tells that a chronicle was recognised, or that a row can no longer be completed
pub data Letter : Type 0 where
  R : Letter
  D : Letter

pub record Line (G : Type 0) : Type 0 where
  pub letter : Letter
  pub slot : ℕ
  pub choice : List ℕ
  pub stamp : G

pub data Act (G : Type 0) : Type 0 where
  load : ℕ → Chronicle G → Act G
  withdraw : ℕ → Act G
  event : Event G → List (Line G) → Act G
  clock : G → List (Line G) → Act G

-- an accepted event with its number, from 1
pub record Seen (G : Type 0) : Type 0 where
  pub number : ℕ
  pub seen : Event G

-- a chronicle that is loaded, and the events accepted since
pub record Loading (G : Type 0) : Type 0 where
  pub chronicle : Chronicle G
  pub since : List (Seen G)

module _ {G : Type 0} where
  -- the stamp of the last event or clock call
  abbrev pub now_of : List (Act G) → Option G
  now_of [] = None
  now_of (load s c ∷ h) = now_of h
  now_of (withdraw s ∷ h) = now_of h
  now_of (event e told ∷ h) = Some e.stamp
  now_of (clock t told ∷ h) = Some t

  abbrev pub event_count : List (Act G) → ℕ
  event_count [] = 0
  event_count (load s c ∷ h) = event_count h
  event_count (withdraw s ∷ h) = event_count h
  event_count (event e told ∷ h) = event_count h + 1
  event_count (clock t told ∷ h) = event_count h

  abbrev pub joined : Option (Loading G) → Seen G → Option (Loading G)
  joined None e = None
  joined (Some l) e = Some (record { chronicle = l.chronicle; since = e ∷ l.since })

  -- the loading of a slot: from its load to its withdrawal
  abbrev pub loading_of : ℕ → List (Act G) → Option (Loading G)
  loading_of s [] = None
  loading_of s (load t c ∷ h) = cond (t == s) (Some (record { chronicle = c; since = [] })) (loading_of s h)
  loading_of s (withdraw t ∷ h) = cond (t == s) None (loading_of s h)
  loading_of s (event e told ∷ h) = joined (loading_of s h) (record { number = event_count h + 1; seen = e })
  loading_of s (clock t told ∷ h) = loading_of s h
