-- What clock calls cannot change: the rows and lines after each event.
use Rattle.std.specs.Prelude.{◌≡◌, ℕ, ◌↔◌, List, [], ◌∷◌}
use Rattle.kinds.specs.Ordered.{Ordered}
use Rattle.logs.specs.Events.{Event}
use Rattle.law.specs.Bags.{◌∈◌}
use Rattle.law.specs.Histories.{Line, Act, load, withdraw, event, clock}
use Rattle.law.specs.Holding.{Held}
use Rattle.law.specs.Telling.{told_of, Lawful}

module _ {G : Type 0} where
  -- the accepted calls but for clock calls, and without their lines
  abbrev pub without_clocks : List (Act G) → List (Act G)
  without_clocks [] = []
  without_clocks (load s c ∷ h) = load s c ∷ without_clocks h
  without_clocks (withdraw s ∷ h) = withdraw s ∷ without_clocks h
  without_clocks (event e told ∷ h) = event e [] ∷ without_clocks h
  without_clocks (clock t told ∷ h) = without_clocks h

  abbrev pub NoWithdrawal : List (Act G) → Type 0
  NoWithdrawal [] = Unit {0}
  NoWithdrawal (load s c ∷ h) = NoWithdrawal h
  NoWithdrawal (withdraw s ∷ h) = ⊥
  NoWithdrawal (event e told ∷ h) = NoWithdrawal h
  NoWithdrawal (clock t told ∷ h) = NoWithdrawal h

  -- the last of the calls is an event
  abbrev pub EndsInEvent : List (Act G) → Type 0
  EndsInEvent [] = ⊥
  EndsInEvent (load s c ∷ h) = ⊥
  EndsInEvent (withdraw s ∷ h) = ⊥
  EndsInEvent (event e told ∷ h) = Unit {0}
  EndsInEvent (clock t told ∷ h) = ⊥

  -- after one event, the same loads and events in one order, and no withdrawal, whatever clock calls besides
  pub record Parallel (g h : List (Act G)) : Type 0 where
    pub ends : EndsInEvent g × EndsInEvent h
    pub lasting : NoWithdrawal g × NoWithdrawal h
    pub same : without_clocks g ≡ without_clocks h

module _ {G : Type 0} (group : Ordered G) where
  -- the same rows are held, and the same lines were told
  pub record Alike (g h : List (Act G)) : Type 0 where
    pub rows : (s : ℕ) (k : List ℕ) → Held group g s k ↔ Held group h s k
    pub lines : (s : ℕ) (x : Line G) → (x ∈ told_of s g) ↔ (x ∈ told_of s h)

  -- clock calls cannot change what an event shows
  abbrev pub ClocksAlike : Type 0
  ClocksAlike = (g h : List (Act G)) → Lawful group g → Lawful group h → Parallel g h → Alike g h

-- two watches that accepted the same loads and events, and no withdrawal, hold the same rows and have told the same lines after each event, whatever their clock calls
pub record ClocksDoNotCount {G : Type 0} (group : Ordered G) : Type 0 where
  pub rows : (e : Event G) (told told' : List (Line G)) (g h : List (Act G)) → Lawful group (event e told ∷ g) → Lawful group (event e told' ∷ h) → NoWithdrawal g → NoWithdrawal h →
      without_clocks g ≡ without_clocks h → (s : ℕ) (k : List ℕ) → Held group (event e told ∷ g) s k ↔ Held group (event e told' ∷ h) s k
  pub lines : (e : Event G) (told told' : List (Line G)) (g h : List (Act G)) → Lawful group (event e told ∷ g) → Lawful group (event e told' ∷ h) → NoWithdrawal g → NoWithdrawal h →
      without_clocks g ≡ without_clocks h → (s : ℕ) (x : Line G) → (x ∈ told_of s (event e told ∷ g)) ↔ (x ∈ told_of s (event e told' ∷ h))
