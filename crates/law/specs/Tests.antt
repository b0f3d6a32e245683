-- A row by tests: which variables are filled, with which stamps, and that closed bounds decide whether it is held.
use Rattle.std.specs.Prelude.{◌≡◌, ℕ, ◌<◌, Bool, not, ◌↔◌, List, Some, ◌==◌, ◌≢◌}
use Rattle.kinds.specs.Ordered.{Ordered}
use Rattle.kinds.specs.declared.bound.Bound.{Bound}
use Rattle.network.specs.Chains.{Closed, Contradictory}
use Rattle.definitions.specs.Chronicles.{Chronicle, Given}
use Rattle.law.specs.Histories.{Loading}
use Rattle.law.specs.Holding.{at, width, Choice, Agrees, HeldIn, Recognised}
use Rattle.law.specs.Schedules.{Passes}

abbrev pub is_filled : List ℕ → ℕ → Bool
is_filled k i = not (at k i == 0)

module _ {G : Type 0} (group : Ordered G) where
  -- bounds between a chronicle's own variables, closed, with no cycle below zero
  pub record ClosedBy (c : Chronicle G) (closed : ℕ → ℕ → Bound G) (n : ℕ) : Type 0 where
    pub within : (i j : ℕ) (x : G) → Given c.limits i j x → (i < n) × (j < n)
    pub each : (i j : ℕ) → i < n → j < n → Closed group (Given c.limits) i j (closed i j)
    pub consistent : Contradictory group (Given c.limits) → ⊥

  -- the tests on closed bounds and latest stamps decide: a row is held exactly if it passes them, and a choice with nothing open is recognised exactly if it does
  pub record TestsDecide (l : Loading G) (k : List ℕ) (closed : ℕ → ℕ → Bound G) (stamp : ℕ → G) (now : G) : Type 0 where
    pub held : (some_filled : (i : ℕ) × (i < width l) × (at k i ≢ 0)) → (some_open : (i : ℕ) × (i < width l) × (at k i ≡ 0)) →
        HeldIn group l (Some now) k ↔ Passes group (width l) closed (is_filled k) stamp now
    pub recognised : ((i : ℕ) → i < width l → at k i ≢ 0) → Recognised group l k ↔ Passes group (width l) closed (is_filled k) stamp now

  -- for every choice of a loading whose bounds are closed
  abbrev pub ClosedBoundsDecide : Type 0
  ClosedBoundsDecide = (l : Loading G) (k : List ℕ) → Choice l k → (closed : ℕ → ℕ → Bound G) → ClosedBy l.chronicle closed (width l) → (stamp : ℕ → G) → Agrees l k stamp → (now : G) → TestsDecide l k closed stamp now
