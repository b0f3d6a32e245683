-- A choice in memory: its filled variables as bits, the stamps of their events, and the closed bounds of its chronicle as a table.
use Rattle.std.specs.Prelude.{◌≡◌, ℕ, ◌<◌, ◌≤◌, true, List, map, length, slice_index_or}
use Rattle.kinds.specs.Bounds.{weighs}
use Rattle.kinds.specs.Ordered.{Ordered}
use Rattle.kinds.specs.declared.bound.Bound.{Bound}
use Rattle.network.specs.Tables.{entry}
use Rattle.law.specs.Histories.{Loading}
use Rattle.law.specs.Holding.{width, Choice, Agrees}
use Rattle.law.specs.Tests.{is_filled, ClosedBy}
use Rattle.rows.specs.Filled.{is_in}
use Rattle.rows.specs.declared.portrait.Portrait.{Portrait}

module _ {K G : Type 0} (group : Ordered G) (value : K → G) where
  -- the stamp at a place in memory
  abbrev pub stamp_at : List K → ℕ → G
  stamp_at stamps i = slice_index_or (map value stamps) i group.zero

  module _ (weight : G → ℕ) where
    -- bits and stamps of n variables portray a choice: which are filled, and with which stamps, none of them heavy
    pub record Portrays (l : Loading G) (k : List ℕ) (bits : ℕ) (stamps : List K) (n : ℕ) : Type 0 where
      pub choice : Choice l k
      pub wide : n ≡ width l
      pub few : width l ≤ 8
      pub long : width l ≤ length stamps
      pub filled : (i : ℕ) → i < width l → is_in bits i ≡ is_filled k i
      pub agrees : Agrees l k (stamp_at stamps)
      pub light : (i : ℕ) → i < width l → is_filled k i ≡ true → weight (stamp_at stamps i) ≤ 256

    -- a table has the closed bounds of a loading's chronicle, none of them heavy
    pub record ClosedTable (l : Loading G) (table : List (Bound K)) : Type 0 where
      pub long : 64 ≤ length table
      pub closed : ClosedBy group l.chronicle (entry value table) (width l)
      pub light : (i j : ℕ) → i < width l → j < width l → weighs weight (entry value table i j) ≤ 256

    -- a portrait depicts a choice of a loading: its bits and stamps portray the choice, and its table has the closed bounds
    pub record Depicts (l : Loading G) (k : List ℕ) (p : Portrait K) : Type 0 where
      pub portrays : Portrays l k p.filled.bits p.stamps.now p.width
      pub closes : ClosedTable l p.table.now
