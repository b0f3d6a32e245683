-- What a watch in memory holds after the accepted calls, and what it stands for after all calls.
use Rattle.std.specs.Prelude.{◌≡◌, ℕ, ◌≤◌, List, ◌∷◌, map, length, Some, None, Option}
use Rattle.std.specs.Option.{option_map}
use Rattle.std.specs.List.{AllByRecursion}
use Rattle.kinds.specs.declared.bound.Bound.{Bound}
use Rattle.kinds.specs.declared.kind.Kind.{Ghosts as Meaning}
use Rattle.law.specs.Calls.{Call, accepted}
use Rattle.law.specs.Histories.{Act, Loading, now_of, event_count, loading_of}
use Rattle.law.specs.Holding.{width}
use Rattle.law.specs.Laws.{Answered, Law}
use Rattle.law.specs.Refusals.{Lent, capacity}
use Rattle.law.specs.Steps.{SmallSlots}
use Rattle.law.specs.Telling.{Row as HeldRow, Reads, Lawful}
use Rattle.rows.specs.Portraits.{ClosedTable}
use Rattle.lent.specs.Lists.{held, memory}
use Rattle.queue.specs.Held.{memory as queue_memory}
use Rattle.slots.specs.Loads.{slot_table}
use Rattle.slots.specs.Slots.{types_in}
use Rattle.forks.specs.declared.row.Row.{Row}
use Rattle.forks.specs.Rows.{row_of, Standing}
use Rattle.deadlines.specs.Queues.{QueueHolds}
use Rattle.recogniser.specs.declared.watch.Watch.{Watch}

module _ {K : Type 0} where
  -- the rows in memory, and what is read of them
  abbrev pub rows_in : Watch K → List (Row K)
  rows_in w = held w.rows

  abbrev pub rows_read : Watch K → List HeldRow
  rows_read w = map row_of (rows_in w)

  -- the lengths of the memory lent
  abbrev pub lent_of : Watch K → Lent
  lent_of w = record { entries = length w.entries.now; rows = length (memory w.rows); deadlines = length (queue_memory w.queue) }

module _ {K : Type 0} (kind : Meaning K) where
  -- the record and the closed bounds of a slot are those of its loading, and an empty slot has no record
  abbrev pub SlotHolds : Option (Loading kind.G) → Option (List (List ℕ)) → List (Bound K) → Type 0
  SlotHolds None types table = types ≡ None
  SlotHolds (Some l) types table = (types ≡ Some l.chronicle.types) × (width l ≤ 8) × ClosedTable kind.group kind.value kind.weight l table

  -- the row stands for a choice of a loading that lasts
  abbrev pub InLoading : List (Act kind.G) → Row K → Type 0
  InLoading a r = (l : Loading kind.G) × (loading_of r.slot a ≡ Some l) × Standing kind l r

  -- after the accepted calls a: slots, now, events, rows and deadlines are as the calls made them
  pub record Holds (lent : Lent) (a : List (Act kind.G)) (w : Watch K) : Type 0 where
    pub lawful : Lawful kind.group a
    pub small : SmallSlots a
    pub lent_is : lent_of w ≡ lent
    pub now_is : option_map kind.value w.moment ≡ now_of a
    pub count_is : w.count ≡ event_count a
    pub slots : (s : ℕ) → SlotHolds (loading_of s a) (types_in w.slots s) (slot_table s w.entries.now)
    pub rows : Reads kind.group a (rows_read w)
    pub standing : AllByRecursion (InLoading a) (rows_in w)
    pub queue : QueueHolds kind (rows_in w) w.queue
    pub fits : length (rows_in w) ≤ capacity lent

  -- after all calls h, refused ones and runs among them
  pub record Stands (lent : Lent) (h : List (Call kind.G)) (w : Watch K) : Type 0 where
    pub answered : Answered kind lent h
    pub holds : Holds lent (accepted kind h) w

  -- a call keeps what the watch stands for, and with it the law
  abbrev pub Keeps : Watch K → Watch K → Call kind.G → Type 0
  Keeps before after call =
      (lent : Lent) (h : List (Call kind.G)) → Stands lent h before → Stands lent (call ∷ h) after × Law kind lent (call ∷ h) (rows_read after)
