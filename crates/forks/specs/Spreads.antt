-- What the next event makes of all its parents: of each the rows that it grows and the lines that it ripens.
use Rattle.std.specs.Prelude.{◌≡◌, ℕ, ◌+◌, ◌<◌, ◌≤◌, ◌⊎◌, List, [], ◌∷◌, map, length, take, Some, None, Decides, Option, slice_index_or}
use Rattle.std.specs.List.{AllByRecursion}
use Rattle.kinds.specs.declared.kind.Kind.{Ghosts as Meaning}
use Rattle.logs.specs.Events.{Event}
use Rattle.law.specs.Bags.{Exactly}
use Rattle.law.specs.Each.{Each}
use Rattle.law.specs.Forks.{Blank}
use Rattle.law.specs.Histories.{Act, event, Seen, Loading, event_count, loading_of}
use Rattle.law.specs.Holding.{width, HeldIn}
use Rattle.law.specs.Steps.{SmallSlots, Begins, ForkOf, RipeOf}
use Rattle.law.specs.Telling.{Row as HeldRow}
use Rattle.rows.specs.Filled.{is_in}
use Rattle.rows.specs.Portraits.{ClosedTable}
use Rattle.slots.specs.Loads.{slot_table}
use Rattle.slots.specs.Slots.{types_in}
use Rattle.slots.specs.declared.table.Slots.{Slots}
use Rattle.report.specs.declared.line.Line.{Line}
use Rattle.report.specs.Lines.{line_of}
use Rattle.forks.specs.declared.row.Row.{Row}
use Rattle.forks.specs.declared.incoming.Incoming.{Incoming}
use Rattle.forks.specs.Rows.{choice_of, row_of, Standing, Arrives, InLoading}
use Rattle.forks.specs.Ends.{Before, Settles}
use Rattle.forks.specs.Forks.{Sunk}
use Rattle.forks.specs.Wanting.{mask_of}

-- the event with the number that it gets
abbrev pub numbered : {G : Type 0} → List (Act G) → Event G → Seen G
numbered a e = record { number = event_count a + 1; seen = e }

module _ {K : Type 0} (kind : Meaning K) (a : List (Act kind.G)) (e : Event kind.G) where
  -- after the accepted calls a, memory is ready for the event: its number and stamp, the closed bounds of each loading, and which of its variables the event's type fits
  pub record Ready (incoming : Incoming K) : Type 0 where
    pub small : SmallSlots a
    pub arrives : Arrives kind (numbered a e) incoming.arrival
    pub tables : (s : ℕ) (l : Loading kind.G) → loading_of s a ≡ Some l → ClosedTable kind.group kind.value kind.weight l (slot_table s incoming.entries.now)
    pub wants : (s : ℕ) (l : Loading kind.G) → loading_of s a ≡ Some l → (j : ℕ) → Decides (is_in (mask_of incoming.wanted.now s) j) ((j < width l) × (e.name ≡ slice_index_or l.chronicle.types j []))

  -- a row with nothing filled, or one held at the event's stamp
  abbrev pub Alive : Row K → Type 0
  Alive r = (l : Loading kind.G) × (loading_of r.slot a ≡ Some l) × Standing kind l r × (Blank l (choice_of r) ⊎ HeldIn kind.group l (Some e.stamp) (choice_of r))

  -- what the event makes of one parent
  pub record SpreadOf (parent : HeldRow) (born : List (Row K)) (ripe : List (Line K)) : Type 0 where
    pub forks : Exactly (ForkOf kind.group a e parent) (map row_of born)
    pub ripens : Exactly (RipeOf kind.group a e parent) (map (line_of kind.value) ripe)
    pub standing : AllByRecursion (InLoading kind (event e [] ∷ a)) born

  -- what it makes of these parents
  pub record Spread (parents : List HeldRow) (born : List (Row K)) (ripe : List (Line K)) : Type 0 where
    pub forks : Each (λ p rs. Exactly (ForkOf kind.group a e p) rs) parents (map row_of born)
    pub ripens : Each (λ p xs. Exactly (RipeOf kind.group a e p) xs) parents (map (line_of kind.value) ripe)
    pub standing : AllByRecursion (InLoading kind (event e [] ∷ a)) born

abbrev pub LoadedAs : {G : Type 0} → Option (Loading G) → Option (List (List ℕ)) → Type 0
LoadedAs None types = types ≡ None
LoadedAs (Some l) types = (types ≡ Some l.chronicle.types) × (width l ≤ 8)

-- the slots in memory are loaded with the types of the chronicles that are loaded, at most eight of each
abbrev pub Loaded : {G : Type 0} → List (Act G) → Slots → Type 0
Loaded a slots = (s : ℕ) → LoadedAs (loading_of s a) (types_in slots s)

-- what the event makes of the loaded slots that Q names, with nothing filled
pub record Begun {K : Type 0} (kind : Meaning K) (a : List (Act kind.G)) (e : Event kind.G) (Q : HeldRow → Type 0) (born : List (Row K)) (ripe : List (Line K)) : Type 0 where
  pub begins : List HeldRow
  pub all : Exactly (λ r. Q r × Begins a r) begins
  pub spread : Spread kind a e begins born ripe

-- a sink of lines that keeps nothing
abbrev pub forgets : {A : Type 0} → Unit {0} → List A → Unit {0} → Type 0
forgets s xs t = Unit {0}

module _ {K R L : Type 0} (kind : Meaning K) (tookR : R → List (Row K) → R → Type 0) (tookL : L → List (Line K) → L → Type 0) where
  -- of the first n rows so many stay at the event's stamp, and what it makes of those went into the sinks
  pub record Surveyed (rows : List (Row K)) (incoming : Incoming K) (n stay : ℕ) (r r' : R) (l l' : L) : Type 0 where
    pub kept : List (Row K)
    pub count : stay ≡ length kept
    pub settles : Settles kind forgets (kind.value incoming.arrival.stamp) rows (take n rows) kept tt tt
    pub sunk : Sunk tookR tookL r r' l l' (λ born ripe.
        (a : List (Act kind.G)) (e : Event kind.G) → Ready kind a e incoming → Before kind a (event e []) (kind.value incoming.arrival.stamp) rows → Spread kind a e (map row_of kept) born ripe)
