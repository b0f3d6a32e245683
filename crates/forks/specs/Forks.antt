-- What a new event makes of one parent: rows that it grows, and lines of what it ripens.
use Rattle.std.specs.Prelude.{◌≡◌, ℕ, ◌<◌, ◌⊎◌, List, [], map, Some, Decides, slice_index_or}
use Rattle.std.specs.List.{AllByRecursion}
use Rattle.kinds.specs.declared.bound.Bound.{Bound}
use Rattle.kinds.specs.declared.kind.Kind.{Ghosts as Meaning}
use Rattle.law.specs.Bags.{◌∈◌, Exactly}
use Rattle.law.specs.Forks.{Blank}
use Rattle.law.specs.Histories.{R, Line as MeantLine, Seen, Loading}
use Rattle.law.specs.Holding.{at, width, HeldIn, Recognised}
use Rattle.law.specs.Telling.{Row as HeldRow}
use Rattle.rows.specs.Filled.{is_in}
use Rattle.rows.specs.Placings.{loading_plus, choice_plus}
use Rattle.rows.specs.Portraits.{ClosedTable}
use Rattle.report.specs.declared.line.Line.{Line}
use Rattle.report.specs.Lines.{line_of}
use Rattle.forks.specs.declared.row.Row.{Row}
use Rattle.forks.specs.declared.row.Arrival.{Arrival}
use Rattle.forks.specs.Rows.{choice_of, row_of, Standing, Arrives}

module _ {G : Type 0} (l : Loading G) (k : List ℕ) (e : Seen G) where
  -- k' is the choice with the event at variable j, which is open and of the event's type
  pub record PutAt (j : ℕ) (k' : List ℕ) : Type 0 where
    pub inside : j < width l
    pub is_open : at k j ≡ 0
    pub typed : e.seen.name ≡ slice_index_or l.chronicle.types j []
    pub choice : k' ≡ choice_plus k j e

  -- at one of the first m variables
  abbrev pub PutBefore : ℕ → List ℕ → Type 0
  PutBefore m k' = (j : ℕ) × (j < m) × PutAt j k'

  -- at some variable
  abbrev pub Put : List ℕ → Type 0
  Put k' = (j : ℕ) × PutAt j k'

module _ {K : Type 0} (kind : Meaning K) where
  -- a parent of rows with the newest event: with nothing filled, or held at the event's stamp
  pub record Parent (l : Loading kind.G) (e : Seen kind.G) (table : List (Bound K)) (wanted : ℕ) (arrival : Arrival K) (parent : Row K) : Type 0 where
    pub standing : Standing kind l parent
    pub closed : ClosedTable kind.group kind.value kind.weight l table
    pub wants : (j : ℕ) → Decides (is_in wanted j) ((j < width l) × (e.seen.name ≡ slice_index_or l.chronicle.types j []))
    pub arrives : Arrives kind e arrival
    pub numbered : 0 < e.number
    pub newest : (f : Seen kind.G) → f ∈ l.since → f.number < e.number
    pub alive : Blank l (choice_of parent) ⊎ HeldIn kind.group l (Some e.seen.stamp) (choice_of parent)

  -- of the choices that Q names, just those held are born as rows of the slot, and just those recognised are told as lines
  pub record Forked (l : Loading kind.G) (e : Seen kind.G) (Q : List ℕ → Type 0) (slot : ℕ) (born : List (Row K)) (ripe : List (Line K)) : Type 0 where
    pub rows : Exactly (λ (r : HeldRow). (r.slot ≡ slot) × Q r.choice × HeldIn kind.group (loading_plus l e) (Some e.seen.stamp) r.choice) (map row_of born)
    pub standing : AllByRecursion (λ r. (r.slot ≡ slot) × Standing kind (loading_plus l e) r) born
    pub lines : Exactly (λ (x : MeantLine kind.G). (x.letter ≡ R) × (x.slot ≡ slot) × (x.stamp ≡ e.seen.stamp) × Q x.choice × Recognised kind.group (loading_plus l e) x.choice) (map (line_of kind.value) ripe)

-- rows and lines went into their sinks, and P says which
abbrev pub Sunk : {A B R L : Type 0} → (R → List A → R → Type 0) → (L → List B → L → Type 0) → R → R → L → L → (List A → List B → Type 0) → Type 0
Sunk {A} {B} tookR tookL r r' l l' P = (as' : List A) × (bs : List B) × tookR r as' r' × tookL l bs l' × P as' bs
