-- What one call makes of the rows: each stays or ends with a line, and those that stay take the event.
use Rattle.std.specs.Prelude.{◌≡◌, ℕ, ◌+◌, ◌<◌, ◌≤◌, ◌⊎◌, List, [], ◌∷◌, ◌++◌, replicate, Some, slice_index_or, slice_set}
use Rattle.kinds.specs.Ordered.{Ordered}
use Rattle.kinds.specs.declared.bound.Bound.TheVariants.{At}
use Rattle.logs.specs.Events.{Event}
use Rattle.law.specs.Histories.{Letter, R, D, Line, Act, event, Loading, event_count, loading_of}
use Rattle.law.specs.Holding.{at, width, Held, Recognised, Deadline}
use Rattle.law.specs.Telling.{Row, New, CallLine}

module _ {G : Type 0} (a : List (Act G)) where
  -- only slots 1 to 8 are loaded
  abbrev pub SmallSlots : Type 0
  SmallSlots = (s : ℕ) (l : Loading G) → loading_of s a ≡ Some l → (1 ≤ s) × (s ≤ 8)

  -- after the accepted calls a, a loaded slot with nothing filled
  abbrev pub Begins : Row → Type 0
  Begins p = (l : Loading G) × (loading_of p.slot a ≡ Some l) × (p.choice ≡ replicate (width l) 0)

  -- k is the choice of p with the event at an open variable of its type
  pub record Takes (e : Event G) (p : Row) (k : List ℕ) : Type 0 where
    pub loading : Loading G
    pub loaded : loading_of p.slot a ≡ Some loading
    pub place : ℕ
    pub within : place < width loading
    pub free : at p.choice place ≡ 0
    pub typed : e.name ≡ slice_index_or loading.chronicle.types place []
    pub made : k ≡ slice_set p.choice place (event_count a + 1)

module _ {G : Type 0} (group : Ordered G) (a : List (Act G)) where
  -- a row held before the next call and after it
  abbrev pub Stays : Act G → Row → Type 0
  Stays act r = Held group a r.slot r.choice × Held group (act ∷ a) r.slot r.choice

  -- a line of the next call with that letter
  abbrev pub LineOf : Act G → Letter → Line G → Type 0
  LineOf act letter x = (x.letter ≡ letter) × CallLine group a act x

  -- the line of a row that ends: its deadline
  pub record EndsAs (r : Row) (x : Line G) : Type 0 where
    pub letter : x.letter ≡ D
    pub slot : x.slot ≡ r.slot
    pub choice : x.choice ≡ r.choice
    pub loading : Loading G
    pub loaded : loading_of r.slot a ≡ Some loading
    pub due : Deadline group loading r.choice (At x.stamp)

  -- one row after another: it stays, or it ends with its line
  pub data Buried (act : Act G) : List Row → List Row → List (Line G) → Type 0 where
    none : Buried act [] [] []
    stays : {rows kept : List Row} {dead : List (Line G)} (r : Row) → Buried act rows kept dead → Held group (act ∷ a) r.slot r.choice → Buried act (rows ++ (r ∷ [])) (kept ++ (r ∷ [])) dead
    ends : {rows kept : List Row} {dead : List (Line G)} (r : Row) (x : Line G) → Buried act rows kept dead → (Held group (act ∷ a) r.slot r.choice → ⊥) → EndsAs r x → Buried act (rows ++ (r ∷ [])) kept (dead ++ (x ∷ []))

  module _ (e : Event G) where
    -- what can take the event
    abbrev pub Parent : Row → Type 0
    Parent p = Stays (event e []) p ⊎ Begins a p

    -- a row that p makes with the event
    pub record ForkOf (p : Row) (r : Row) : Type 0 where
      pub slot : r.slot ≡ p.slot
      pub takes : Takes a e p r.choice
      pub held : Held group (event e [] ∷ a) r.slot r.choice

    -- the line of a recognition that p makes with the event
    pub record RipeOf (p : Row) (x : Line G) : Type 0 where
      pub letter : x.letter ≡ R
      pub slot : x.slot ≡ p.slot
      pub takes : Takes a e p x.choice
      pub loading : Loading G
      pub loaded : loading_of x.slot (event e [] ∷ a) ≡ Some loading
      pub recognised : Recognised group loading x.choice
      pub stamp : x.stamp ≡ e.stamp

    -- a row held after the event that has it
    abbrev pub NewRow : Row → Type 0
    NewRow r = Held group (event e [] ∷ a) r.slot r.choice × New a (event e []) r.choice

    -- with the event at variable j
    abbrev pub ForkAt : Row → ℕ → Row → Type 0
    ForkAt p j r = (f : ForkOf p r) × (f.takes.place ≡ j)

    abbrev pub RipeAt : Row → ℕ → Line G → Type 0
    RipeAt p j x = (f : RipeOf p x) × (f.takes.place ≡ j)
