-- What a row in memory stands for.
use Rattle.std.specs.Prelude.{◌≡◌, ℕ, ◌≤◌, List, take, Some, None, Option}
use Rattle.kinds.specs.Bounds.{meant}
use Rattle.kinds.specs.declared.kind.Kind.{Ghosts as Meaning}
use Rattle.kinds.specs.declared.bound.Bound.{Bound}
use Rattle.kinds.specs.declared.bound.Bound.TheVariants.{At}
use Rattle.report.specs.declared.line.Line.{Line}
use Rattle.report.specs.Lines.{line_of}
use Rattle.law.specs.Histories.{R, D, Line as MeantLine, Act, Seen, Loading, loading_of}
use Rattle.law.specs.Holding.{width, HeldIn, Deadline}
use Rattle.law.specs.Telling.{Row as HeldRow}
use Rattle.law.specs.Tests.{ClosedBy}
use Rattle.rows.specs.Placings.{loading_plus, choice_plus}
use Rattle.rows.specs.Portraits.{Portrays}
use Rattle.forks.specs.declared.row.Row.{Row}
use Rattle.forks.specs.declared.row.Arrival.{Arrival}

abbrev pub choice_of : {K : Type 0} → Row K → List ℕ
choice_of r = take r.width r.numbers

-- what is read of a row
abbrev pub row_of : {K : Type 0} → Row K → HeldRow
row_of r = record { slot = r.slot; choice = choice_of r }

-- the line of a row that ends at its deadline
abbrev pub ending : {G : Type 0} → ℕ → List ℕ → G → MeantLine G
ending slot k x = record { letter = D; slot = slot; choice = k; stamp = x }

module _ {K : Type 0} (kind : Meaning K) where
  -- the row stands for a choice of a loading: its bits, stamps and deadline are those of the choice
  pub record Standing (l : Loading kind.G) (r : Row K) : Type 0 where
    pub portrays : Portrays kind.group kind.value kind.weight l (choice_of r) r.filled.bits r.stamps r.width
    pub due : Deadline kind.group l (choice_of r) (meant kind.value r.deadline)

  -- the row stands for a choice of what its slot has loaded
  abbrev pub InLoading : List (Act kind.G) → Row K → Type 0
  InLoading a r = (l : Loading kind.G) × (loading_of r.slot a ≡ Some l) × Standing l r

  -- the event in memory is the event e, with a stamp that can be added
  pub record Arrives (e : Seen kind.G) (arrival : Arrival K) : Type 0 where
    pub number : e.number ≡ arrival.number
    pub stamp : e.seen.stamp ≡ kind.value arrival.stamp
    pub light : kind.weight (kind.value arrival.stamp) ≤ 256

  -- the row r is the row `parent` with the event e at variable j
  pub record Grown (l : Loading kind.G) (parent : Row K) (j : ℕ) (e : Seen kind.G) (r : Row K) : Type 0 where
    pub slot : r.slot ≡ parent.slot
    pub choice : choice_of r ≡ choice_plus (choice_of parent) j e
    pub standing : Standing (loading_plus l e) r

  -- at the moment x the row stays held, or ends with a line of its deadline
  abbrev pub Ends : Loading kind.G → Row K → kind.G → Option (Line K) → Type 0
  Ends l r x None = HeldIn kind.group l (Some x) (choice_of r)
  Ends l r x (Some line) =
      (HeldIn kind.group l (Some x) (choice_of r) → ⊥) × (line_of kind.value line ≡ ending r.slot (choice_of r) (kind.value line.stamp))
      × Deadline kind.group l (choice_of r) (At (kind.value line.stamp))

  -- so it is in every loading where the row stands and is held before
  abbrev pub EndsAt : Row K → kind.G → Option (Line K) → Type 0
  EndsAt r x o = (l : Loading kind.G) (t : Option kind.G) (closed : ℕ → ℕ → Bound kind.G) → ClosedBy kind.group l.chronicle closed (width l) → Standing l r → HeldIn kind.group l t (choice_of r) → Ends l r x o

-- the line that an event tells of a choice which it completes
abbrev pub recognition : {G : Type 0} → Seen G → ℕ → List ℕ → MeantLine G
recognition e slot k = record { letter = R; slot = slot; choice = k; stamp = e.seen.stamp }
