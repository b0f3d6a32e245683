-- What reading a definition from the front of a text answers, and what it leaves in the lent table.
use Rattle.std.specs.Prelude.{◌≡◌, ℕ, ◌<◌, List, length, Ok, Err, Result}
use Rattle.text.specs.declared.fault.Cause.TheVariants.{ShortMemory, Contradictory as Contradicts}
use Rattle.text.specs.declared.fault.Fault.{Fault}
use Rattle.text.specs.Faults.{fault_at}
use Rattle.kinds.specs.Ordered.{Ordered}
use Rattle.kinds.specs.declared.bound.Bound.{Bound}
use Rattle.network.specs.Chains.{Closed, Contradictory}
use Rattle.network.specs.Tables.{entry}
use Rattle.definitions.specs.declared.reader.Definition.{Definition}
use Rattle.definitions.specs.Chronicles.{Chronicle, Given}
use Rattle.definitions.specs.Reading.{Reading}
use Rattle.definitions.specs.Steps.{Defined}

-- the memory is too short for a table: nothing is read, and it stays as it was
abbrev pub TooShort : {X : Type 0} → List X → List X → Result Definition Fault → Type 0
TooShort before after r = (r ≡ Err (fault_at ShortMemory 0 0)) × (after ≡ before)

module _ {K G : Type 0} (group : Ordered G) (value : K → G) where
  -- the table has the closed bounds of a chronicle, which has no cycle below zero
  pub record ClosedTable (table : List (Bound K)) (d : Chronicle G) : Type 0 where
    pub consistent : Contradictory group (Given d.limits) → ⊥
    pub closed : (i j : ℕ) → i < length d.types → j < length d.types → Closed group (Given d.limits) i j (entry value table i j)

  -- the definition that is read is closed, or refused at its last line as contradictory
  abbrev pub Loads : Result (Reading G) Fault → List (Bound K) → Result Definition Fault → Type 0
  Loads (Ok reading) table (Ok x) = Defined reading x × ClosedTable table reading.chronicle
  Loads (Ok reading) table (Err e) = Contradictory group (Given reading.chronicle.limits) × (e ≡ fault_at Contradicts reading.lines 0)
  Loads (Err f) table (Ok x) = ⊥
  Loads (Err f) table (Err e) = e ≡ f
