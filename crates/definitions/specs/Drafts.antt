-- What the code holds of a chronicle that is being read, beside the chronicle itself.
use Rattle.std.specs.Prelude.{◌≡◌, ℕ, ◌<◌, ◌≤◌, Bool, true, List, length, Ok, Err, Result, slice_index_or}
use Rattle.text.specs.declared.fault.Fault.{Fault}
use Rattle.kinds.specs.Bounds.{Smallest}
use Rattle.kinds.specs.Ordered.{Ordered}
use Rattle.kinds.specs.declared.bound.Bound.{Bound}
use Rattle.kinds.specs.declared.bound.Bound.TheVariants.{NoBound}
use Rattle.network.specs.Tables.{entry}
use Rattle.definitions.specs.declared.draft.Draft.{Draft}
use Rattle.definitions.specs.Chronicles.{Limit, Chronicle, Said, Given}
use Rattle.definitions.specs.Chronicles.Said.{opening, variable, limit, closing}
use Rattle.definitions.specs.TypeNames.{type_names}

module _ {K G : Type 0} (group : Ordered G) (value : K → G) where
  -- between each two of eight variables the table has the smallest bound given
  abbrev pub Holds : List (Bound K) → List (Limit G) → Type 0
  Holds table limits = (i j : ℕ) → i < 8 → j < 8 → Smallest group (Given limits i j) (entry value table i j)

  -- the table has room, and no bound
  abbrev pub Empty : List (Bound K) → Type 0
  Empty table = (64 ≤ length table) × ((c : ℕ) → c < 64 → slice_index_or table c NoBound ≡ NoBound)

  -- the table holds the bounds of a chronicle, which are between its variables and admitted
  pub record Held (bound : G → Bool) (table : List (Bound K)) (d : Chronicle G) : Type 0 where
    pub long : 64 ≤ length table
    pub few : length d.types ≤ 8
    pub holds : Holds table d.limits
    pub between : (i j : ℕ) (c : G) → Given d.limits i j c → (i < length d.types) × (j < length d.types)
    pub admitted : (i j : ℕ) (c : G) → Given d.limits i j c → bound c ≡ true

  -- the draft and its table stand for a chronicle
  pub record Drafted (bound : G → Bool) (draft : Draft K) (d : Chronicle G) : Type 0 where
    pub slot : draft.slot ≡ d.slot
    pub types : type_names draft.types ≡ d.types
    pub limits : draft.limits ≡ length d.limits
    pub held : Held bound draft.table.now d

-- the bound that a line gives is admitted
abbrev pub Admits : {G : Type 0} → (G → Bool) → Said G → Type 0
Admits bound (opening s) = Unit {0}
Admits bound (variable name) = Unit {0}
Admits bound (limit l) = bound l.most ≡ true
Admits bound closing = Unit {0}

-- an answer as the chronicle's own, with P of the chronicle that it makes
abbrev pub Agrees : {A G : Type 0} → Result (Chronicle G) Fault → (Chronicle G → Type 0) → Result A Fault → Type 0
Agrees (Ok d) P (Ok r) = P d
Agrees (Ok d) P (Err f) = ⊥
Agrees (Err f) P (Ok r) = ⊥
Agrees (Err f) P (Err e) = e ≡ f
