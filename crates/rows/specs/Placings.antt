-- What a new event at an open variable makes of a row.
use Rattle.std.specs.Prelude.{◌≡◌, ℕ, ◌<◌, Bool, true, cond, ◌⊎◌, List, [], ◌∷◌, Some, slice_index_or, slice_set}
use Rattle.kinds.specs.Bounds.{at_most, join}
use Rattle.kinds.specs.Ordered.{Ordered}
use Rattle.kinds.specs.declared.bound.Bound.{Bound}
use Rattle.kinds.specs.declared.bound.Bound.TheVariants.{At}
use Rattle.law.specs.Bags.{◌∈◌}
use Rattle.law.specs.Forks.{Blank}
use Rattle.law.specs.Histories.{Seen, Loading}
use Rattle.law.specs.Holding.{at, width, HeldIn, Recognised}
use Rattle.rows.specs.declared.holding.Placing.{Placing}
use Rattle.rows.specs.declared.holding.Placing.TheVariants.{Fails, Grows, Ripens}

-- the loading with one event more, and the choice with that event
abbrev pub loading_plus : {G : Type 0} → Loading G → Seen G → Loading G
loading_plus l e = record { chronicle = l.chronicle; since = e ∷ l.since }

abbrev pub choice_plus : {G : Type 0} → List ℕ → ℕ → Seen G → List ℕ
choice_plus k j e = slice_set k j e.number

module _ {G : Type 0} (group : Ordered G) where
  -- the newest event, for an open variable of its type, in a choice with nothing filled or a row that is held at its stamp
  pub record Placeable (l : Loading G) (k : List ℕ) (j : ℕ) (e : Seen G) : Type 0 where
    pub inside : j < width l
    pub is_open : at k j ≡ 0
    pub typed : e.seen.name ≡ slice_index_or l.chronicle.types j []
    pub numbered : 0 < e.number
    pub newest : (f : Seen G) → f ∈ l.since → f.number < e.number
    pub alive : Blank l k ⊎ HeldIn group l (Some e.seen.stamp) k

  abbrev pub Placed : Loading G → List ℕ → G → Placing → Type 0
  Placed l k now Fails = (HeldIn group l (Some now) k → ⊥) × (Recognised group l k → ⊥)
  Placed l k now Grows = HeldIn group l (Some now) k
  Placed l k now Ripens = Recognised group l k

  -- stamp x at variable j allows variable i its stamp, where it is filled, or else x
  abbrev pub Allows : (ℕ → ℕ → Bound G) → (ℕ → Bool) → (ℕ → G) → G → ℕ → ℕ → Type 0
  Allows closed filled stamp x j i = at_most group (At (cond (filled i) (stamp i) x)) (join group (At x) (closed j i)) ≡ true
