-- A bound is an element or 'no bound', which lies above every element and swallows whatever is added to it.
use Rattle.std.specs.Prelude.{◌≡◌, ℕ, Bool, true, false}
use Rattle.kinds.specs.declared.bound.Bound.{Bound}
use Rattle.kinds.specs.declared.bound.Bound.TheVariants.{At, NoBound}
use Rattle.kinds.specs.Ordered.{Ordered}

module _ {G : Type 0} (group : Ordered G) where
  abbrev pub join : Bound G → Bound G → Bound G
  join (At x) (At y) = At (group.plus x y)
  join (At x) NoBound = NoBound
  join NoBound b = NoBound

  abbrev pub at_most : Bound G → Bound G → Bool
  at_most (At x) (At y) = group.leq x y
  at_most (At x) NoBound = true
  at_most NoBound (At y) = false
  at_most NoBound NoBound = true

-- no bound is always admitted, an element where its kind admits it
abbrev pub admits : {G : Type 0} → (G → Bool) → Bound G → Bool
admits bound (At x) = bound x
admits bound NoBound = true

-- no bound weighs nothing
abbrev pub weighs : {G : Type 0} → (G → ℕ) → Bound G → ℕ
weighs weight (At x) = weight x
weighs weight NoBound = 0

-- what a bound of machine values means
abbrev pub meant : {K G : Type 0} → (K → G) → Bound K → Bound G
meant value (At k) = At (value k)
meant value NoBound = NoBound

-- the smallest element that P holds of, or no bound where it holds of none
abbrev pub Smallest : {G : Type 0} → Ordered G → (G → Type 0) → Bound G → Type 0
Smallest {G} group P (At x) = P x × ((c : G) → P c → group.leq x c ≡ true)
Smallest {G} group P NoBound = (c : G) → P c → ⊥
