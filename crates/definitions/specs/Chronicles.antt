-- What a definition says: a slot, the type names of its variables, and bounds between them.
use Rattle.std.specs.Prelude.{◌≡◌, ℕ, ◌⊎◌, List, [], ◌∷◌}

-- the stamp of one variable is at most that of another plus an element; variables count from 0 here, from 1 in the text
pub record Limit (G : Type 0) : Type 0 where
  pub from : ℕ
  pub to : ℕ
  pub most : G

pub record Chronicle (G : Type 0) : Type 0 where
  pub slot : ℕ
  pub types : List (List ℕ)
  pub limits : List (Limit G)

-- what one line says
pub data Said (G : Type 0) : Type 0 where
  opening : ℕ → Said G
  variable : List ℕ → Said G
  limit : Limit G → Said G
  closing : Said G

-- a bound from i to j of c is among those given
abbrev pub Given : {G : Type 0} → List (Limit G) → ℕ → ℕ → G → Type 0
Given [] i j c = ⊥
Given (l ∷ ls) i j c = ((l.from ≡ i) × (l.to ≡ j) × (l.most ≡ c)) ⊎ Given ls i j c
