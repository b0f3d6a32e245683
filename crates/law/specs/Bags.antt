-- Lists as sets: what is in one, each once, and exactly what.
use Rattle.std.specs.Prelude.{◌≡◌, ◌⊎◌, ◌↔◌, List, [], ◌∷◌}

infix 40 ◌∈◌
abbrev pub ◌∈◌ : {X : Type 0} → X → List X → Type 0
x ∈ [] = ⊥
x ∈ (y ∷ ys) = (y ≡ x) ⊎ (x ∈ ys)

-- no element stands twice
abbrev pub Once : {X : Type 0} → List X → Type 0
Once [] = Unit {0}
Once (x ∷ xs) = (x ∈ xs → ⊥) × Once xs

-- the list has just the elements that P holds of, each once
pub record Exactly {X : Type 0} (P : X → Type 0) (xs : List X) : Type 0 where
  pub once : Once xs
  pub each : (x : X) → (x ∈ xs) ↔ P x
