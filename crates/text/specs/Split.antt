-- A text cut at a byte b into its parts, and parts joined by b.
use Rattle.std.specs.Prelude.{ℕ, suc, Bool, true, cond, not, ◌&&◌, List, [], ◌∷◌, ◌++◌, ◌==◌}

-- x at the front of the first part
abbrev pub before : ℕ → List (List ℕ) → List (List ℕ)
before x [] = (x ∷ []) ∷ []
before x (p ∷ ps) = (x ∷ p) ∷ ps

-- the parts of a text between the bytes b, one more than there are such bytes
abbrev pub split : ℕ → List ℕ → List (List ℕ)
split b [] = [] ∷ []
split b (x ∷ xs) = cond (x == b) ([] ∷ split b xs) (before x (split b xs))

-- where b stands first, or the length where it does not stand
abbrev pub first_place : ℕ → List ℕ → ℕ
first_place b [] = 0
first_place b (x ∷ xs) = cond (x == b) 0 (suc (first_place b xs))

-- b does not stand in the text
abbrev pub without : ℕ → List ℕ → Bool
without b [] = true
without b (x ∷ xs) = not (x == b) && without b xs

-- the parts, with b between each and the next
abbrev pub rejoined : ℕ → List (List ℕ) → List ℕ
rejoined b [] = []
rejoined b (p ∷ []) = p
rejoined b (p ∷ q ∷ ps) = p ++ (b ∷ rejoined b (q ∷ ps))
