-- The merge of two sources as a function of what they mean: the smaller head first, the first source's on equal stamps,
-- until one that has none waiting ends with a fault.
use Rattle.std.specs.Prelude.{Bool, cond, List, [], ◌∷◌}
use Rattle.logs.specs.Endings.{Ending, is_clean}
use Rattle.logs.specs.Events.{Event}

module _ {G : Type 0} (leq : G → G → Bool) where
  abbrev pub merged_list : List (Event G) → Ending → List (Event G) → Ending → List (Event G)
  merged_list [] e ys f = cond (is_clean e) ys []
  merged_list (x ∷ xs) e [] f = cond (is_clean f) (x ∷ xs) []
  merged_list (x ∷ xs) e (y ∷ ys) f = cond (leq x.stamp y.stamp) (x ∷ merged_list xs e (y ∷ ys) f) (y ∷ merged_list (x ∷ xs) e ys f)

  abbrev pub merged_ending : List (Event G) → Ending → List (Event G) → Ending → Ending
  merged_ending [] e ys f = cond (is_clean e) f e
  merged_ending (x ∷ xs) e [] f = cond (is_clean f) e f
  merged_ending (x ∷ xs) e (y ∷ ys) f = cond (leq x.stamp y.stamp) (merged_ending xs e (y ∷ ys) f) (merged_ending (x ∷ xs) e ys f)
