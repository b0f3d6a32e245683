-- Whose turn it is in a merge, and what a turn means for the whole: what comes next in that source comes next in the merge.
use Rattle.std.specs.Prelude.{◌≡◌, Bool, cond, List, drop}
use Rattle.logs.specs.declared.merge.Side.{Side}
use Rattle.logs.specs.declared.merge.Side.TheVariants.{First, Second}
use Rattle.logs.specs.Endings.{Ending, is_clean}
use Rattle.logs.specs.Events.{Event, Coming, first}
use Rattle.logs.specs.Events.Coming.{comes, ends}
use Rattle.logs.specs.Merging.{merged_list, merged_ending}

module _ {G : Type 0} (leq : G → G → Bool) where
  -- by what comes next in each
  abbrev pub turn : Coming G → Coming G → Side
  turn (ends e) b = cond (is_clean e) Second First
  turn (comes x) (ends f) = cond (is_clean f) First Second
  turn (comes x) (comes y) = cond (leq x.stamp y.stamp) First Second

  -- once the first record of that source is gone, so is the merge's
  pub record Turn (xs : List (Event G)) (e : Ending) (ys : List (Event G)) (f : Ending) (next : Coming G) (xs' ys' : List (Event G)) : Type 0 where
    pub head : first (merged_list leq xs e ys f) (merged_ending leq xs e ys f) ≡ next
    pub left : merged_list leq xs' e ys' f ≡ drop 1 (merged_list leq xs e ys f)
    pub same : merged_ending leq xs' e ys' f ≡ merged_ending leq xs e ys f

  abbrev pub Turns : List (Event G) → Ending → List (Event G) → Ending → Side → Type 0
  Turns xs e ys f First = Turn xs e ys f (first xs e) (drop 1 xs) ys
  Turns xs e ys f Second = Turn xs e ys f (first ys f) xs (drop 1 ys)
