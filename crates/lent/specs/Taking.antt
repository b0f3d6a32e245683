-- Putting items one after another adds them up.
use Rattle.std.specs.Prelude.{List, [], ◌++◌}

pub record Adds {S T : Type 0} (took : S → List T → S → Type 0) : Type 0 where
  pub none : (s : S) → took s [] s
  pub more : (s t u : S) (xs ys : List T) → took s xs t → took t ys u → took s (xs ++ ys) u
