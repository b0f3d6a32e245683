-- The type names of variables, as their letters.
use Rattle.std.specs.Prelude.{ℕ, List, [], map, take, Some, None, Option}
use Rattle.text.specs.declared.name.Name.{Name}
use Rattle.text.specs.Spelled.{spelled}
use Rattle.definitions.specs.declared.types.Types.{Types}

abbrev pub letters : Option Name → List ℕ
letters None = []
letters (Some n) = spelled n

abbrev pub type_names : Types → List (List ℕ)
type_names t = take t.count (map letters t.names)
