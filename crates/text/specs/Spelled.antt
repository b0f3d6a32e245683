-- The spelling of a name, and the number of the refusal to make one.
use Rattle.std.specs.Prelude.{◌≡◌, ℕ, true, List, take}
use Rattle.text.specs.declared.name.Name.{Name}
use Rattle.text.specs.declared.name.NotAName.{NotAName}
use Rattle.text.specs.Names.{is_name}

-- the bytes past the length are zeros, and no part of the name
abbrev pub spelled : Name → List ℕ
spelled n = take n.len n.bytes

-- bytes that are a name, and are the spelling of n
abbrev pub Spells : List ℕ → Name → Type 0
Spells bs n = (is_name bs ≡ true) × (spelled n ≡ bs)

abbrev pub refusal_number : NotAName → ℕ
refusal_number e = 21
