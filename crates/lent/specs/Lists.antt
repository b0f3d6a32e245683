-- What a list in lent memory holds, and how a call changes that; said of any list, whatever its memory and length.
use Rattle.std.specs.Prelude.{◌≡◌, ℕ, ◌<◌, ◌≤◌, List, [], ◌∷◌, ◌++◌, length, take, slice_set, Ok, Err, Result}
use Rattle.lent.specs.declared.list.Lent.{Lent}
use Rattle.lent.specs.declared.list.Full.{Full}

abbrev pub memory : {T : Type 0} → Lent T → List T
memory l = l.items.now

-- a length beyond the memory counts as the memory's
abbrev pub held : {T : Type 0} → Lent T → List T
held l = take l.len (memory l)

-- x was added at the end, or there was no room and nothing has changed
abbrev pub Pushes : {T U : Type 0} → Lent T → T → Result U Full → Lent T → Type 0
Pushes l x (Ok _) k = (length (held l) < length (memory l)) × (held k ≡ held l ++ (x ∷ [])) × (memory k ≡ slice_set (memory l) (length (held l)) x)
Pushes l x (Err _) k = (length (held l) ≡ length (memory l)) × (k ≡ l)

-- x stands at i, and all else as before
pub record Replaces {T : Type 0} (l : Lent T) (i : ℕ) (x : T) (k : Lent T) : Type 0 where
  pub held_is : held k ≡ slice_set (held l) i x
  pub within : i < length (held l) → memory k ≡ slice_set (memory l) i x
  pub beyond : length (held l) ≤ i → k ≡ l
