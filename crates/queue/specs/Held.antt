-- What a heap holds, and how a call changes that; said of any heap, whatever its memory and length.
use Rattle.std.specs.Prelude.{◌≡◌, ◌<◌, List, ◌∷◌, length, take, Some, None, Ok, Err, Option, Result}
use Rattle.std.specs.List.Sorted.{IsPermutation}
use Rattle.queue.specs.declared.heap.Heap.{Heap}
use Rattle.lent.specs.declared.list.Full.{Full}

abbrev pub memory : {T : Type 0} → Heap T → List T
memory h = h.items.now

-- the bag of what the heap holds, as a list in the heap's own order
abbrev pub held : {T : Type 0} → Heap T → List T
held h = take h.len (memory h)

-- an element was accepted and P holds of what is held now, or there was no room and nothing has changed
abbrev pub Stores : {T U : Type 0} → Heap T → Heap T → Result U Full → (List T → Type 0) → Type 0
Stores h k (Ok _) P = (length (held h) < length (memory h)) × P (held k) × (length (memory k) ≡ length (memory h))
Stores h k (Err _) P = (length (held h) ≡ length (memory h)) × (k ≡ h)

-- an element was taken out of the bag, or there was none and nothing has changed
abbrev pub Takes : {T : Type 0} → Heap T → Heap T → Option T → Type 0
Takes h k None = k ≡ h
Takes h k (Some x) = IsPermutation (held h) (x ∷ held k) × (length (memory k) ≡ length (memory h))
