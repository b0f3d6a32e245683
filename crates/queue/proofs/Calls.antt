-- What a caller reads off the contract of a call whose answer it does not look at.
use Rattle.std.proofs.Common.{◌≡◌, ◌<◌, List, length, Ok, Err, Result, arith}
use Rattle.queue.specs.declared.heap.Heap.{Heap}
use Rattle.lent.specs.declared.list.Full.{Full}
use Rattle.queue.specs.Held.{memory, held, Stores}

module _ {T U : Type 0} (h k : Heap T) (P : List T → Type 0) where
  pub accepted : (r : Result U Full) → length (held h) < length (memory h) → Stores h k r P → P (held k) × (length (memory k) ≡ length (memory h))
  accepted (Ok _) room s = (s.1, s.2)
  accepted (Err _) room s = absurd (omega arith)

  pub refused : (r : Result U Full) → length (held h) ≡ length (memory h) → Stores h k r P → k ≡ h
  refused (Ok _) full s = absurd (omega arith)
  refused (Err _) full s = s.1
