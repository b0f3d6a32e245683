-- A queue takes the deadlines of rows, one after another.
use Rattle.std.proofs.Common.{◌≡◌, ◌+◌, ◌<◌, ◌≤◌, List, [], ◌∷◌, ◌++◌, map, length, Ok, Err, Result, sym, refl, ap, ◌∙◌, subst, arith}
use Rattle.std.specs.List.Sorted.{IsPermutation}
use Rattle.std.proofs.lemmas.List.{length-map, length-append, length_push, map-append, append_assoc, append-nil}
use Rattle.std.proofs.lemmas.List.Sorted.{IsPermutation-cons, IsPermutation-trans, IsPermutation-to_front, length_permutation}
use Rattle.kinds.specs.declared.kind.Kind.{Ghosts as Meaning}
use Rattle.forks.specs.declared.row.Row.{Row}
use Rattle.lent.specs.declared.list.Full.{Full}
use Rattle.queue.specs.declared.heap.Heap.{Heap}
use Rattle.queue.specs.Heaps.{Heaped}
use Rattle.queue.specs.Held.{memory, held, Stores}
use Rattle.queue.proofs.Calls.{accepted}
use Rattle.deadlines.specs.declared.due.Due.{Due}
use Rattle.deadlines.specs.Ranking.{no_later}
use Rattle.deadlines.specs.Queues.{due_of, QueueHolds}

module _ {K : Type 0} where
  -- whatever was stored or not, the memory is as long as before
  stored_capacity : {U : Type 0} (q q' : Heap (Due K)) (r : Result U Full) (P : List (Due K) → Type 0) → Stores q q' r P → length (memory q') ≡ length (memory q)
  stored_capacity q q' (Ok _) P s = s.2
  stored_capacity q q' (Err _) P s = ap (λ h. length (memory h)) s.1

  -- the queue q, which held nothing, has the deadlines of these rows, if they find room
  pub record Appended (rs : List (Row K)) (was q : Heap (Due K)) : Type 0 where
    pub capacity : length (memory q) ≡ length (memory was)
    pub held_is : length rs ≤ length (memory was) → held q ≡ map due_of rs

  pub appended_more : {U : Type 0} (rs : List (Row K)) (was q q' : Heap (Due K)) (row : Row K) (r : Result U Full) →
      Stores q q' r (λ ds. ds ≡ held q ++ (due_of row ∷ [])) → Appended rs was q → Appended (rs ++ (row ∷ [])) was q'
  appended_more rs was q q' row r stores done = record {
    capacity = stored_capacity q q' r _ stores ∙ done.capacity;
    held_is = λ fits.
        let longer = length_push rs row in
        let before = done.held_is (omega arith) in
        let room : length (held q) < length (memory q) = omega (arith, ap length before, length-map rs due_of, done.capacity) in
        (accepted q q' _ r room stores).0 ∙ ap (λ ds. ds ++ (due_of row ∷ [])) before ∙ sym (map-append due_of rs (row ∷ []));
  }

module _ {K : Type 0} (kind : Meaning K) where
  pub appended_all : (rs : List (Row K)) (was q q' : Heap (Due K)) → Appended rs was q → IsPermutation (held q) (held q') → Heaped (no_later kind) (held q') → length rs ≤ length (memory was) → QueueHolds kind rs q'
  appended_all rs was q q' done bag order fits = record { bag = subst (λ ds. IsPermutation ds (held q')) (done.held_is fits) bag; order = order }

  -- the queue q, which held the deadlines of some rows, has those of these rows too, if they find room
  pub record Pushed (new : List (Row K)) (was q : Heap (Due K)) : Type 0 where
    pub capacity : length (memory q) ≡ length (memory was)
    pub holds : (rs : List (Row K)) → length rs + length new ≤ length (memory was) → QueueHolds kind rs was → QueueHolds kind (rs ++ new) q

  pub pushed_none : (q : Heap (Due K)) → Pushed [] q q
  pushed_none q = record { capacity = refl; holds = λ rs fits had. subst (λ xs. QueueHolds kind xs q) (sym (append-nil rs)) had }

  pub pushed_more : {U : Type 0} (new : List (Row K)) (was q q' : Heap (Due K)) (row : Row K) (r : Result U Full) →
      Stores q q' r (λ ds. IsPermutation (due_of row ∷ held q) ds × (Heaped (no_later kind) (held q) → Heaped (no_later kind) ds)) → Pushed new was q → Pushed (new ++ (row ∷ [])) was q'
  pushed_more new was q q' row r stores done = record {
    capacity = stored_capacity q q' r _ stores ∙ done.capacity;
    holds = λ rs fits had.
        let longer = length_push new row in
        let before = done.holds rs (omega arith) had in
        let dues = map due_of (rs ++ new) in
        let room : length (held q) < length (memory q) = omega (arith, length_permutation dues (held q) before.bag, length-map (rs ++ new) due_of, length-append rs new, done.capacity) in
        let took = (accepted q q' _ r room stores).0 in
        let all : map due_of (rs ++ (new ++ (row ∷ []))) ≡ dues ++ (due_of row ∷ []) = ap (map due_of) (sym (append_assoc rs new (row ∷ []))) ∙ map-append due_of (rs ++ new) (row ∷ []) in
        record {
          bag = subst (λ ds. IsPermutation ds (held q')) (sym all)
              (IsPermutation-trans (dues ++ (due_of row ∷ [])) (due_of row ∷ dues) (held q') (IsPermutation-to_front dues (due_of row))
              (IsPermutation-trans (due_of row ∷ dues) (due_of row ∷ held q) (held q') (IsPermutation-cons (due_of row) dues (held q) before.bag) took.0));
          order = took.1 before.order;
        };
  }
