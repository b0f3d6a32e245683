use Rattle.std.proofs.Common.{◌≡◌, ℕ, ◌≤◌, List, [], ◌∷◌, ◌++◌, length, take, sym, ◌∙◌, subst, arith}
use Rattle.std.specs.List.Sorted.{IsPermutation}
use Rattle.queue.specs.Heaps.{Heaped}
use Rattle.queue.proofs.Bags.{pushed}
use Rattle.queue.proofs.Fronts.{front, written, front_written, length_written}
use Rattle.queue.proofs.front.raise_last.Goals as goal

pub returns : goal.returns
returns g c =
    let leq = g.T.Ranked.leq in
    let ms = c.args.items.now in
    let ws = c.sift_up.new.items in
    let k = c.args.len in
    let inside : k ≤ length ms = omega arith in
    let long = c.sift_up.auto.items in
    let after : (n : ℕ) → k ≡ length (take n ms) → ws ≡ take n (written k ms ws) = λ n is. sym (front_written k ms ws long inside n is) in
    let rises : (n : ℕ) (xs : List g.row.T.Denot) (x : g.row.T.Denot) → k ≡ length (take n ms) → take n ms ≡ xs ++ (x ∷ []) → IsPermutation (x ∷ xs) ws × (Heaped leq xs → Heaped leq ws) = λ n xs x e is.
    pushed leq xs (take k ms) ws x (front k n ms e ∙ is) c.sift_up.ensures.shuffled c.sift_up.ensures.heaped in
    record {
      shuffled = λ n xs x e is. subst (IsPermutation (x ∷ xs)) (after n e) (rises n xs x e is).0;
      heaped = λ n xs x e is was. subst (Heaped leq) (after n e) ((rises n xs x e is).1 was);
      memory = length_written k ms ws long inside;
    }
