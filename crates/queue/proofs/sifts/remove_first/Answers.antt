use Rattle.std.proofs.Common.{◌≡◌, ◌-◌, ◌∷◌, length, take, set, sym, subst, arith}
use Rattle.std.specs.List.Sorted.{IsPermutation}
use Rattle.std.proofs.lemmas.List.{get_or_read, length-set, length-take-le}
use Rattle.queue.specs.Heaps.{Heaped}
use Rattle.queue.proofs.Bags.{removed, one_less}
use Rattle.queue.proofs.Fronts.{written, front_written}
use Rattle.queue.proofs.sifts.remove_first.Goals as goal

pub returns : goal.returns
returns g c =
    let leq = g.T.Ranked.leq in
    let xs = c.args.items.now in
    let n = length xs - 1 in
    let last = c.index-items-last.result in
    let ms = set xs 0 last in
    let ws = c.sift_down.new.items in
    let is_last = get_or_read xs n last (omega arith) c.index-items-last.is in
    let kept = length-set xs 0 last in
    let part = length-take-le n ms (omega arith) in
    let after : take n (written n ms ws) ≡ ws = front_written n ms ws c.sift_down.auto.items (omega arith) n (omega arith) in
    record {
      shuffled = λ x is. subst (λ ys. IsPermutation xs (x ∷ ys)) (sym after) (removed xs ws x last is (omega arith) is_last c.sift_down.ensures.shuffled);
      heaped = λ was. subst (Heaped leq) (sym after) (c.sift_down.ensures.heaped (one_less leq xs last (omega arith) was));
    }
