use Rattle.std.proofs.Common.{◌++◌, map, length, drop, sym, ap, ◌∙◌, subst, arith, length-append}
use Rattle.std.proofs.lemmas.List.{drop_at, map-append}
use Rattle.std.proofs.lemmas.Iterator.{YieldsList-from_slice}
use Rattle.std.proofs.lemmas.Iterator.Adapters.{YieldsList-from_skip}
use Rattle.std.proofs.lemmas.Iterator.Consumers.{YieldsList-at, YieldsList-end}
use Rattle.deadlines.proofs.Fills.{pushed_more}
use Rattle.deadlines.specs.Queues.{QueueHolds}
use Rattle.deadlines.proofs.of_rows.push_from.Goals as goal

pub loop-row-preserved : goal.loop-row-preserved
loop-row-preserved g c = rw map-append
    (pushed_more g.K.Kind (map (λ r. r.now) c.loop-row.yielded) c.args.queue.now c.loop-row.queue c.push.new.self c.in-Some.row.now c.push.result c.push.ensures c.loop-row.invariant)

-- the loop has seen just the rows from there on
pub returns : goal.returns
returns g c =
    let seen = YieldsList-end (YieldsList-at c.into_iter-row-iterator.ensures.into_iter_gives (YieldsList-from_skip c.args.from (YieldsList-from_slice c.as_slice.result.now cc) cc))
    c.loop-row.yielded _ c.loop-row.yielded_by _ _ c.in-None.is c.next.ensures.steps in
    let done = c.loop-row.invariant in
    record {
      holds = λ rs new is long had fits.
          let rest = seen.0 ∙ ap (drop c.args.from) (c.as_slice.ensures ∙ is) ∙ drop_at rs new c.args.from long in
          let both = ap length is ∙ length-append rs new in
          let all = ap (λ xs. rs ++ xs) rest ∙ sym is in
          subst (λ xs. QueueHolds g.K.Kind xs c.loop-row.queue) all (done.holds rs (let k = ap length rest in omega arith) had);
      capacity = done.capacity;
    }
