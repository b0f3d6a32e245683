-- A watch that holds nothing stands for no calls.
use Rattle.std.proofs.Common.{◌≡◌, ℕ, [], map, length, None, sym, refl, ap, subst, arith}
use Rattle.std.specs.Option.{option_map}
use Rattle.std.specs.List.{AllByRecursion}
use Rattle.std.specs.List.Sorted.{IsPermutation}
use Rattle.std.proofs.lemmas.List.Sorted.{IsPermutation-refl}
use Rattle.kinds.specs.declared.kind.Kind.{Ghosts as Meaning}
use Rattle.law.specs.Laws.{Law}
use Rattle.law.specs.Telling.{Reads}
use Rattle.law.proofs.Laws.{law_follows_lem}
use Rattle.law.proofs.Sets.{exactly_none}
use Rattle.law.proofs.Ticks.{no_loading}
use Rattle.lent.specs.Lists.{held}
use Rattle.queue.specs.Heaps.{Heaped}
use Rattle.queue.specs.Held.{held as queue_held}
use Rattle.slots.specs.Slots.{types_in}
use Rattle.forks.specs.Rows.{row_of}
use Rattle.deadlines.specs.Queues.{due_of}
use Rattle.deadlines.specs.Ranking.{no_later}
use Rattle.recogniser.specs.declared.watch.Watch.{Watch}
use Rattle.recogniser.specs.Watches.{rows_read, lent_of, InLoading, Stands}

module _ {K : Type 0} (kind : Meaning K) where
  no_rows : Reads kind.group [] []
  no_rows = exactly_none _ (λ r (l, loaded, h). no_loading refl loaded)

  pub stands_new : (w : Watch K) → w.moment ≡ None → w.count ≡ 0 → ((s : ℕ) → types_in w.slots s ≡ None) → held w.rows ≡ [] → queue_held w.queue ≡ [] → Heaped (no_later kind) (queue_held w.queue) →
      Stands kind (lent_of w) [] w × Law kind (lent_of w) [] (rows_read w)
  stands_new w moment count empty rows queue heaped =
      let reads : Reads kind.group [] (rows_read w) = subst (λ rs. Reads kind.group [] (map row_of rs)) (sym rows) no_rows in (
        record {
          answered = tt;
          holds = record {
            lawful = tt;
            small = λ s l loaded. no_loading refl loaded;
            lent_is = refl;
            now_is = ap (option_map kind.value) moment;
            count_is = count;
            slots = empty;
            rows = reads;
            standing = subst (AllByRecursion (InLoading kind [])) (sym rows) tt;
            queue = record {
              bag = subst (λ rs. IsPermutation (map due_of rs) (queue_held w.queue)) (sym rows) (subst (IsPermutation []) (sym queue) (IsPermutation-refl []));
              order = heaped;
            };
            fits = omega (arith, ap length rows);
          };
        },
        law_follows_lem kind (lent_of w) [] (rows_read w) tt tt reads,
      )
