-- What one parent is forked into is what the event makes of it, for the calls that were accepted.
use Rattle.std.proofs.Common.{◌≡◌, ℕ, ◌-◌, ◌*◌, ◌/◌, ◌<◌, ◌≤◌, ◌⊎◌, List, [], ◌∷◌, ◌++◌, map, length, get_or, drop, Some, sym, ap, ◌∙◌, subst, arith}
use Rattle.std.proofs.ByRecursion.{All-weaker, All-append}
use Rattle.std.proofs.lemmas.List.{length-take, length-drop, map-append}
use Rattle.std.proofs.lemmas.Bool.Decides.{Decides-at}
use Rattle.std.specs.List.{AllByRecursion as All}
use Rattle.kinds.specs.declared.kind.Kind.{Ghosts as Meaning}
use Rattle.logs.specs.Events.{Event}
use Rattle.law.specs.Bags.{Exactly}
use Rattle.law.specs.Each.{Each}
use Rattle.law.specs.Each.Each.{none, more}
use Rattle.law.specs.Histories.{R, Line as MeantLine, Act, event, Loading, loading_of}
use Rattle.law.specs.Holding.{width, HeldIn, Recognised}
use Rattle.law.specs.Steps.{Takes, ForkOf, RipeOf}
use Rattle.law.specs.Telling.{Row as HeldRow}
use Rattle.law.proofs.Counting.{exactly_as}
use Rattle.law.proofs.Events.{loaded_on, held_choice, ripe_choice}
use Rattle.law.proofs.Numbers.{numbered-at}
use Rattle.law.proofs.Ticks.{same_loading}
use Rattle.kinds.specs.declared.bound.Bound.{Bound}
use Rattle.law.specs.Forks.{Blank}
use Rattle.rows.specs.Filled.{is_in}
use Rattle.rows.specs.Placings.{loading_plus}
use Rattle.rows.specs.Portraits.{ClosedTable}
use Rattle.slots.specs.Loads.{slot_table}
use Rattle.report.specs.declared.line.Line.{Line}
use Rattle.report.specs.Lines.{line_of}
use Rattle.forks.specs.declared.row.Row.{Row}
use Rattle.forks.specs.declared.incoming.Incoming.{Incoming}
use Rattle.forks.specs.Forks.{Put, Parent as ForkParent, Forked}
use Rattle.forks.specs.Wanting.{mask_of}
use Rattle.forks.specs.Rows.{choice_of, row_of, Standing, InLoading}
use Rattle.forks.specs.Spreads.{numbered, Ready, SpreadOf, Spread}

module _ {K : Type 0} (kind : Meaning K) (a : List (Act kind.G)) (e : Event kind.G) (p : HeldRow) (l : Loading kind.G) (loaded : loading_of p.slot a ≡ Some l) where
  -- the event at a place of the parent
  takes_put : {k : List ℕ} → Takes a e p k → Put l p.choice (numbered a e) k
  takes_put t =
      let same = same_loading t.loaded loaded in (
        t.place,
        record {
          inside = subst (λ m. t.place < width m) same t.within;
          is_open = t.free;
          typed = subst (λ m. e.name ≡ get_or m.chronicle.types t.place []) same t.typed;
          choice = t.made;
        },
      )

  put_takes : {k : List ℕ} → Put l p.choice (numbered a e) k → Takes a e p k
  put_takes (j, q) = record { loading = l; loaded = loaded; place = j; within = q.inside; free = q.is_open; typed = q.typed; made = q.choice }

  pub rows_fork : (rs : List HeldRow) → Exactly (λ r. (r.slot ≡ p.slot) × Put l p.choice (numbered a e) r.choice × HeldIn kind.group (loading_plus l (numbered a e)) (Some e.stamp) r.choice) rs →
      Exactly (ForkOf kind.group a e p) rs
  rows_fork rs = exactly_as _ _ rs (λ r. (
    (λ (s, q, h). record { slot = s; takes = put_takes q; held = (loading_plus l (numbered a e), loaded_on a e r.slot l (ap (λ t. loading_of t a) s ∙ loaded), h) }),
    (λ f. let (m, is_m, h) = held_choice kind.group a e r f.held in
        let same : m ≡ l = same_loading is_m (ap (λ t. loading_of t a) f.slot ∙ loaded) in
        (f.slot, takes_put f.takes, subst (λ m. HeldIn kind.group (loading_plus m (numbered a e)) (Some e.stamp) r.choice) same h)),
  ))

  pub lines_ripen : (xs : List (MeantLine kind.G)) → Exactly (λ x. (x.letter ≡ R) × (x.slot ≡ p.slot) × (x.stamp ≡ e.stamp) × Put l p.choice (numbered a e) x.choice × Recognised kind.group (loading_plus l (numbered a e)) x.choice) xs →
      Exactly (RipeOf kind.group a e p) xs
  lines_ripen xs = exactly_as _ _ xs (λ x. (
    (λ (letter, s, stamp, q, rec). record {
      letter = letter;
      slot = s;
      takes = put_takes q;
      loading = loading_plus l (numbered a e);
      loaded = loaded_on a e x.slot l (ap (λ t. loading_of t a) s ∙ loaded);
      recognised = rec;
      stamp = stamp;
    }),
    (λ f. let (m, is_m, is-l, rec) = ripe_choice kind.group a e x.slot x.choice f.loading f.loaded f.recognised in
        let same : m ≡ l = same_loading is_m (ap (λ t. loading_of t a) f.slot ∙ loaded) in
        (f.letter, f.slot, f.stamp, takes_put f.takes, subst (λ m. Recognised kind.group (loading_plus m (numbered a e)) x.choice) same rec)),
  ))

module _ {K : Type 0} (kind : Meaning K) (a : List (Act kind.G)) (e : Event kind.G) where
  born_stand : (l : Loading kind.G) (slot : ℕ) → loading_of slot a ≡ Some l → (born : List (Row K)) → All (λ r. (r.slot ≡ slot) × Standing kind (loading_plus l (numbered a e)) r) born → All (InLoading kind (event e [] ∷ a)) born
  born_stand l slot loaded = All-weaker _ (InLoading kind (event e [] ∷ a)) (λ r (s, standing). (loading_plus l (numbered a e), loaded_on a e r.slot l (ap (λ t. loading_of t a) s ∙ loaded), standing))

  pub forked_spreads : (parent : Row K) (l : Loading kind.G) → loading_of parent.slot a ≡ Some l → (born : List (Row K)) (ripe : List (Line K)) →
      Forked kind l (numbered a e) (Put l (choice_of parent) (numbered a e)) parent.slot born ripe → SpreadOf kind a e (row_of parent) born ripe
  forked_spreads parent l loaded born ripe forked = record {
    forks = rows_fork kind a e (row_of parent) l loaded (map row_of born) forked.rows;
    ripens = lines_ripen kind a e (row_of parent) l loaded (map (line_of kind.value) ripe) forked.lines;
    standing = born_stand l parent.slot loaded born forked.standing;
  }

  pub spread_none : Spread kind a e [] [] []
  spread_none = record { forks = none; ripens = none; standing = tt }

  -- one parent more
  pub spread_more : (ps : List HeldRow) (p : HeldRow) (born born' : List (Row K)) (ripe ripe' : List (Line K)) → Spread kind a e ps born ripe → SpreadOf kind a e p born' ripe' → Spread kind a e (ps ++ (p ∷ [])) (born ++ born') (ripe ++ ripe')
  spread_more ps p born born' ripe ripe' old new = record {
    forks = subst (Each _ (ps ++ (p ∷ []))) (sym (map-append row_of born born')) (more old.forks new.forks);
    ripens = subst (Each _ (ps ++ (p ∷ []))) (sym (map-append (line_of kind.value) ripe ripe')) (more old.ripens new.ripens);
    standing = All-append (InLoading kind (event e [] ∷ a)) born born' old.standing new.standing;
  }

  -- where the slot's bounds lie among the entries
  pub table_lies : (s : ℕ) (entries : List (Bound K)) → 64 ≤ length (slot_table s entries) → 1 ≤ s → s ≤ length entries / 64
  table_lies s entries long low = omega (arith, length-take 64 (drop (64 * (s - 1)) entries), length-drop (64 * (s - 1)) entries)

  pub parent_of : (incoming : Incoming K) → Ready kind a e incoming → (parent : Row K) (l : Loading kind.G) → loading_of parent.slot a ≡ Some l → Standing kind l parent →
      Blank l (choice_of parent) ⊎ HeldIn kind.group l (Some e.stamp) (choice_of parent) → (table : List (Bound K)) → table ≡ slot_table parent.slot incoming.entries.now → (bits : ℕ) → ((j : ℕ) → is_in bits j ≡ is_in (mask_of incoming.wanted.now parent.slot) j) →
      ForkParent kind l (numbered a e) table bits incoming.arrival parent
  parent_of incoming ready parent l loaded standing alive table is-table bits same = record {
    standing = standing;
    closed = subst (ClosedTable kind.group kind.value kind.weight l) (sym is-table) (ready.tables parent.slot l loaded);
    wants = λ j. Decides-at _ _ (same j) (ready.wants parent.slot l loaded j);
    arrives = ready.arrives;
    numbered = omega arith;
    newest = λ f m. omega (arith, (numbered-at parent.slot a l loaded).most f m);
    alive = alive;
  }
