-- From the sums of stamps and closed bounds to latest stamps, by which chain whatever.
use Rattle.std.proofs.Common.{◌≡◌, ℕ, ◌+◌, ◌<◌, ◌≤◌, Bool, true, false, cond, not, List, length, MatchBool, Decides, sym, refl, ap, ◌∙◌, subst, arith}
use Rattle.std.proofs.lemmas.Bool.{false≢true, not-true, not_from_false}
use Rattle.kinds.specs.Bounds.{at_most, join, weighs, Smallest}
use Rattle.kinds.specs.Ordered.{Ordered}
use Rattle.kinds.specs.declared.bound.Bound.{Bound}
use Rattle.kinds.specs.declared.bound.Bound.TheVariants.{At, NoBound}
use Rattle.network.specs.Chains.{Chain, Closed}
use Rattle.network.specs.Steps.{Under}
use Rattle.network.specs.Tables.{entry, Inside}
use Rattle.network.proofs.Order.{under_refl, join_mono}
use Rattle.definitions.specs.Chronicles.{Given}
use Rattle.law.specs.Histories.{Loading}
use Rattle.law.specs.Holding.{width, Latest, Deadline}
use Rattle.law.specs.Tests.{is_filled}
use Rattle.law.proofs.Tests.{filled_is, open_is, is_filled_lem, is_open}
use Rattle.rows.specs.Filled.{is_in}
use Rattle.rows.specs.Placings.{Allows}
use Rattle.rows.specs.Portraits.{stamp_at, Portrays, ClosedTable, Depicts}
use Rattle.rows.specs.declared.portrait.Portrait.{Portrait}
use Rattle.rows.proofs.Least.{Among, smallest_under, smallest_itself, smallest_through, same_smallest}

module _ {G : Type 0} (O : Ordered G) where
  at_under : (b : Bound G) (z : G) → Under O b (At z) → (y : G) × (b ≡ At y) × (O.leq y z ≡ true)
  at_under (At y) z u = (y, refl, u.is)
  at_under NoBound z u = absurd (false≢true u.is)

  join_is : (s : G) (b : Bound G) (x : G) → join O (At s) b ≡ At x → (c : G) × (b ≡ At c) × (x ≡ O.plus s c)
  join_is s (At c) x e = (c, refl, cc)
  join_is s NoBound x e = let z : ◌≡◌ {A = ℕ} 0 1 = cc in absurd (omega arith)

  -- a closed bound is the smallest sum of a chain
  pub closed_smallest : (Gv : ℕ → ℕ → G → Type 0) (i j : ℕ) (b : Bound G) → Closed O Gv i j b → Smallest O (Chain O Gv i j) b
  closed_smallest Gv i j (At x) h = h
  closed_smallest Gv i j NoBound h = h

  pub closed_chain : (Gv : ℕ → ℕ → G → Type 0) (i j : ℕ) (b : Bound G) → Closed O Gv i j b → (c : G) → b ≡ At c → Chain O Gv i j c
  closed_chain Gv i j b closed c e = (subst (Closed O Gv i j) e closed).0

module _ {K G : Type 0} (O : Ordered G) (value : K → G) (p : Portrait K) where
  abbrev stamp : ℕ → G
  stamp i = stamp_at O value p.stamps.now i

  abbrev bound : ℕ → ℕ → Bound G
  bound i j = entry value p.table.now i j

  -- the sum of the stamp at i and the closed bound from i to j
  abbrev pub Sum : ℕ → ℕ → G → Type 0
  Sum j i x = join O (At (stamp i)) (bound i j) ≡ At x

  module _ (weight : G → ℕ) where
    -- b is what is added up for variables i and j, where the table has both and the sum is not too heavy
    abbrev pub AddsUp : ℕ → ℕ → Bound G → Type 0
    AddsUp j i b = Inside i j p.table.now → i < length p.stamps.now → weight (stamp i) + weighs weight (bound i j) ≤ 16777216 → b ≡ join O (At (stamp i)) (bound i j)

    -- r says so far whether stamp x at j allows variable i its stamp
    abbrev pub Limits : ℕ → G → Bool → ℕ → Type 0
    Limits j x r i = Inside j i p.table.now → i < length p.stamps.now → weight x + weighs weight (bound j i) ≤ 16777216 →
        r ≡ at_most O (At (cond (is_in p.filled.bits i) (stamp i) x)) (join O (At x) (bound j i))

    -- the smallest latest stamp of the open variables is the deadline
    pub deadline_is : (l : Loading G) (k : List ℕ) → Depicts O value weight l k p → (b : Bound G) → Smallest O (Among O (λ j. not (is_in p.filled.bits j)) (Latest O l k) p.width) b → Deadline O l k b
    deadline_is l k shown b = same_smallest O (Among O (λ j. not (is_in p.filled.bits j)) (Latest O l k) p.width) _ b
        (λ x (j, h, lacks, late). let h : j < width l = omega (arith, row.wide) in (j, h, is_open k j (sym (row.filled j h) ∙ not-true _ lacks), late))
        (λ x (j, h, open-here, late). (j, omega (arith, row.wide), not_from_false _ (row.filled j h ∙ open_is k j open-here), late))
      where
        row : Portrays O value weight l k p.filled.bits p.stamps.now p.width
        row = shown.portrays

    module _ (l : Loading G) (k : List ℕ) (shown : Depicts O value weight l k p) (j : ℕ) (q : j < width l) where
      row : Portrays O value weight l k p.filled.bits p.stamps.now p.width
      row = shown.portrays

      by : ClosedTable O value weight l p.table.now
      by = shown.closes

      -- what is added up for variable i is exact
      pub sum_here : (i : ℕ) → i < p.width → is_in p.filled.bits i ≡ true → (b : Bound G) → AddsUp j i b → Smallest O (Sum j i) b
      sum_here i h f b exact =
          let few = row.few in
          let wide = row.wide in
          let long = row.long in
          let h : i < width l = omega arith in
          let light = row.light i h (sym (row.filled i h) ∙ f) in
          subst (Smallest O (Sum j i)) (sym (exact (omega arith, omega arith, by.long) (omega arith) (omega (arith, by.light i j h q)))) (smallest_itself O (join O (At (stamp i)) (bound i j)))

      -- the limit that stamp x at j sets variable i is exact, and it is tested against what is filled
      pub limit_here : (x : G) → weight x ≤ 256 → (i : ℕ) → i < width l → (r : Bool) → Limits j x r i → r ≡ at_most O (At (cond (is_filled k i) (stamp i) x)) (join O (At x) (bound j i))
      limit_here x light i h r is =
          let few = row.few in
          let long = row.long in
          is (omega arith, omega arith, by.long) (omega arith) (omega (arith, by.light j i q h)) ∙ ap (λ t. at_most O (At (cond t (stamp i) x)) (join O (At x) (bound j i))) (row.filled i h)

      -- a test of every variable says whether x at j allows them all
      pub limits_decide : (x : G) → weight x ≤ 256 → (r : Bool) → MatchBool r ((i : ℕ) → i < p.width → Limits j x true i) ((i : ℕ) × (i < p.width) × Limits j x false i) → Decides r ((i : ℕ) → i < width l → Allows O bound (is_filled k) stamp x j i)
      limits_decide x light true all = (λ e i h. sym (limit_here x light i h true (all i (omega (arith, row.wide)))), λ each. refl)
      limits_decide x light false (i, h, not) =
          let wide = row.wide in
          let h : i < width l = omega arith in
          (λ e. absurd (false≢true e), λ each. absurd (false≢true (limit_here x light i h false not ∙ each i h)))

      pub latest_is : (b : Bound G) → Smallest O (Among O (is_in p.filled.bits) (Sum j) p.width) b → Smallest O (Latest O l k j) b
      latest_is b = smallest_through O (Among O (is_in p.filled.bits) (Sum j) p.width) (Latest O l k j) b on back
        where
          on : (x : G) → Among O (is_in p.filled.bits) (Sum j) p.width x → Latest O l k j x
          on x (i, h, f, e) =
              let wide = row.wide in
              let h : i < width l = omega arith in
              let nz = is_filled_lem k i (sym (row.filled i h) ∙ f) in
              let (event, fills) = row.choice.filled i h nz in
              let (c, is, sum) = join_is O (stamp i) (bound i j) x e in
              (i, event, c, h, nz, fills, closed_chain O (Given l.chronicle.limits) i j (bound i j) (by.closed.each i j h q) c is, sum ∙ ap (λ s. O.plus s c) (row.agrees i event h nz fills))

          back : (x : G) → Latest O l k j x → (y : G) × Among O (is_in p.filled.bits) (Sum j) p.width y × (O.leq y x ≡ true)
          back x (i, event, s, h, nz, fills, chain, is) =
              let wide = row.wide in
              let own = At (stamp i) in
              let low = smallest_under O (Chain O (Given l.chronicle.limits) i j) (bound i j) (closed_smallest O (Given l.chronicle.limits) i j (bound i j) (by.closed.each i j h q)) s chain in
              let (y, e, le) = at_under O (join O own (bound i j)) (O.plus (stamp i) s) (join_mono O (under_refl O own) low) in
              (y, (i, omega arith, row.filled i h ∙ filled_is k i nz, e), subst (λ z. O.leq y z ≡ true) (ap (λ t. O.plus t s) (row.agrees i event h nz fills) ∙ sym is) le)
