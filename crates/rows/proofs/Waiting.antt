-- Why a row stays held up to its deadline.
use Rattle.std.proofs.Common.{◌≡◌, ℕ, ◌<◌, true, List, Some, Decides, Option, sym, refl, ap, ◌∙◌, subst}
use Rattle.kinds.specs.Bounds.{at_most}
use Rattle.kinds.specs.Ordered.{Ordered}
use Rattle.kinds.specs.declared.bound.Bound.{Bound}
use Rattle.kinds.specs.declared.bound.Bound.TheVariants.{At, NoBound}
use Rattle.network.proofs.Order.{under, under_trans}
use Rattle.definitions.specs.Chronicles.{Given}
use Rattle.law.specs.Histories.{Loading}
use Rattle.law.specs.Holding.{at, width, Latest, HeldIn, Deadline}
use Rattle.law.specs.Schedules.{Passes}
use Rattle.law.specs.Tests.{is_filled, ClosedBy}
use Rattle.law.proofs.Extension.{chain_met}
use Rattle.law.proofs.Tests.{is_filled_lem, is_open, tests_decide}
use Rattle.rows.proofs.Least.{smallest_under}
use Rattle.rows.proofs.Sums.{closed_chain}

module _ {G : Type 0} (O : Ordered G) (l : Loading G) (k : List ℕ) (t : Option G) (closed : ℕ → ℕ → Bound G) (by : ClosedBy O l.chronicle closed (width l)) (held : HeldIn O l t k) (x : G) where
  abbrev OpenLatest : G → Type 0
  OpenLatest y = (j : ℕ) × (j < width l) × (at k j ≡ 0) × Latest O l k j y

  -- a row that is held keeps the bounds along chains
  along : (i j : ℕ) → i < width l → j < width l → (c : G) → closed i j ≡ At c → O.leq (held.stamps j) (O.plus (held.stamps i) c) ≡ true
  along i j p q c e = chain_met O l.chronicle.limits held.stamps held.meets (closed_chain O (Given l.chronicle.limits) i j (closed i j) (by.each i j p q) c e)

  up_to_deadline : (b : Bound G) → Deadline O l k b → at_most O (At x) b ≡ true → Passes O (width l) closed (is_filled k) held.stamps x
  up_to_deadline b due early = record {
    pairs = λ i j p q fi fj. along i j p q;
    latest = λ i j p q fi oj c e.
        let nz = is_filled_lem k i fi in
        let (event, fills) = held.choice.filled i p nz in
        let chain = closed_chain O (Given l.chronicle.limits) i j (closed i j) (by.each i j p q) c e in
        let is = held.agrees i event p nz fills in
        (under_trans O {a = At x} (under O early) (smallest_under O OpenLatest b due (O.plus (held.stamps i) c) (j, q, is_open k j oj, (i, event, c, p, nz, fills, chain, ap (λ s. O.plus s c) is)))).is;
  }

  not_past : (b : Bound G) → Deadline O l k b → HeldIn O l (Some x) k → at_most O (At x) b ≡ true
  not_past NoBound due still = refl
  not_past (At y) due still =
      let (j, q, o, (i, event, s, p, nz, fills, chain, is)) = due.0 in
      O.leq_trans x (still.stamps j) y (still.after j q o)
      (subst (λ z. O.leq (still.stamps j) z ≡ true) (ap (λ z. O.plus z s) (still.agrees i event p nz fills) ∙ sym is) (chain_met O l.chronicle.limits still.stamps still.meets chain))

  pub stays_held_lem : (b : Bound G) → Deadline O l k b → Decides (at_most O (At x) b) (HeldIn O l (Some x) k)
  stays_held_lem b due = (
    λ early. ((tests_decide O l k held.choice closed by held.stamps held.agrees x).held held.some_filled held.some_open).1 (up_to_deadline b due early),
    not_past b due,
  )
