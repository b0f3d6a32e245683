-- What was a choice, held, recognised or due before an event is so after it, and back, where the event is not in it.
use Rattle.std.proofs.Common.{◌≡◌, ℕ, ◌<◌, ◌≤◌, true, List, length, Some, None, Option, refl, inl, inr, arith}
use Rattle.std.proofs.lemmas.Bool.{cases_eq}
use Rattle.kinds.specs.Ordered.{Ordered}
use Rattle.kinds.specs.declared.bound.Bound.{Bound}
use Rattle.kinds.specs.declared.bound.Bound.TheVariants.{At, NoBound}
use Rattle.definitions.specs.Chronicles.{Chronicle}
use Rattle.law.specs.Bags.{◌∈◌}
use Rattle.law.specs.Histories.{Seen, Loading}
use Rattle.law.specs.Holding.{at, Fills, Choice, Agrees, NotBefore, HeldIn, Recognised, Latest, Deadline, HoldingShrinks}
use Rattle.law.specs.Telling.{LastStamp}
use Rattle.law.proofs.Numbers.{Numbered}

abbrev pub loading_with : {G : Type 0} → Chronicle G → List (Seen G) → Loading G
loading_with c since = record { chronicle = c; since = since }

-- all places of a choice have numbers up to n
abbrev pub Old : {G : Type 0} → Chronicle G → ℕ → List ℕ → Type 0
Old c n k = (i : ℕ) → i < length c.types → at k i ≤ n

-- a choice of a loading is of its events
pub choice_old : {G : Type 0} (c : Chronicle G) (xs : List (Seen G)) (n : ℕ) (k : List ℕ) → Numbered n xs → Choice (loading_with c xs) k → Old c n k
choice_old c xs n k num choice i p = go (at k i) refl
  where
    go : (m : ℕ) → at k i ≡ m → at k i ≤ n
    go m e = elim (cases_eq (at k i) 0) [
      | inl z ↦ omega arith
      | inr nz ↦ let f = choice.filled i p nz in omega (arith, f.1.number, num.most f.0 f.1.among)
    ]

-- stamps that are none before a moment are none before an earlier one
pub holding_shrinks_lem : {G : Type 0} (group : Ordered G) → HoldingShrinks group
holding_shrinks_lem {G} group l k before now later r = record {
  choice = r.choice;
  some_filled = r.some_filled;
  some_open = r.some_open;
  stamps = r.stamps;
  agrees = r.agrees;
  after = λ i p o. earlier before (r.stamps i) later (r.after i p o);
  meets = r.meets;
}
  where
    earlier : (t : Option G) (x : G) → NotBefore group t now → group.leq now x ≡ true → NotBefore group t x
    earlier None x a b = tt
    earlier (Some v) x a b = group.leq_trans v now x a b

-- the loading with the events xs, and the same with ys, which adds none numbered up to n
module _ {G : Type 0} (c : Chronicle G) (xs ys : List (Seen G)) (n : ℕ) (keep : (e : Seen G) → e ∈ xs → e ∈ ys) (lose : (e : Seen G) → e ∈ ys → e.number ≤ n → e ∈ xs) where
  abbrev before : Loading G
  before = loading_with c xs

  abbrev now_with : Loading G
  now_with = loading_with c ys

  fills_on : (k : List ℕ) (i : ℕ) (e : Seen G) → Fills before k i e → Fills now_with k i e
  fills_on k i e f = record { among = keep e f.among; number = f.number; typed = f.typed }

  fills_back : (k : List ℕ) (i : ℕ) (e : Seen G) → at k i ≤ n → Fills now_with k i e → Fills before k i e
  fills_back k i e old f = record { among = lose e f.among (omega (arith, f.number)); number = f.number; typed = f.typed }

  module _ (k : List ℕ) (old : Old c n k) where
    pub choice_on : Choice before k → Choice now_with k
    choice_on choice = record { wide = choice.wide; filled = λ i p nz. let f = choice.filled i p nz in (f.0, fills_on k i f.0 f.1); distinct = choice.distinct }

    pub choice_back : Choice now_with k → Choice before k
    choice_back choice = record { wide = choice.wide; filled = λ i p nz. let f = choice.filled i p nz in (f.0, fills_back k i f.0 (old i p) f.1); distinct = choice.distinct }

    agrees_on : (stamp : ℕ → G) → Agrees before k stamp → Agrees now_with k stamp
    agrees_on stamp a i e p nz f = a i e p nz (fills_back k i e (old i p) f)

    agrees_back : (stamp : ℕ → G) → Agrees now_with k stamp → Agrees before k stamp
    agrees_back stamp a i e p nz f = a i e p nz (fills_on k i e f)

    pub last_on : (x : G) → LastStamp before k x → LastStamp now_with k x
    last_on x (i, e, p, nz, f, top, is) = (i, e, p, nz, fills_on k i e f, top, is)

    pub last_back : (x : G) → LastStamp now_with k x → LastStamp before k x
    last_back x (i, e, p, nz, f, top, is) = (i, e, p, nz, fills_back k i e (old i p) f, top, is)

    module _ (group : Ordered G) where
      pub recognised_on : Recognised group before k → Recognised group now_with k
      recognised_on r = record { choice = choice_on r.choice; full = r.full; stamps = r.stamps; agrees = agrees_on r.stamps r.agrees; meets = r.meets }

      pub recognised_back : Recognised group now_with k → Recognised group before k
      recognised_back r = record { choice = choice_back r.choice; full = r.full; stamps = r.stamps; agrees = agrees_back r.stamps r.agrees; meets = r.meets }

      pub held_back : (t : Option G) (u : G) → NotBefore group t u → HeldIn group now_with (Some u) k → HeldIn group before t k
      held_back t u later r = holding_shrinks_lem group before k t u later (record {
        choice = choice_back r.choice;
        some_filled = r.some_filled;
        some_open = r.some_open;
        stamps = r.stamps;
        agrees = agrees_back r.stamps r.agrees;
        after = r.after;
        meets = r.meets;
      })

      pub held_on : (t : Option G) → HeldIn group before t k → HeldIn group now_with t k
      held_on t r = record {
        choice = choice_on r.choice;
        some_filled = r.some_filled;
        some_open = r.some_open;
        stamps = r.stamps;
        agrees = agrees_on r.stamps r.agrees;
        after = r.after;
        meets = r.meets;
      }

      latest_on : (j : ℕ) (x : G) → Latest group before k j x → Latest group now_with k j x
      latest_on j x (i, e, s, p, nz, f, chain, is) = (i, e, s, p, nz, fills_on k i e f, chain, is)

      latest_back : (j : ℕ) (x : G) → Latest group now_with k j x → Latest group before k j x
      latest_back j x (i, e, s, p, nz, f, chain, is) = (i, e, s, p, nz, fills_back k i e (old i p) f, chain, is)

      pub deadline_on : (b : Bound G) → Deadline group before k b → Deadline group now_with k b
      deadline_on (At x) ((j, p, o, l), least) = ((j, p, o, latest_on j x l), λ y (j, p, o, l). least y (j, p, o, latest_back j y l))
      deadline_on NoBound none = λ y (j, p, o, l). none y (j, p, o, latest_back j y l)

      pub deadline_back : (b : Bound G) → Deadline group now_with k b → Deadline group before k b
      deadline_back (At x) ((j, p, o, l), least) = ((j, p, o, latest_back j x l), λ y (j, p, o, l). least y (j, p, o, latest_on j y l))
      deadline_back NoBound none = λ y (j, p, o, l). none y (j, p, o, latest_on j y l)
