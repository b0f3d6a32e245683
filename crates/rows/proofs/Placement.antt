-- A new event at an open variable: the choice with it, and what the tests say of that.
use Rattle.std.proofs.Common.{◌≡◌, ℕ, ◌<◌, ◌≤◌, Bool, true, false, cond, not, ◌&&◌, ◌||◌, eqb, ltb, List, [], map, get_or, set, Decides, sym, refl, ap, ◌∙◌, subst, inl, inr, ⊎_elim, arith}
use Rattle.std.proofs.lemmas.List.{length-set, length-map, map-set, get_or-set_same, get_or-set_other}
use Rattle.std.proofs.lemmas.Bool.{both_ways, cases_eq, eq-eqb, ne_eqb, lt-ltb, and_from, or_right}
use Rattle.kinds.specs.Ordered.{Ordered}
use Rattle.kinds.specs.declared.bound.Bound.{Bound}
use Rattle.network.specs.Tables.{entry}
use Rattle.law.specs.Histories.{Seen, Loading}
use Rattle.law.specs.Holding.{at, width, Fills, Choice, Agrees}
use Rattle.law.specs.Schedules.{Passes}
use Rattle.law.specs.Tests.{is_filled, ClosedBy, TestsDecide}
use Rattle.law.proofs.Tests.{filled_is, open_is, is_filled_lem, is_open, tests_decide}
use Rattle.rows.specs.Filled.{is_in, NoneOpen, FirstOpen}
use Rattle.rows.specs.Placings.{loading_plus, choice_plus, Placeable, Placed, Allows}
use Rattle.rows.specs.Portraits.{stamp_at, Portrays, ClosedTable, Depicts}
use Rattle.rows.specs.declared.portrait.Portrait.{Portrait}
use Rattle.rows.specs.declared.holding.Placing.TheVariants.{Fails, Grows, Ripens}
use Rattle.rows.proofs.Growth.{passes_allows, allows_passes}

module _ {G : Type 0} (O : Ordered G) (l : Loading G) (k : List ℕ) (choice : Choice l k) (j : ℕ) (e : Seen G) (new : Placeable O l k j e) where
  abbrev pub k' : List ℕ
  k' = choice_plus k j e

  at_new : at k' j ≡ e.number
  at_new = let inside = new.inside in get_or-set_same k j e.number 0 (omega (arith, choice.wide))

  at_old : (i : ℕ) → (i ≡ j → ⊥) → at k' i ≡ at k i
  at_old i ne = get_or-set_other k j i e.number 0 ne

  pub new_filled : is_filled k' j ≡ true
  new_filled = filled_is k' j (λ z. omega (arith, at_new, new.numbered))

  pub old_filled : (i : ℕ) → (i ≡ j → ⊥) → is_filled k' i ≡ is_filled k i
  old_filled i ne = ap (λ m. not (eqb m 0)) (at_old i ne)

  -- the bits with one more are those of the choice with the event
  pub bits_plus : (bits bits' : ℕ) → width l ≤ 8 → ((i : ℕ) → i < width l → is_in bits i ≡ is_filled k i) → ((i : ℕ) → is_in bits' i ≡ (is_in bits i || (eqb j i && ltb j 8))) → (i : ℕ) → i < width l → is_in bits' i ≡ is_filled k' i
  bits_plus bits bits' few filled added i p = ⊎_elim
      (λ s. added i ∙ or_right (is_in bits i) _ (and_from _ _ (eq-eqb j i (sym s)) (lt-ltb j 8 (omega (arith, new.inside)))) ∙ sym (ap (is_filled k') s ∙ new_filled))
      (λ ne. added i ∙ ap (λ t. is_in bits i || (t && ltb j 8)) (ne_eqb j i (λ s. ne (sym s))) ∙ or_none (is_in bits i) ∙ filled i p ∙ sym (old_filled i ne)) (cases_eq i j)
    where
      or_none : (t : Bool) → (t || false) ≡ t
      or_none true = refl
      or_none false = refl

  -- what fills a variable of the choice as it was has a smaller number
  before : (i : ℕ) → i < width l → (at k i ≡ 0 → ⊥) → at k i < e.number
  before i p nz = let (f, fills) = choice.filled i p nz in omega (arith, fills.number, new.newest f fills.among)

  -- the old event of a variable fills it still, and no other does
  fills_on : (i : ℕ) → (i ≡ j → ⊥) → (f : Seen G) → Fills l k i f → Fills (loading_plus l e) k' i f
  fills_on i ne f fills = record { among = inr fills.among; number = fills.number ∙ sym (at_old i ne); typed = fills.typed }

  fills_back : (i : ℕ) → i < width l → (i ≡ j → ⊥) → (at k i ≡ 0 → ⊥) → (f : Seen G) → Fills (loading_plus l e) k' i f → Fills l k i f
  fills_back i p ne nz f fills = record {
    among = ⊎_elim (λ s. let less = before i p nz in absurd (omega (arith, fills.number, at_old i ne, ap (λ f. f.number) s))) (λ m. m) fills.among;
    number = fills.number ∙ at_old i ne;
    typed = fills.typed;
  }

  fills_new : (f : Seen G) → Fills (loading_plus l e) k' j f → e ≡ f
  fills_new f fills = ⊎_elim (λ s. s) (λ m. absurd (omega (arith, fills.number, at_new, new.newest f m))) fills.among

  pub choice_plus_lem : Choice (loading_plus l e) k'
  choice_plus_lem = record {
    wide = length-set k j e.number ∙ choice.wide;
    filled = λ i p nz. ⊎_elim
        (λ s. (e, record { among = inl refl; number = sym (ap (at k') s ∙ at_new); typed = new.typed ∙ ap (λ i. get_or l.chronicle.types i []) (sym s) }))
        (λ ne. let (f, fills) = choice.filled i p (λ z. nz (at_old i ne ∙ z)) in (f, fills_on i ne f fills)) (cases_eq i j);
    distinct = distinct;
  }
    where
      distinct : (i m : ℕ) → i < width l → m < width l → (at k' i ≡ 0 → ⊥) → at k' i ≡ at k' m → i ≡ m
      distinct i m p q nz same = ⊎_elim
          (λ s. ⊎_elim (λ t. s ∙ sym t) (λ nt. absurd (clash m q nt (sym same ∙ ap (at k') s))) (cases_eq m j))
          (λ ns. ⊎_elim (λ t. absurd (clash i p ns (same ∙ ap (at k') t)))
          (λ nt. choice.distinct i m p q (λ z. nz (at_old i ns ∙ z)) (sym (at_old i ns) ∙ same ∙ at_old m nt)) (cases_eq m j)) (cases_eq i j)
        where
          clash : (i : ℕ) → i < width l → (i ≡ j → ⊥) → at k' i ≡ at k' j → ⊥
          clash i p ne same =
              let numbered = new.numbered in
              let is : at k i ≡ e.number = sym (at_old i ne) ∙ same ∙ at_new in
              let less = before i p (λ z. omega arith) in
              omega arith

  module _ (stamp : ℕ → G) (agrees : Agrees l k stamp) where
    abbrev pub stamp' : ℕ → G
    stamp' i = cond (eqb i j) e.seen.stamp (stamp i)

    new_stamp : stamp' j ≡ e.seen.stamp
    new_stamp = ap (λ t. cond t e.seen.stamp (stamp j)) (eq-eqb j j refl)

    old_stamp : (i : ℕ) → (i ≡ j → ⊥) → stamp' i ≡ stamp i
    old_stamp i ne = ap (λ t. cond t e.seen.stamp (stamp i)) (ne_eqb i j ne)

    agrees_plus : Agrees (loading_plus l e) k' stamp'
    agrees_plus i f p nz fills = ⊎_elim
        (λ s. ap stamp' s ∙ new_stamp ∙ ap (λ f. f.seen.stamp) (fills_new f (subst (λ i. Fills (loading_plus l e) k' i f) s fills)))
        (λ ne. let open-not : at k i ≡ 0 → ⊥ = λ z. nz (at_old i ne ∙ z) in old_stamp i ne ∙ agrees i f p open-not (fills_back i p ne open-not f fills)) (cases_eq i j)

    module _ (closed : ℕ → ℕ → Bound G) (by : ClosedBy O l.chronicle closed (width l)) where
      -- the parent passes: nothing is filled, or it is held
      parent_passes : Passes O (width l) closed (is_filled k) stamp e.seen.stamp
      parent_passes = ⊎_elim
          (λ blank. record {
            pairs = λ i m p q f. absurd (is_filled_lem k i f (blank i p));
            latest = λ i m p q f. absurd (is_filled_lem k i f (blank i p));
          })
          (λ held. ((tests_decide O l k choice closed by stamp agrees e.seen.stamp).held held.some_filled held.some_open).0 held) new.alive

      decide : TestsDecide O (loading_plus l e) k' closed stamp' e.seen.stamp
      decide = tests_decide O (loading_plus l e) k' choice_plus_lem closed by stamp' agrees_plus e.seen.stamp

      abbrev pub AllowsAll : Type 0
      AllowsAll = (i : ℕ) → i < width l → Allows O closed (is_filled k) stamp e.seen.stamp j i

      allowed : Passes O (width l) closed (is_filled k') stamp' e.seen.stamp → AllowsAll
      allowed = passes_allows O (width l) closed (is_filled k) (is_filled k') stamp stamp' j new.inside e.seen.stamp (open_is k j new.is_open) new_filled new_stamp old_filled old_stamp

      passes : AllowsAll → Passes O (width l) closed (is_filled k') stamp' e.seen.stamp
      passes = allows_passes O (width l) closed (is_filled k) (is_filled k') stamp stamp' j new.inside e.seen.stamp (open_is k j new.is_open) new_filled new_stamp old_filled old_stamp parent_passes

      pub fails : (AllowsAll → ⊥) → Placed O (loading_plus l e) k' e.seen.stamp Fails
      fails not-all = (λ held. not-all (allowed ((decide.held held.some_filled held.some_open).0 held)), λ r. not-all (allowed ((decide.recognised r.full).0 r)))

      pub grows : AllowsAll → (i : ℕ) → i < width l → is_filled k' i ≡ false → Placed O (loading_plus l e) k' e.seen.stamp Grows
      grows all i p o = (decide.held (j, new.inside, is_filled_lem k' j new_filled) (i, p, is_open k' i o)).1 (passes all)

      pub ripens : AllowsAll → ((i : ℕ) → i < width l → is_filled k' i ≡ true) → Placed O (loading_plus l e) k' e.seen.stamp Ripens
      ripens all full = (decide.recognised (λ i p. is_filled_lem k' i (full i p))).1 (passes all)

-- the same for a portrait of the choice: r says whether x, the stamp of the event, allows every variable
module _ {K G : Type 0} (O : Ordered G) (value : K → G) (weight : G → ℕ) (l : Loading G) (k : List ℕ) (p : Portrait K) (shown : Depicts O value weight l k p)
    (j : ℕ) (e : Seen G) (new : Placeable O l k j e) (x : G) (is : e.seen.stamp ≡ x) (r : Bool)
    (decides : Decides r ((i : ℕ) → i < width l → Allows O (entry value p.table.now) (is_filled k) (stamp_at O value p.stamps.now) x j i)) where
  row : Portrays O value weight l k p.filled.bits p.stamps.now p.width
  row = shown.portrays

  by : ClosedTable O value weight l p.table.now
  by = shown.closes

  allows_own : Decides r (AllowsAll O l k row.choice j e new (stamp_at O value p.stamps.now) row.agrees (entry value p.table.now) by.closed)
  allows_own = subst (λ x. Decides r ((i : ℕ) → i < width l → Allows O (entry value p.table.now) (is_filled k) (stamp_at O value p.stamps.now) x j i)) (sym is) decides

  pub place_fails : r ≡ false → Placed O (loading_plus l e) (choice_plus k j e) e.seen.stamp Fails
  place_fails f = fails O l k row.choice j e new (stamp_at O value p.stamps.now) row.agrees (entry value p.table.now) by.closed (λ all. both_ways r f (allows_own.1 all))

  module _ (t : r ≡ true) (bits' : ℕ) (added : (i : ℕ) → is_in bits' i ≡ (is_in p.filled.bits i || (eqb j i && ltb j 8))) where
    filled_now : (i : ℕ) → i < width l → is_in bits' i ≡ is_filled (choice_plus k j e) i
    filled_now = bits_plus O l k row.choice j e new p.filled.bits bits' row.few row.filled added

    pub place_grows : (i : ℕ) → FirstOpen bits' p.width i → Placed O (loading_plus l e) (choice_plus k j e) e.seen.stamp Grows
    place_grows i first =
        let h : i < width l = omega (arith, row.wide, first.among) in
        grows O l k row.choice j e new (stamp_at O value p.stamps.now) row.agrees (entry value p.table.now) by.closed (allows_own.0 t) i h (sym (filled_now i h) ∙ first.is_open)

    pub place_ripens : NoneOpen bits' p.width → Placed O (loading_plus l e) (choice_plus k j e) e.seen.stamp Ripens
    place_ripens full =
        ripens O l k row.choice j e new (stamp_at O value p.stamps.now) row.agrees (entry value p.table.now) by.closed (allows_own.0 t)
        (λ i h. sym (filled_now i h) ∙ full i (omega (arith, row.wide)))

-- the choice with the event in memory: its bit and its stamp added
module _ {K G : Type 0} (O : Ordered G) (value : K → G) (weight : G → ℕ) (l : Loading G) (k : List ℕ) (bits : ℕ) (stamps : List K) (n : ℕ) (row : Portrays O value weight l k bits stamps n)
    (j : ℕ) (e : Seen G) (new : Placeable O l k j e) (x : K) (is : e.seen.stamp ≡ value x) (light : weight (value x) ≤ 256) (bits' : ℕ) (added : (i : ℕ) → is_in bits' i ≡ (is_in bits i || (eqb j i && ltb j 8))) where
  stamp_new : stamp_at O value (set stamps j x) j ≡ value x
  stamp_new =
      let inside = new.inside in
      ap (λ s. get_or s j O.zero) (map-set value stamps j x) ∙ get_or-set_same (map value stamps) j (value x) O.zero (omega (arith, row.long, length-map stamps value))

  stamp_old : (i : ℕ) → (i ≡ j → ⊥) → stamp_at O value (set stamps j x) i ≡ stamp_at O value stamps i
  stamp_old i ne = ap (λ s. get_or s i O.zero) (map-set value stamps j x) ∙ get_or-set_other (map value stamps) j i (value x) O.zero ne

  stamps_plus : (i : ℕ) → stamp_at O value (set stamps j x) i ≡ stamp' O l k row.choice j e new (stamp_at O value stamps) row.agrees i
  stamps_plus i = ⊎_elim
      (λ s. ap (stamp_at O value (set stamps j x)) s ∙ stamp_new ∙ sym is ∙ sym (ap (stamp' O l k row.choice j e new (stamp_at O value stamps) row.agrees) s ∙ new_stamp O l k row.choice j e new (stamp_at O value stamps) row.agrees))
      (λ ne. stamp_old i ne ∙ sym (old_stamp O l k row.choice j e new (stamp_at O value stamps) row.agrees i ne)) (cases_eq i j)

  pub portrays_plus : Portrays O value weight (loading_plus l e) (choice_plus k j e) bits' (set stamps j x) n
  portrays_plus = record {
    choice = choice_plus_lem O l k row.choice j e new;
    wide = row.wide;
    few = row.few;
    long = omega (arith, row.long, length-set stamps j x);
    filled = bits_plus O l k row.choice j e new bits bits' row.few row.filled added;
    agrees = λ i f p nz fills. stamps_plus i ∙ agrees_plus O l k row.choice j e new (stamp_at O value stamps) row.agrees i f p nz fills;
    light = λ i p f. ⊎_elim
        (λ s. subst (λ y. weight y ≤ 256) (sym (ap (stamp_at O value (set stamps j x)) s ∙ stamp_new)) light)
        (λ ne. subst (λ y. weight y ≤ 256) (sym (stamp_old i ne)) (row.light i p (sym (old_filled O l k row.choice j e new i ne) ∙ f))) (cases_eq i j);
  }

-- a table stays that of the chronicle as events come in
pub closed_plus : {K G : Type 0} (O : Ordered G) (value : K → G) (weight : G → ℕ) (l : Loading G) (table : List (Bound K)) (e : Seen G) → ClosedTable O value weight l table → ClosedTable O value weight (loading_plus l e) table
closed_plus O value weight l table e by = record { long = by.long; closed = by.closed; light = by.light }
