-- A survey of rows, one after another: one that ends counts for nothing, and one that stays takes the event.
use Rattle.std.proofs.Common.{◌≡◌, ℕ, ◌+◌, ◌<◌, ◌≤◌, List, [], ◌∷◌, ◌++◌, map, length, Some, None, Option, sym, refl, ◌∙◌, subst, inr, arith}
use Rattle.std.proofs.lemmas.List.{length_push, map_push, take_all}
use Rattle.std.specs.List.{slice_get}
use Rattle.kinds.specs.declared.kind.Kind.{Ghosts as Meaning}
use Rattle.lent.specs.Taking.{Adds}
use Rattle.logs.specs.Events.{Event}
use Rattle.law.specs.Histories.{Act, event}
use Rattle.law.specs.Holding.{HeldIn}
use Rattle.report.specs.declared.line.Line.{Line}
use Rattle.forks.specs.declared.row.Row.{Row}
use Rattle.forks.specs.declared.incoming.Incoming.{Incoming}
use Rattle.forks.specs.Ends.{Before, Settles}
use Rattle.forks.specs.Forks.{Sunk}
use Rattle.forks.specs.Rows.{choice_of, row_of, EndsAt}
use Rattle.forks.specs.Spreads.{Ready, Alive, SpreadOf, Spread, forgets, Surveyed}
use Rattle.forks.proofs.Settling.{in_loading, ends_here, settles_none, settles_stays, settles_ends}
use Rattle.forks.proofs.Sinking.{sunk_none, sunk_more}
use Rattle.forks.proofs.Spreading.{spread_none, spread_more}

forgets_adds : {A : Type 0} → Adds (forgets {A = A})
forgets_adds = record { none = λ s. tt; more = λ s t u xs ys a b. tt }

module _ {K R L : Type 0} (kind : Meaning K) {tookR : R → List (Row K) → R → Type 0} {tookL : L → List (Line K) → L → Type 0} (addsR : Adds tookR) (addsL : Adds tookL)
    (rows : List (Row K)) (incoming : Incoming K) where
  abbrev x : kind.G
  x = kind.value incoming.arrival.stamp

  pub survey_none : (r : R) (l : L) → Surveyed kind tookR tookL rows incoming 0 0 r r l l
  survey_none r l = record {
    kept = [];
    count = refl;
    settles = settles_none kind x rows forgets_adds tt;
    sunk = sunk_none addsR addsL r l _ (λ a e ready before. spread_none kind a e);
  }

  module _ (i stay : ℕ) (r r' : R) (l l' : L) (so : Surveyed kind tookR tookL rows incoming i stay r r' l l') (row : Row K) (inside : i < length rows) (here : slice_get rows i ≡ Some row) where
    pub survey_ends : (o : Option (Line K)) → (o ≡ None → ⊥) → EndsAt kind row x o → Surveyed kind tookR tookL rows incoming (i + 1) stay r r' l l'
    survey_ends None some ending = absurd (some refl)
    survey_ends (Some line) some ending = record {
      kept = so.kept;
      count = so.count;
      settles = settles_ends kind rows i row inside here x forgets_adds so.kept tt tt tt line so.settles tt ending;
      sunk = so.sunk;
    }

    -- a row that stays is alive at the event's stamp
    alive : EndsAt kind row x None → (a : List (Act kind.G)) (e : Event kind.G) → Ready kind a e incoming → Before kind a (event e []) x rows → Alive kind a e row
    alive ending a e ready before =
        let (m, loaded, standing) = in_loading kind rows i row inside here x a (event e []) before in
        (m, loaded, standing, inr (subst (λ t. HeldIn kind.group m (Some t) (choice_of row)) (sym ready.arrives.stamp) (ends_here kind rows i row inside here x a (event e []) before None ending)))

    pub survey_stays : (r'' : R) (l'' : L) → EndsAt kind row x None →
        Sunk tookR tookL r' r'' l' l'' (λ born ripe. (a : List (Act kind.G)) (e : Event kind.G) → Ready kind a e incoming → Alive kind a e row → SpreadOf kind a e (row_of row) born ripe) →
        Surveyed kind tookR tookL rows incoming (i + 1) (stay + 1) r r'' l l''
    survey_stays r'' l'' ending spread = record {
      kept = so.kept ++ (row ∷ []);
      count = omega (arith, so.count, length_push so.kept row);
      settles = settles_stays kind rows i row inside here x so.kept tt tt so.settles ending;
      sunk = sunk_more addsR addsL r r' r'' l l' l'' _ _ _
          (λ born born' ripe ripe' old new a e ready before.
          subst (λ ps. Spread kind a e ps (born ++ born') (ripe ++ ripe')) (sym (map_push row_of so.kept row))
          (spread_more kind a e (map row_of so.kept) (row_of row) born born' ripe ripe' (old a e ready before) (new a e ready (alive ending a e ready before))))
          so.sunk spread;
    }

  pub survey_all : (n stay : ℕ) (r r' : R) (l l' : L) → length rows ≤ n → Surveyed kind tookR tookL rows incoming n stay r r' l l' → Surveyed kind tookR tookL rows incoming (length rows) stay r r' l l'
  survey_all n stay r r' l l' all so = record {
    kept = so.kept;
    count = so.count;
    settles = subst (λ seen. Settles kind forgets x rows seen so.kept tt tt) (take_all n rows all ∙ sym (take_all (length rows) rows (omega arith))) so.settles;
    sunk = so.sunk;
  }
