-- Rows that stay move to the front, over those that have been seen.
use Rattle.std.proofs.Common.{◌≡◌, ℕ, zero, suc, ◌+◌, ◌<◌, ◌≤◌, List, [], ◌∷◌, ◌++◌, length, take, drop, Some, None, sym, refl, ap, ◌∙◌, subst, arith}
use Rattle.std.specs.List.{slice_get}
use Rattle.std.proofs.lemmas.List.{take_more_set, drop-set-lt, drop-drop, length-set}
use Rattle.kinds.specs.declared.kind.Kind.{Ghosts as Meaning}
use Rattle.lent.specs.declared.list.Lent.{Lent}
use Rattle.lent.specs.Lists.{memory, held, Replaces}
use Rattle.lent.specs.Taking.{Adds}
use Rattle.report.specs.declared.line.Line.{Line}
use Rattle.forks.specs.declared.row.Row.{Row}
use Rattle.forks.specs.Rows.{EndsAt}
use Rattle.forks.specs.Ends.{Settles}
use Rattle.forks.proofs.Settling.{past_end, settles_none, settles_stays, settles_ends, settles_all}

-- the elements from i on are the same, so the one at i is
same_nth : {X : Type 0} (xs ys : List X) (i : ℕ) → drop i xs ≡ drop i ys → slice_get xs i ≡ slice_get ys i
same_nth xs ys i same = first xs i ∙ ap (λ zs. slice_get zs 0) same ∙ sym (first ys i)
  where
    first : {X : Type 0} (zs : List X) (i : ℕ) → slice_get zs i ≡ slice_get (drop i zs) 0
    first [] zero = refl
    first [] (suc i) = refl
    first (z ∷ zs) zero = refl
    first (z ∷ zs) (suc i) = first zs i

drop_next : {X : Type 0} (xs ys : List X) (i : ℕ) → drop i xs ≡ drop i ys → drop (i + 1) xs ≡ drop (i + 1) ys
drop_next xs ys i same = sym (drop-drop 1 i xs) ∙ ap (drop 1) same ∙ drop-drop 1 i ys

module _ {K : Type 0} (kind : Meaning K) {L : Type 0} (took : L → List (Line K) → L → Type 0) (x : kind.G) (s t : Lent (Row K)) where
  -- of the first i rows of s those that stay are the first rows of t, and the rest is as it was
  pub record Compacts (i stay : ℕ) (l l' : L) : Type 0 where
    pub settles : Settles kind took x (held s) (take i (held s)) (take stay (held t)) l l'
    pub front : stay ≤ i
    pub rest : drop i (held t) ≡ drop i (held s)
    pub long : length (held t) ≡ length (held s)
    pub capacity : length (memory t) ≡ length (memory s)

module _ {K : Type 0} (kind : Meaning K) {L : Type 0} {took : L → List (Line K) → L → Type 0} (adds : Adds took) (x : kind.G) (s : Lent (Row K)) where
  pub compacts_none : (l : L) → Compacts kind took x s s 0 0 l l
  compacts_none l = record { settles = settles_none kind x (held s) adds l; front = omega arith; rest = refl; long = refl; capacity = refl }

  module _ (t : Lent (Row K)) (i stay : ℕ) (l l' : L) (so : Compacts kind took x s t i stay l l') (inside : i < length (held s)) (r : Row K) (read : slice_get (held t) i ≡ Some r) where
    here : slice_get (held s) i ≡ Some r
    here = sym (same_nth (held t) (held s) i so.rest) ∙ read

    pub compacts_stays : (u : Lent (Row K)) → Replaces t stay r u → EndsAt kind r x None → Compacts kind took x s u (i + 1) (stay + 1) l l'
    compacts_stays u put ending =
        let room : stay < length (held t) = omega (arith, so.front, so.long) in
        let front : take (stay + 1) (held u) ≡ take stay (held t) ++ (r ∷ []) = ap (take (stay + 1)) put.held_is ∙ take_more_set (held t) stay r room in
        record {
          settles = subst (λ kept. Settles kind took x (held s) (take (i + 1) (held s)) kept l l') (sym front) (settles_stays kind (held s) i r inside here x (take stay (held t)) l l' so.settles ending);
          front = omega (arith, so.front);
          rest = ap (drop (i + 1)) put.held_is ∙ drop-set-lt (i + 1) (held t) stay r (omega (arith, so.front)) ∙ drop_next (held t) (held s) i so.rest;
          long = ap length put.held_is ∙ length-set (held t) stay r ∙ so.long;
          capacity = ap length (put.within room) ∙ length-set (memory t) stay r ∙ so.capacity;
        }

    pub compacts_ends : (l'' : L) (line : Line K) → took l' (line ∷ []) l'' → EndsAt kind r x (Some line) → Compacts kind took x s t (i + 1) stay l l''
    compacts_ends l'' line put ending = record {
      settles = settles_ends kind (held s) i r inside here x adds (take stay (held t)) l l' l'' line so.settles put ending;
      front = omega (arith, so.front);
      rest = drop_next (held t) (held s) i so.rest;
      long = so.long;
      capacity = so.capacity;
    }

  -- nothing is found where s has ended
  pub compacts_past : (t : Lent (Row K)) (i stay : ℕ) (l l' : L) → Compacts kind took x s t i stay l l' → slice_get (held t) i ≡ None → length (held s) ≤ i
  compacts_past t i stay l l' so none = omega (arith, past_end (held t) i none, so.long)

  pub compacts_all : (t : Lent (Row K)) (i stay : ℕ) (l l' : L) → Compacts kind took x s t i stay l l' → length (held s) ≤ i → (u : Lent (Row K)) → held u ≡ take stay (held t) → Settles kind took x (held s) (held s) (held u) l l'
  compacts_all t i stay l l' so all u cut = subst (λ kept. Settles kind took x (held s) (held s) kept l l') (sym cut) (settles_all kind x (held s) i (take stay (held t)) l l' all so.settles)
