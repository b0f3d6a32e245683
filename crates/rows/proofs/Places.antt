-- What chains over the places below a number give: a test of each, and the turns of a fold.
use Rattle.std.proofs.Common.{ℕ, ◌<◌, Bool, true, false, List, length, get_or, Option, MatchBool, sym, ◌∙◌, subst, arith}
use Rattle.std.proofs.lemmas.List.FromFn.{length-range_with_len, get_or-range_with_len}
use Rattle.std.proofs.lemmas.Iterator.{YieldsList, items_from_drains}
use Rattle.std.proofs.lemmas.List.{map-id}
use Rattle.std.specs.Iterator.{Drains}
use Rattle.std.specs.List.{AllWithin, HoldsAt, FoldsTo, range_with_len}

-- a test of the first n places, each by its number
module _ (P Q : ℕ → Type 0) (n : ℕ) where
  at_place : (R : ℕ → Type 0) (i : ℕ) → i < n → R (get_or (range_with_len 0 n) i 0) → R i
  at_place R i h = subst R (get_or-range_with_len 0 n i 0 h ∙ omega arith)

  pub every_place : (r : Bool) → MatchBool r (AllWithin P (range_with_len 0 n) 0 (length (range_with_len 0 n))) ((i : ℕ) × (i < length (range_with_len 0 n)) × HoldsAt Q (range_with_len 0 n) i) →
      MatchBool r ((i : ℕ) → i < n → P i) ((i : ℕ) × (i < n) × Q i)
  every_place true all = λ i h. at_place P i h (all i 0 (omega arith) (omega (arith, length-range_with_len 0 n)))
  every_place false (i, h, not) = let h : i < n = omega (arith, length-range_with_len 0 n) in (i, h, at_place Q i h (not 0))

-- the turns of a fold over places that a chain gives
pub fold_turns : {S F B : Type 0} {steps : S → Option ℕ → S → Type 0} {s : S} {all : List ℕ} (turn : F × B → ℕ → F × B → Type 0) (f : F) (first last : B) →
    (xs : List ℕ) × (f' : F) × Drains steps s xs × FoldsTo turn (f, first) xs (f', last) → YieldsList steps (λ i. i) s all → (f' : F) × FoldsTo turn (f, first) all (f', last)
fold_turns turn f first last (xs, f', (u, (t, given, end)), folds) chain =
    (f', subst (λ is. FoldsTo turn (f, first) is (f', last)) (sym (map-id xs) ∙ items_from_drains xs (t, given, λ w. (u, end)) chain) folds)
