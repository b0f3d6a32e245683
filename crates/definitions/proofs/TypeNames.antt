-- The type names that are held: how many, one more, and each.
use Rattle.std.proofs.Common.{◌≡◌, ℕ, ◌+◌, ◌<◌, ◌≤◌, List, [], ◌∷◌, ◌++◌, map, length, get_or, take, set, is_some, Some, None, Option, sym, refl, ap, ◌∙◌, subst, arith, MatchOption}
use Rattle.std.proofs.lemmas.List.{length-take-le, length-map, map-set, take_more_set, get_or-take, get_or-map, get_or_default}
use Rattle.std.proofs.lemmas.Bool.{both_ways}
use Rattle.text.specs.declared.name.Name.{Name}
use Rattle.text.specs.Spelled.{spelled}
use Rattle.definitions.specs.declared.types.Types.{Types}
use Rattle.definitions.specs.TypeNames.{letters, type_names}

pub names_length : (t : Types) → length (type_names t) ≡ t.count
names_length t = length-take-le t.count (map letters t.names) (simp length-map (omega (arith, t.fits, t.sized)))

module _ (names : List (Option Name)) (count : ℕ) (sized : length names ≡ 8) (room : count < 8) where
  pub names_push : (n : Name) → take (count + 1) (map letters (set names count (Some n))) ≡ take count (map letters names) ++ (spelled n ∷ [])
  names_push n = ap (take (count + 1)) (map-set letters names count (Some n)) ∙ take_more_set (map letters names) count (spelled n) (simp length-map (omega arith))

pub names_at : (t : Types) (i : ℕ) → i < t.count → get_or (type_names t) i [] ≡ letters (get_or t.names i None)
names_at t i h = get_or-take t.count (map letters t.names) i [] h ∙ get_or-map letters t.names i None [] (omega (arith, t.fits, t.sized))

-- what stands at variable i, read at any default
pub names_get : (t : Types) (i : ℕ) (d : Option Name) → i < t.count →
    MatchOption (get_or t.names i d) (length (type_names t) ≤ i) (λ n. (i < length (type_names t)) × (spelled n ≡ get_or (type_names t) i []))
names_get t i d h = subst (λ o. MatchOption o (length (type_names t) ≤ i) (λ n. (i < length (type_names t)) × (spelled n ≡ get_or (type_names t) i []))) (sym same) (go (get_or t.names i None) refl)
  where
    same : get_or t.names i d ≡ get_or t.names i None
    same = get_or_default t.names i d None (omega (arith, t.fits, t.sized))

    go : (o : Option Name) → get_or t.names i None ≡ o → MatchOption o (length (type_names t) ≤ i) (λ n. (i < length (type_names t)) × (spelled n ≡ get_or (type_names t) i []))
    go None e = absurd (both_ways _ (ap is_some e) (t.filled i h))
    go (Some n) e = (omega (arith, names_length t), sym (names_at t i h ∙ ap letters e))
