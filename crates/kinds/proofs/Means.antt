-- Which element fields mean, by how many they are.
use Rattle.std.proofs.Common.{◌≡◌, ℕ, List, [], ◌∷◌, length, get_or, ℤ, Some, None, Ok, Err, Option, refl, arith}
use Rattle.std.specs.Option.{ok_or}
use Rattle.kinds.specs.Fields.{long, pair_means, both}

pub ok_or_ok : {T E : Type 0} (m : Option T) (f : E) (x : T) → Ok x ≡ ok_or m f → m ≡ Some x
ok_or_ok None f x e = let z : ◌≡◌ {A = ℕ} 0 1 = cc in absurd (omega arith)
ok_or_ok (Some y) f x e = cc

pub ok_or_err : {T E : Type 0} (m : Option T) (f x : E) → Err x ≡ ok_or m f → (m ≡ None) × (x ≡ f)
ok_or_err None f x e = (refl, cc)
ok_or_err (Some y) f x e = let z : ◌≡◌ {A = ℕ} 0 1 = cc in absurd (omega arith)

pub pair_two : (fs : List (List ℕ)) → length fs ≡ 2 → pair_means fs ≡ both (long (get_or fs 0 [])) (long (get_or fs 1 []))
pair_two [] e = absurd (omega arith)
pair_two (f ∷ []) e = absurd (omega arith)
pair_two (f ∷ g ∷ []) e = refl
pair_two (f ∷ g ∷ h ∷ fs) e = absurd (omega arith)

pub both_none : (a : Option ℤ) → both a None ≡ None
both_none None = refl
both_none (Some x) = refl
