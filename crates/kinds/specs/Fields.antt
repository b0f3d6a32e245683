-- Elements as text: which element fields mean, and the text that is written of one.
use Rattle.std.specs.Prelude.{◌≡◌, ℕ, ◌<◌, Bool, cond, List, [], ◌∷◌, ◌++◌, length, ℤ, pos, negsuc, Some, None, Ok, Err, Option, Result, refl}
use Rattle.std.proofs.Common.{arith}
use Rattle.std.specs.Fmt.{signed_decimal}
use Rattle.text.specs.declared.fault.Fault.{Fault}
use Rattle.text.specs.Numbers.{whole, within}
use Rattle.kinds.specs.PairOrder.{Pair, pair}

-- a reader answers the element that is meant, and where none is meant it refuses with the fault
abbrev pub Reads : {K G : Type 0} → (K → G) → Option G → Fault → Result K Fault → Type 0
Reads value meant fault (Ok k) = meant ≡ Some (value k)
Reads value meant fault (Err f) = (meant ≡ None) × (f ≡ fault)

-- an element that passes the test
abbrev pub admitted : {G : Type 0} → (G → Bool) → Option G → Option G
admitted test None = None
admitted test (Some x) = cond (test x) (Some x) None

-- an element takes one field or more, and only so many mean one
pub record Takes {G : Type 0} (fields : ℕ) (means : List (List ℕ) → Option G) : Type 0 where
  pub some : 0 < fields
  pub counted : (fs : List (List ℕ)) (x : G) → means fs ≡ Some x → length fs ≡ fields

-- a whole number of 64 bits
abbrev pub long : List ℕ → Option ℤ
long field = within (negsuc 9223372036854775807) (pos 9223372036854775807) (whole field)

abbrev pub tick_means : List (List ℕ) → Option ℤ
tick_means [] = None
tick_means (f ∷ []) = long f
tick_means (f ∷ g ∷ fs) = None

abbrev pub both : Option ℤ → Option ℤ → Option Pair
both (Some t) (Some p) = Some (pair t p)
both (Some t) None = None
both None p = None

abbrev pub pair_means : List (List ℕ) → Option Pair
pair_means [] = None
pair_means (f ∷ []) = None
pair_means (f ∷ g ∷ []) = both (long f) (long g)
pair_means (f ∷ g ∷ h ∷ fs) = None

-- the two numbers with a tab, byte 9, between them
abbrev pub pair_text : ℤ → ℤ → List ℕ
pair_text t p = signed_decimal t ++ (9 ∷ signed_decimal p)

tick_counted : (fs : List (List ℕ)) (x : ℤ) → tick_means fs ≡ Some x → length fs ≡ 1
tick_counted [] x e = let z : ◌≡◌ {A = ℕ} 0 1 = cc in absurd (omega arith)
tick_counted (f ∷ []) x e = refl
tick_counted (f ∷ g ∷ fs) x e = let z : ◌≡◌ {A = ℕ} 0 1 = cc in absurd (omega arith)

pub tick_takes : Takes 1 tick_means
tick_takes = record { some = omega arith; counted = tick_counted }

pair_counted : (fs : List (List ℕ)) (x : Pair) → pair_means fs ≡ Some x → length fs ≡ 2
pair_counted [] x e = let z : ◌≡◌ {A = ℕ} 0 1 = cc in absurd (omega arith)
pair_counted (f ∷ []) x e = let z : ◌≡◌ {A = ℕ} 0 1 = cc in absurd (omega arith)
pair_counted (f ∷ g ∷ []) x e = refl
pair_counted (f ∷ g ∷ h ∷ fs) x e = let z : ◌≡◌ {A = ℕ} 0 1 = cc in absurd (omega arith)

pub pair_takes : Takes 2 pair_means
pair_takes = record { some = omega arith; counted = pair_counted }
