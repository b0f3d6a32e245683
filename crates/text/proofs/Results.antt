-- A call that cannot fail gives a value.
use Rattle.std.proofs.Common.{Ok, Err, Result, refl}
use Rattle.std.specs.Result.{MatchResult, IsOk}

module _ {T E : Type 0} (P : T → Type 0) (Q : E → Type 0) where
  pub ok_unless : (r : Result T E) → MatchResult r P Q → ((e : E) → Q e → ⊥) → IsOk r
  ok_unless (Ok x) h never = refl
  ok_unless (Err e) h never = absurd (never e h)
