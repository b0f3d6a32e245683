-- Deadlines rank by what they mean.
use Rattle.std.specs.Prelude.{◌≡◌, ℕ, Bool, true, ◌⊎◌, refl}
use Rattle.std.proofs.Common.{inl, inr, arith}
use Rattle.kinds.specs.declared.bound.Bound.{Bound}
use Rattle.kinds.specs.declared.bound.Bound.TheVariants.{At, NoBound}
use Rattle.kinds.specs.declared.kind.Kind.{Ghosts as Meaning}
use Rattle.kinds.specs.Bounds.{at_most, meant}
use Rattle.kinds.specs.Ordered.{Ordered}
use Rattle.queue.specs.Ranks.{Ranks}
use Rattle.queue.specs.Keys.{by_key}
use Rattle.deadlines.specs.declared.due.Due.{Due}

module _ {G : Type 0} (group : Ordered G) where
  either : (x y : Bound G) → (at_most group x y ≡ true) ⊎ (at_most group y x ≡ true)
  either (At x) (At y) = group.leq_total x y
  either (At x) NoBound = inl refl
  either NoBound (At y) = inr refl
  either NoBound NoBound = inl refl

  onward : (x y z : Bound G) → at_most group x y ≡ true → at_most group y z ≡ true → at_most group x z ≡ true
  onward (At x) (At y) (At z) h k = group.leq_trans x y z h k
  onward (At x) NoBound (At z) h k = let z : ◌≡◌ {A = ℕ} 0 1 = cc in absurd (omega arith)
  onward (At x) y NoBound h k = refl
  onward NoBound (At y) z h k = let z : ◌≡◌ {A = ℕ} 0 1 = cc in absurd (omega arith)
  onward NoBound NoBound z h k = k

  pub bounds_rank : Ranks (at_most group)
  bounds_rank = record { total = either; chain = onward }

module _ {K : Type 0} (kind : Meaning K) where
  -- what a deadline means
  abbrev pub meaning : Due K → Bound kind.G
  meaning d = meant kind.value d.at

  -- the first deadline comes no later than the second
  abbrev pub no_later : Due K → Due K → Bool
  no_later x y = at_most kind.group (meaning x) (meaning y)

  pub deadlines_rank : Ranks no_later
  deadlines_rank = by_key meaning (at_most kind.group) (bounds_rank kind.group)
