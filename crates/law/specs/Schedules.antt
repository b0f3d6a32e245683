-- Stamps given to all variables of a chronicle, and whether those of some can be extended to all.
use Rattle.std.specs.Prelude.{◌≡◌, ℕ, ◌<◌, Bool, true, false, List}
use Rattle.kinds.specs.Ordered.{Ordered}
use Rattle.kinds.specs.declared.bound.Bound.{Bound}
use Rattle.kinds.specs.declared.bound.Bound.TheVariants.{At}
use Rattle.definitions.specs.Chronicles.{Limit, Given}

module _ {G : Type 0} (group : Ordered G) where
  -- every bound is met
  abbrev pub Meets : List (Limit G) → (ℕ → G) → Type 0
  Meets limits stamp = (i j : ℕ) (c : G) → Given limits i j c → group.leq (stamp j) (group.plus (stamp i) c) ≡ true

  -- stamps for all of n variables: those of the filled ones as they are, those of the open ones none before now, and every bound met
  pub record Completes (n : ℕ) (limits : List (Limit G)) (filled : ℕ → Bool) (stamp : ℕ → G) (now : G) (all : ℕ → G) : Type 0 where
    pub same : (i : ℕ) → i < n → filled i ≡ true → all i ≡ stamp i
    pub after : (i : ℕ) → i < n → filled i ≡ false → group.leq now (all i) ≡ true
    pub meets : Meets limits all

  -- the filled variables can be completed
  abbrev pub Completable : ℕ → List (Limit G) → (ℕ → Bool) → (ℕ → G) → G → Type 0
  Completable n limits filled stamp now = (all : ℕ → G) × Completes n limits filled stamp now all

  -- the same by tests on closed bounds: those between filled variables are met, and no latest stamp of an open one is before now
  pub record Passes (n : ℕ) (closed : ℕ → ℕ → Bound G) (filled : ℕ → Bool) (stamp : ℕ → G) (now : G) : Type 0 where
    pub pairs : (i j : ℕ) → i < n → j < n → filled i ≡ true → filled j ≡ true → (c : G) → closed i j ≡ At c → group.leq (stamp j) (group.plus (stamp i) c) ≡ true
    pub latest : (i j : ℕ) → i < n → j < n → filled i ≡ true → filled j ≡ false → (c : G) → closed i j ≡ At c → group.leq now (group.plus (stamp i) c) ≡ true
