-- What the parts of the closure do to a table.
use Rattle.std.specs.Prelude.{◌≡◌, ℕ, ◌+◌, ◌^◌, ◌<◌, ◌≤◌, true, ◌⊎◌, List, Result, MatchResult, OnOk, ◌≢◌, slice_index_or}
use Rattle.kinds.specs.Ordered.{Ordered}
use Rattle.kinds.specs.Bounds.{join, at_most, weighs, meant}
use Rattle.kinds.specs.declared.bound.Bound.{Bound}
use Rattle.kinds.specs.declared.bound.Bound.TheVariants.{NoBound}
use Rattle.kinds.specs.declared.bound.Bound.TheVariants.{At}
use Rattle.network.specs.declared.closing.Unclosed.{Unclosed}
use Rattle.network.specs.declared.closing.Unclosed.TheVariants.{Contradiction}
use Rattle.network.specs.Chains.{Chain, Contradictory}
use Rattle.network.specs.Tables.{cell, entry, Tabled, Elsewhere}

-- a is at most b
pub record Under {G : Type 0} (O : Ordered G) (a b : Bound G) : Type 0 where
  pub is : at_most O a b ≡ true

-- c is the lesser of a and b
pub record Lesser {G : Type 0} (O : Ordered G) (a b c : Bound G) : Type 0 where
  pub one_of : (c ≡ a) ⊎ (c ≡ b)
  pub first : Under O c a
  pub second : Under O c b

-- the bound from i to j lowered to another, the rest of the table kept
pub record Tightened {K G : Type 0} (O : Ordered G) (value : K → G) (i j : ℕ) (other : Bound K) (t u : List (Bound K)) : Type 0 where
  pub lesser : Lesser O (entry value t i j) (meant value other) (entry value u i j)
  pub kept : (c : ℕ) → (c ≢ cell i j) → slice_index_or u c NoBound ≡ slice_index_or t c NoBound

-- no bound left in the first n cells, the rest of the memory kept
pub record Emptied {K : Type 0} (n : ℕ) (t u : List (Bound K)) : Type 0 where
  pub gone : (c : ℕ) → c < n → slice_index_or u c NoBound ≡ NoBound
  pub kept : (c : ℕ) → n ≤ c → slice_index_or u c NoBound ≡ slice_index_or t c NoBound

-- the first n bounds from i lowered to the way by k, where no sum is too heavy; the rest of the table kept
pub record Relaxed {K G : Type 0} (O : Ordered G) (value : K → G) (weight : G → ℕ) (i k n : ℕ) (t u : List (Bound K)) : Type 0 where
  pub lowered : (j : ℕ) → j < n → weighs weight (entry value t i k) + weighs weight (entry value t k j) ≤ 16777216 → Lesser O (entry value t i j) (join O (entry value t i k) (entry value t k j)) (entry value u i j)
  pub kept : (c : ℕ) → ((j : ℕ) → j < n → c ≢ cell i j) → slice_index_or u c NoBound ≡ slice_index_or t c NoBound

-- one bound for each ordered pair of variables
abbrev pub Net : Type 0 → Type 0
Net G = ℕ → ℕ → Bound G

-- E is D after round k: each bound lowered to the way by k
abbrev pub Round : {G : Type 0} → Ordered G → ℕ → ℕ → Net G → Net G → Type 0
Round O n k D E = (i j : ℕ) → i < n → j < n → Lesser O (D i j) (join O (D i k) (D k j)) (E i j)

-- what holds of the bounds D after k rounds over n variables: each is a chain's sum and at most a given bound, none on the diagonal is above zero,
-- those of the first k variables are not below it, and no way by one of these is shorter
pub record Going {G : Type 0} (O : Ordered G) (Given : ℕ → ℕ → G → Type 0) (n k : ℕ) (D : Net G) : Type 0 where
  pub sound : (i j : ℕ) → i < n → j < n → (x : G) → D i j ≡ At x → Chain O Given i j x
  pub given : (i j : ℕ) → i < n → j < n → (c : G) → Given i j c → Under O (D i j) (At c)
  pub still : (i : ℕ) → i < n → Under O (D i i) (At O.zero)
  pub settled : (i : ℕ) → i < k → Under O (At O.zero) (D i i)
  pub through : (m : ℕ) → m < k → (i j : ℕ) → i < n → j < n → Under O (D i j) (join O (D i m) (D m j))

module _ {K G : Type 0} (O : Ordered G) (value : K → G) where
  -- the first n diagonal bounds lowered to zero, the rest of the table kept
  pub record Grounded (n : ℕ) (t u : List (Bound K)) : Type 0 where
    pub lowered : (i : ℕ) → i < n → Lesser O (entry value t i i) (At O.zero) (entry value u i i)
    pub kept : (c : ℕ) → ((i : ℕ) → i < n → c ≢ cell i i) → slice_index_or u c NoBound ≡ slice_index_or t c NoBound

  -- the bounds from the first i of n variables lowered to the way by k, where its own bound is not below zero and no sum is too heavy; the rest kept
  pub record Rounding (weight : G → ℕ) (n k i : ℕ) (t u : List (Bound K)) : Type 0 where
    pub lowered : Under O (At O.zero) (entry value t k k) → (p j : ℕ) → p < i → j < n → weighs weight (entry value t p k) + weighs weight (entry value t k j) ≤ 16777216 → Lesser O (entry value t p j) (join O (entry value t p k) (entry value t k j)) (entry value u p j)
    pub kept : (c : ℕ) → ((p j : ℕ) → p < i → (p ≢ k) → j < n → c ≢ cell p j) → slice_index_or u c NoBound ≡ slice_index_or t c NoBound

-- no bound among the first n variables is heavier than w
abbrev pub Light : {K G : Type 0} → (K → G) → (G → ℕ) → ℕ → ℕ → List (Bound K) → Type 0
Light value weight n w t = (i j : ℕ) → i < n → j < n → weighs weight (entry value t i j) ≤ w

module _ {K G : Type 0} (O : Ordered G) (value : K → G) (weight : G → ℕ) (n : ℕ) where
  -- t after k rounds, for whichever table M gave the bounds that t is grounded over
  pub record Running (k : ℕ) (t u : List (Bound K)) : Type 0 where
    pub going : (M : List (Bound K)) → Going O (Tabled value n M) n 0 (entry value t) → Light value weight n 1 t → Going O (Tabled value n M) n k (entry value u) × Light value weight n (2 ^ k) u
    pub kept : Elsewhere n t u

  -- all rounds are done, or a cycle below zero was met
  pub record Ran (t u : List (Bound K)) (end : Result (Unit {0}) Unclosed) : Type 0 where
    pub outcome : (M : List (Bound K)) → Going O (Tabled value n M) n 0 (entry value t) → Light value weight n 1 t → MatchResult end (λ _. Going O (Tabled value n M) n n (entry value u)) (λ e. (e ≡ Contradiction) × Contradictory O (Tabled value n M))
    pub kept : Elsewhere n t u

  -- bounds that were light before the rounds are still light enough to be added to a stamp when all are done
  abbrev pub StaysLight : List (Bound K) → List (Bound K) → Result (Unit {0}) Unclosed → Type 0
  StaysLight t u end = (M : List (Bound K)) → Going O (Tabled value n M) n 0 (entry value t) → Light value weight n 1 t → OnOk end (Light value weight n 256 u)
