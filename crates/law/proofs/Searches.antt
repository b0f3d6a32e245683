-- Of the numbers below n, one has P or all have Q, where each has one of the two.
use Rattle.std.proofs.Common.{ℕ, zero, suc, ◌≡◌, ◌<◌, ◌⊎◌, subst, inl, inr, ⊎_elim, arith}
use Rattle.std.proofs.lemmas.Bool.{cases_lt}

pub one_or_all : (P Q : ℕ → Type 0) → ((i : ℕ) → P i ⊎ Q i) → (n : ℕ) → ((i : ℕ) × (i < n) × P i) ⊎ ((i : ℕ) → i < n → Q i)
one_or_all P Q each zero = inr (λ i h. absurd (omega arith))
one_or_all P Q each (suc n) = ⊎_elim
    (λ (i, h, p). inl (i, omega arith, p))
    (λ all. ⊎_elim
    (λ p. inl (n, omega arith, p))
    (λ q. inr (λ i h. ⊎_elim (λ l. all i l) (λ l. let s : n ≡ i = omega arith in subst Q s q) (cases_lt i n)))
    (each n))
    (one_or_all P Q each n)
