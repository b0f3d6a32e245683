-- What a write to one bound of a table leaves.
use Rattle.std.proofs.Common.{◌≡◌, ℕ, ◌+◌, ◌<◌, ◌≤◌, List, ◌++◌, ◌-◌, length, get_or, drop, replicate, sym, ap, ◌∙◌, subst, ⊎_elim, arith}
use Rattle.std.proofs.lemmas.Bool.{cases_lt}
use Rattle.std.proofs.lemmas.List.{get_or_append_left, get_or-append_right, get_or-replicate, get_or-drop, length-replicate}
use Rattle.kinds.specs.Ordered.{Ordered}
use Rattle.kinds.specs.Bounds.{join, weighs, meant}
use Rattle.kinds.specs.declared.bound.Bound.{Bound}
use Rattle.kinds.specs.declared.bound.Bound.TheVariants.{NoBound}
use Rattle.network.specs.Tables.{cell, entry}
use Rattle.network.specs.Steps.{Lesser, Tightened, Emptied, Relaxed}

module _ {K G : Type 0} (O : Ordered G) (value : K → G) (weight : G → ℕ) (i k : ℕ) (i<8 : i < 8) (k<8 : k < 8) (i≢k : i ≡ k → ⊥) where
  module _ (j : ℕ) (j<8 : j < 8) (t u : List (Bound K)) (sofar : Relaxed O value weight i k j t u) where
    -- the bound from k to j, and that from i to j, are still those of t
    pub from_k : entry value u k j ≡ entry value t k j
    from_k = ap (meant value) (sofar.kept (cell k j) (λ q h e. omega arith))

    from_i : entry value u i j ≡ entry value t i j
    from_i = ap (meant value) (sofar.kept (cell i j) (λ q h e. omega arith))

    pub relaxed_skip : (weighs weight (entry value t i k) + weighs weight (entry value t k j) ≤ 16777216 → ⊥) → Relaxed O value weight i k (j + 1) t u
    relaxed_skip heavy = record {
      lowered = λ q h light. ⊎_elim
          (λ l. sofar.lowered q l light)
          (λ l. let e : q ≡ j = omega arith in absurd (heavy (subst (λ v. weighs weight (entry value t i k) + weighs weight (entry value t k v) ≤ 16777216) e light)))
          (cases_lt q j);
      kept = λ c ne. sofar.kept c (λ q h. ne q (omega arith));
    }

    pub relaxed_more : (way : Bound K) (v : List (Bound K)) → Tightened O value i j way u v → meant value way ≡ join O (entry value t i k) (entry value t k j) → Relaxed O value weight i k (j + 1) t v
    relaxed_more way v low is = record {
      lowered = λ q h light. ⊎_elim
          (λ l. subst (Lesser O (entry value t i q) (join O (entry value t i k) (entry value t k q))) (ap (meant value) (sym (low.kept (cell i q) (λ e. omega arith)))) (sofar.lowered q l light))
          (λ l. let e : q ≡ j = omega arith in
          subst (λ p. Lesser O (entry value t i p) (join O (entry value t i k) (entry value t k p)) (entry value v i p)) (sym e)
          (subst (λ b. Lesser O (entry value t i j) b (entry value v i j)) is
          (subst (λ b. Lesser O b (meant value way) (entry value v i j)) from_i low.lesser)))
          (cases_lt q j);
      kept = λ c ne. low.kept c (ne j (omega arith)) ∙ sofar.kept c (λ q h. ne q (omega arith));
    }

-- the first cells filled with no bound, before the rest of the memory
pub emptied : {K : Type 0} (t f : List (Bound K)) → f ≡ replicate 64 NoBound → Emptied 64 t (f ++ drop 64 t)
emptied {K} t f is = let none : Bound K = NoBound in let sixty-four : length f ≡ 64 = ap length is ∙ length-replicate 64 none in record {
  gone = λ c l. get_or_append_left f (drop 64 t) NoBound c (omega arith) ∙ ap (λ xs. get_or xs c NoBound) is ∙ get_or-replicate 64 c NoBound NoBound l;
  kept = λ c l. get_or-append_right f (drop 64 t) 64 c NoBound sixty-four l ∙ get_or-drop 64 t (c - 64) NoBound ∙ ap (λ n. get_or t n NoBound) (omega arith);
}
