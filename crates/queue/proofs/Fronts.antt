-- The front of lent memory, and what is written there as a part.
use Rattle.std.proofs.Common.{◌≡◌, ℕ, ◌≤◌, List, ◌++◌, length, take, drop, sym, ap, ◌∙◌, ⊎_elim, arith}
use Rattle.std.proofs.lemmas.Bool.{cases_lt}
use Rattle.std.proofs.lemmas.List.{length-take, length-take-le, length-drop, length-append, take_all, take_at, drop_all, append-nil}

-- ms holds ws after a write to its first k places
abbrev pub written : {X : Type 0} → ℕ → List X → List X → List X
written k ms ws = ws ++ drop k ms

module _ {X : Type 0} (k : ℕ) (ms ws : List X) (long : length ws ≡ length (take k ms)) (inside : k ≤ length ms) where
  pub length_part : length ws ≡ k
  length_part = long ∙ length-take-le k ms inside

  pub length_written : length (written k ms ws) ≡ length ms
  length_written = length-append ws (drop k ms) ∙ (let part = length_part in let rest = length-drop k ms in omega arith)

  -- n may lie past the end of the memory
  pub front_written : (n : ℕ) → k ≡ length (take n ms) → take n (written k ms ws) ≡ ws
  front_written n is =
      let part = length_part in
      let e = is ∙ length-take n ms in
      ⊎_elim
      (λ past. take_all n (written k ms ws) (omega (arith, length_written)) ∙ ap (λ (rest : List X). ws ++ rest) (drop_all k ms (omega arith)) ∙ append-nil ws)
      (λ within. take_at ws (drop k ms) n (omega arith))
      (cases_lt (length ms) n)

pub front : {X : Type 0} (k n : ℕ) (ms : List X) → k ≡ length (take n ms) → take k ms ≡ take n ms
front k n ms is =
    let e = is ∙ length-take n ms in
    ⊎_elim
    (λ past. take_all k ms (omega arith) ∙ sym (take_all n ms (omega arith)))
    (λ within. let same : k ≡ n = omega arith in ap (λ m. take m ms) same)
    (cases_lt (length ms) n)
