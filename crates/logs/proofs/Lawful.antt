-- Why the records and the ending that are read from a text are those that it has.
use Rattle.std.proofs.Common.{◌≡◌, ℕ, ◌+◌, ◌<◌, ◌≤◌, Bool, true, false, cond, eqb, leb, List, [], ◌∷◌, ◌++◌, length, Ok, Err, Option, Result, refl, subst, arith}
use Rattle.std.specs.List.{AllByRecursion as All}
use Rattle.std.proofs.lemmas.List.{nil_from_length}
use Rattle.std.proofs.lemmas.Bool.{eqb-true, eqb-false, leb-true, leb-false}
use Rattle.text.specs.declared.fault.Cause.TheVariants.{BadLine}
use Rattle.text.specs.declared.fault.Fault.{Fault}
use Rattle.text.specs.Faults.{fault_at}
use Rattle.text.specs.Split.{split, without, rejoined}
use Rattle.text.proofs.Splits.{rejoin_split, split_clear, split_some_part}
use Rattle.text.specs.Following.{then}
use Rattle.logs.specs.Endings.{Ending}
use Rattle.logs.specs.Events.{Event}
use Rattle.logs.specs.LogLines.{line_says}
use Rattle.logs.specs.Reading.{before, unless, records_from, ending_from, records_of, ending_of}
use Rattle.logs.specs.LogLaw.{LogFrom}
use Rattle.logs.specs.LogLaw.LogFrom.{stops, unended, too_long, faulty, record_line}

module _ {G : Type 0} (fields : ℕ) (means : List (List ℕ) → Option G) (stamp : G → Bool) (log : ℕ) where
  last_line : (n : ℕ) (p : List ℕ) → without 10 p ≡ true → LogFrom fields means stamp log n p (records_from fields means stamp n (p ∷ [])) (ending_from fields means stamp log n (p ∷ []))
  last_line n p clear = go (eqb (length p) 0) refl
    where
      go : (b : Bool) → eqb (length p) 0 ≡ b → LogFrom fields means stamp log n p (records_from fields means stamp n (p ∷ [])) (ending_from fields means stamp log n (p ∷ []))
      go true h = rw (h, nil_from_length p (eqb-true (length p) 0 h)) stops
      go false h = let ne = eqb-false (length p) 0 h in rw h (unended p clear (omega arith))

  -- line n is p, and the lines after it are those of `more`, with the records xs and the ending e
  module _ (n : ℕ) (p more : List ℕ) (clear : without 10 p ≡ true) (xs : List (Event G)) (e : Ending) (on : LogFrom fields means stamp log (n + 1) more xs e) where
    by_fields : (a : Result (Event G) Fault) → line_says fields means stamp n (split 9 p) ≡ a → length p ≤ 80 → LogFrom fields means stamp log n (p ++ (10 ∷ more)) (before a xs) (unless log a e)
    by_fields (Ok x) h short = record_line p x clear short h on
    by_fields (Err f) h short = faulty p more f clear short h

    by_length : (b : Bool) → leb (length p) 80 ≡ b → let a = then (cond b (Ok p) (Err (fault_at BadLine n 0))) (λ line. line_says fields means stamp n (split 9 line)) in
        LogFrom fields means stamp log n (p ++ (10 ∷ more)) (before a xs) (unless log a e)
    by_length true h = by_fields (line_says fields means stamp n (split 9 p)) refl (leb-true (length p) 80 h)
    by_length false h = too_long p more clear (leb-false (length p) 80 h)

  log_from : (n : ℕ) (ps : List (List ℕ)) → 0 < length ps → All (λ p. without 10 p ≡ true) ps →
      LogFrom fields means stamp log n (rejoined 10 ps) (records_from fields means stamp n ps) (ending_from fields means stamp log n ps)
  log_from n [] some clear = absurd (omega arith)
  log_from n (p ∷ []) some clear = last_line n p clear.0
  log_from n (p ∷ q ∷ ps) some clear =
      by_length n p (rejoined 10 (q ∷ ps)) clear.0 (records_from fields means stamp (n + 1) (q ∷ ps)) (ending_from fields means stamp log (n + 1) (q ∷ ps))
      (log_from (n + 1) (q ∷ ps) (omega arith) clear.1) (leb (length p) 80) refl

  pub log_law : (text : List ℕ) {xs : List (Event G)} {e : Ending} → xs ≡ records_of fields means stamp text → e ≡ ending_of fields means stamp log text →
      LogFrom fields means stamp log 1 text xs e
  log_law text h k =
      rw (h, k) (subst (λ t. LogFrom fields means stamp log 1 t (records_of fields means stamp text) (ending_of fields means stamp log text)) (rejoin_split 10 text)
      (log_from 1 (split 10 text) (split_some_part 10 text) (split_clear 10 text)))
