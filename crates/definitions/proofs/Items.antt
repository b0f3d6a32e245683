-- What the line of a bound says, field by field.
use Rattle.std.proofs.Common.{◌≡◌, ℕ, Bool, eqb, List, [], length, get_or, drop, Some, None, Ok, Err, Option, Result, ap, ◌∙◌}
use Rattle.std.proofs.lemmas.Bool.{cond-true, eq-eqb}
use Rattle.text.specs.declared.fault.Cause.TheVariants.{BadField, BadLine}
use Rattle.text.specs.declared.fault.Fault.{Fault}
use Rattle.text.specs.Faults.{fault_at}
use Rattle.kinds.specs.Fields.{admitted}
use Rattle.text.specs.Following.{given}
use Rattle.definitions.specs.declared.words.Word.{Word}
use Rattle.definitions.specs.declared.words.Word.TheVariants.{Bound}
use Rattle.definitions.specs.Chronicles.Said.{limit}
use Rattle.definitions.specs.Lines.{word_at, fields_of, small, limit_of, valued, worded, item_of}

pub given_none : {A B : Type 0} (o : Option A) (f : Fault) (next : A → Result B Fault) → o ≡ None → given o f next ≡ Err f
given_none o f next e = ap (λ p. given p f next) e

pub given_some : {A B : Type 0} (o : Option A) (f : Fault) (next : A → Result B Fault) (x : A) → o ≡ Some x → given o f next ≡ next x
given_some o f next x e = ap (λ p. given p f next) e

module _ {G : Type 0} (fields : ℕ) (means : List (List ℕ) → Option G) (bound : G → Bool) (n : ℕ) (fs : List (List ℕ)) (i : ℕ) (first : small (get_or fs 1 []) ≡ Some i) where
  pub limit_second : small (get_or fs 2 []) ≡ None → valued fields means bound n Bound fs ≡ Err (fault_at BadField n 3)
  limit_second e = given_some (small (get_or fs 1 [])) _ _ i first ∙ given_none (small (get_or fs 2 [])) _ _ e

  module _ (j : ℕ) (second : small (get_or fs 2 []) ≡ Some j) where
    pub limit_most : admitted bound (means (drop 3 fs)) ≡ None → valued fields means bound n Bound fs ≡ Err (fault_at BadField n 4)
    limit_most e = given_some (small (get_or fs 1 [])) _ _ i first ∙ given_some (small (get_or fs 2 [])) _ _ j second ∙ given_none (admitted bound (means (drop 3 fs))) _ _ e

    pub limit_all : (c : G) → admitted bound (means (drop 3 fs)) ≡ Some c → valued fields means bound n Bound fs ≡ Ok (limit (limit_of i j c))
    limit_all c e = given_some (small (get_or fs 1 [])) _ _ i first ∙ given_some (small (get_or fs 2 [])) _ _ j second ∙ given_some (admitted bound (means (drop 3 fs))) _ _ c e

-- a line with a word that may stand there, and as many fields as the word asks for
pub item_valued : {G : Type 0} (fields : ℕ) (means : List (List ℕ) → Option G) (bound : G → Bool) (n : ℕ) (fs : List (List ℕ)) (w : Word) →
    word_at n (get_or fs 0 []) ≡ Some w → length fs ≡ fields_of fields w → item_of fields means bound n fs ≡ valued fields means bound n w fs
item_valued fields means bound n fs w e f =
    given_some (word_at n (get_or fs 0 [])) (fault_at BadLine n 0) (worded fields means bound n fs) w e
    ∙ cond-true (eqb (length fs) (fields_of fields w)) (valued fields means bound n w fs) (Err (fault_at BadLine n 0)) (eq-eqb (length fs) (fields_of fields w) f)
