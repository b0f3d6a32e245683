-- What a line of a definition says, test by test, or what is wrong with it.
use Rattle.std.specs.Prelude.{ℕ, ◌+◌, ◌-◌, Bool, cond, List, [], length, drop, pos, Some, None, Ok, Err, codes, Option, Result, ◌==◌, slice_index_or, unsigned_abs}
use Rattle.std.specs.Option.{option_map}
use Rattle.std.specs.Str.{bytes_eq}
use Rattle.text.specs.declared.fault.Cause.TheVariants.{BadField, BadLine}
use Rattle.text.specs.declared.fault.Fault.{Fault}
use Rattle.text.specs.Faults.{fault_at}
use Rattle.text.specs.Following.{given}
use Rattle.text.specs.Names.{is_name}
use Rattle.text.specs.Numbers.{whole, within}
use Rattle.kinds.specs.Fields.{admitted}
use Rattle.definitions.specs.declared.words.Word.{Word}
use Rattle.definitions.specs.declared.words.Word.TheVariants.{Chronicle, Var, Bound, End}
use Rattle.definitions.specs.Chronicles.{Limit, Said}
use Rattle.definitions.specs.Chronicles.Said.{opening, variable, limit, closing}

-- the word that may stand first in line n
abbrev pub word_at : ℕ → List ℕ → Option Word
word_at n f =
    cond (n == 1)
    (cond (bytes_eq f (codes "chronicle")) (Some Chronicle) None)
    (cond (bytes_eq f (codes "var")) (Some Var) (cond (bytes_eq f (codes "bound")) (Some Bound) (cond (bytes_eq f (codes "end")) (Some End) None)))

-- how many fields the line of a word has, where an element takes so many
abbrev pub fields_of : ℕ → Word → ℕ
fields_of fields Chronicle = 2
fields_of fields Var = 2
fields_of fields Bound = 3 + fields
fields_of fields End = 1

-- a slot or a variable, 1 to 8
abbrev pub small : List ℕ → Option ℕ
small f = option_map unsigned_abs (within (pos 1) (pos 8) (whole f))

abbrev pub limit_of : {G : Type 0} → ℕ → ℕ → G → Limit G
limit_of i j c = record { from = i - 1; to = j - 1; most = c }

module _ {G : Type 0} (fields : ℕ) (means : List (List ℕ) → Option G) (bound : G → Bool) where
  -- the fields after the word, from the left
  abbrev pub valued : ℕ → Word → List (List ℕ) → Result (Said G) Fault
  valued n Chronicle fs = given (small (slice_index_or fs 1 [])) (fault_at BadField n 2) (λ s. Ok (opening s))
  valued n Var fs = cond (is_name (slice_index_or fs 1 [])) (Ok (variable (slice_index_or fs 1 []))) (Err (fault_at BadField n 2))
  valued n Bound fs =
      given (small (slice_index_or fs 1 [])) (fault_at BadField n 2) (λ i.
      given (small (slice_index_or fs 2 [])) (fault_at BadField n 3) (λ j.
      given (admitted bound (means (drop 3 fs))) (fault_at BadField n 4) (λ c. Ok (limit (limit_of i j c)))))
  valued n End fs = Ok closing

  -- the number of fields, then the fields
  abbrev pub worded : ℕ → List (List ℕ) → Word → Result (Said G) Fault
  worded n fs w = cond (length fs == fields_of fields w) (valued n w fs) (Err (fault_at BadLine n 0))

  -- line n by its fields: the word comes first
  abbrev pub item_of : ℕ → List (List ℕ) → Result (Said G) Fault
  item_of n fs = given (word_at n (slice_index_or fs 0 [])) (fault_at BadLine n 0) (worded n fs)
