-- What a line of a log says: a type name, a gauge and an admitted stamp, test by test; or what is wrong with it.
use Rattle.std.specs.Prelude.{◌≡◌, ℕ, ◌+◌, Bool, cond, List, [], length, drop, pos, Ok, Err, Option, Result, ◌==◌, slice_index_or, unsigned_abs}
use Rattle.std.specs.Option.{option_map}
use Rattle.text.specs.declared.fault.Cause.TheVariants.{BadField, BadLine}
use Rattle.text.specs.declared.fault.Fault.{Fault}
use Rattle.text.specs.Faults.{fault_at}
use Rattle.text.specs.Following.{given}
use Rattle.text.specs.Names.{is_name}
use Rattle.text.specs.Numbers.{whole, within}
use Rattle.kinds.specs.Fields.{admitted}
use Rattle.logs.specs.declared.record.Record.{Record}
use Rattle.logs.specs.Events.{Event, event}

-- a gauge has a number from 1 to 9,999
abbrev pub gauge_of : List ℕ → Option ℕ
gauge_of f = option_map unsigned_abs (within (pos 1) (pos 9999) (whole f))

abbrev pub event_of : {G : Type 0} → List ℕ → ℕ → G → Event G
event_of name gauge stamp = record { name = name; gauge = gauge; stamp = stamp }

module _ {G : Type 0} (fields : ℕ) (means : List (List ℕ) → Option G) (stamp : G → Bool) where
  -- the fields of line n, from the left; those from the third on are the stamp's
  abbrev pub fields_say : ℕ → List (List ℕ) → Result (Event G) Fault
  fields_say n fs =
      cond (is_name (slice_index_or fs 0 []))
      (given (gauge_of (slice_index_or fs 1 [])) (fault_at BadField n 2) (λ g.
      given (admitted stamp (means (drop 2 fs))) (fault_at BadField n 3) (λ x. Ok (event_of (slice_index_or fs 0 []) g x))))
      (Err (fault_at BadField n 1))

  -- line n by its fields: the number of them comes first
  abbrev pub line_says : ℕ → List (List ℕ) → Result (Event G) Fault
  line_says n fs = cond (length fs == 2 + fields) (fields_say n fs) (Err (fault_at BadLine n 0))

-- r is the answer a, in machine values
abbrev pub Says : {K G : Type 0} → (K → G) → Result (Event G) Fault → Result (Record K) Fault → Type 0
Says value a (Ok r) = a ≡ Ok (event value r)
Says value a (Err f) = a ≡ Err f
