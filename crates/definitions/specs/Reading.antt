-- A definition read from the front of a text: line by line, each line's fault in the order of its tests.
use Rattle.std.specs.Prelude.{ℕ, ◌+◌, ◌-◌, Bool, true, false, cond, not, ◌&&◌, List, [], ◌∷◌, ◌++◌, length, Ok, Err, Option, Result, ◌==◌, nat_lt, slice_index_or}
use Rattle.text.specs.declared.fault.Cause.TheVariants.{Unfinished, TooMany, BadPair, SlotLoaded}
use Rattle.text.specs.declared.fault.Fault.{Fault}
use Rattle.text.specs.Faults.{fault_at}
use Rattle.text.specs.Following.{then}
use Rattle.text.specs.Lines.{line_of}
use Rattle.text.specs.Split.{split}
use Rattle.definitions.specs.Chronicles.{Limit, Chronicle, Said}
use Rattle.definitions.specs.Chronicles.Said.{opening, variable, limit, closing}
use Rattle.definitions.specs.Lines.{item_of}

-- slots count from 1
abbrev pub is_loaded : List Bool → ℕ → Bool
is_loaded loaded s = slice_index_or loaded (s - 1) false

abbrev pub is_closing : {G : Type 0} → Said G → Bool
is_closing (opening s) = false
is_closing (variable name) = false
is_closing (limit l) = false
is_closing closing = true

module _ {G : Type 0} where
  abbrev pub blank : Chronicle G
  blank = record { slot = 0; types = []; limits = [] }

  -- two different variables given above
  abbrev pub is_pair : Chronicle G → Limit G → Bool
  is_pair d l = nat_lt l.from (length d.types) && (nat_lt l.to (length d.types) && not (l.from == l.to))

  -- what a line makes of the chronicle above it, as line n
  abbrev pub with_slot : List Bool → ℕ → Chronicle G → ℕ → Result (Chronicle G) Fault
  with_slot loaded n d s = cond (is_loaded loaded s) (Err (fault_at SlotLoaded n 2)) (Ok (record { slot = s; types = d.types; limits = d.limits }))

  abbrev pub with_type : ℕ → Chronicle G → List ℕ → Result (Chronicle G) Fault
  with_type n d name = cond (nat_lt (length d.types) 8) (Ok (record { slot = d.slot; types = d.types ++ (name ∷ []); limits = d.limits })) (Err (fault_at TooMany n 0))

  -- the count comes before the pair
  abbrev pub with_limit : ℕ → Chronicle G → Limit G → Result (Chronicle G) Fault
  with_limit n d l =
      cond (nat_lt (length d.limits) 64)
      (cond (is_pair d l) (Ok (record { slot = d.slot; types = d.types; limits = d.limits ++ (l ∷ []) })) (Err (fault_at BadPair n 0)))
      (Err (fault_at TooMany n 0))

  abbrev pub ended : ℕ → Chronicle G → Result (Chronicle G) Fault
  ended n d = cond (nat_lt 0 (length d.types)) (Ok d) (Err (fault_at TooMany n 0))

  abbrev pub accepted : List Bool → ℕ → Chronicle G → Said G → Result (Chronicle G) Fault
  accepted loaded n d (opening s) = with_slot loaded n d s
  accepted loaded n d (variable name) = with_type n d name
  accepted loaded n d (limit l) = with_limit n d l
  accepted loaded n d closing = ended n d

-- a line that is sound after those above it: what it says, and the chronicle that it makes
pub record Sound (G : Type 0) : Type 0 where
  pub says : Said G
  pub makes : Chronicle G

-- a definition that is read: how many lines and bytes it has
pub record Reading (G : Type 0) : Type 0 where
  pub chronicle : Chronicle G
  pub lines : ℕ
  pub used : ℕ

module _ {G : Type 0} (fields : ℕ) (means : List (List ℕ) → Option G) (bound : G → Bool) (loaded : List Bool) where
  -- line n, the first of what is left of a text that is cut at its line feeds
  abbrev pub judged : ℕ → Chronicle G → List (List ℕ) → Result (Sound G) Fault
  judged n d ps =
      then (line_of n ps) (λ line.
      then (item_of fields means bound n (split 9 line)) (λ said.
      then (accepted loaded n d said) (λ made. Ok (record { says = said; makes = made }))))

  -- after line n, which ends at byte `used`: the definition is read, or reading goes on
  abbrev pub after : ℕ → ℕ → Result (Sound G) Fault → (Chronicle G → Result (Reading G) Fault) → Result (Reading G) Fault
  after n used (Ok s) on = cond (is_closing s.says) (Ok (record { chronicle = s.makes; lines = n; used = used })) (on s.makes)
  after n used (Err f) on = Err f

  -- from line n on, which begins at byte `used`
  unfoldable pub read_from : ℕ → ℕ → Chronicle G → List (List ℕ) → Result (Reading G) Fault
  read_from n used d [] = Err (fault_at Unfinished n 0)
  read_from n used d (p ∷ ps) = after n (used + length p + 1) (judged n d (p ∷ ps)) (λ d'. read_from (n + 1) (used + length p + 1) d' ps)

  abbrev pub reading_of : List ℕ → Result (Reading G) Fault
  reading_of text = read_from 1 0 blank (split 10 text)
