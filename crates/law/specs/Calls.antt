-- The calls on one new watch, each with its arguments and its answer, and what they come to: a refused call counts for
-- nothing, and a run as event calls with the first records of its source's list, as many as it took.
use Rattle.std.specs.Prelude.{ℕ, Bool, List, [], ◌∷◌, ◌++◌, map, is_some, Ok, Err, Result}
use Rattle.std.specs.List.{range_with_len}
use Rattle.text.specs.declared.fault.Fault.{Fault}
use Rattle.kinds.specs.declared.kind.Kind.{Ghosts as Meaning}
use Rattle.definitions.specs.Reading.{Reading, reading_of}
use Rattle.logs.specs.Endings.{Ending}
use Rattle.logs.specs.Events.{Event}
use Rattle.law.specs.Histories.{Line, Act, load, withdraw, event, clock, loading_of}

-- why a run stopped: its budget was used, its source ended, or the next record was refused with that number
pub data Stop : Type 0 where
  spent : Stop
  ended : Ending → Stop
  refused : ℕ → Stop

-- a run over a source with these records waiting and this ending, with a budget of records and room for so many lines;
-- it told some lines for each record that it took
pub record Run (G : Type 0) : Type 0 where
  pub waiting : List (Event G)
  pub ending : Ending
  pub budget : ℕ
  pub room : ℕ
  pub told : List (List (Line G))
  pub stop : Stop

-- a call and its answer: an accepted load answers the bytes that it used, an event or clock call with room for so many
-- lines those that it told; a refused call answers its number, a load the fault with its place
pub data Call (G : Type 0) : Type 0 where
  load_call : List ℕ → Result ℕ Fault → Call G
  withdraw_call : ℕ → Result (Unit {0}) ℕ → Call G
  event_call : Event G → ℕ → Result (List (Line G)) ℕ → Call G
  clock_call : G → ℕ → Result (List (Line G)) ℕ → Call G
  run_call : Run G → Call G

module _ {G : Type 0} where
  -- which of the slots 1 to 8 are loaded
  abbrev pub loaded_slots : List (Act G) → List Bool
  loaded_slots a = map (λ s. is_some (loading_of s a)) (range_with_len 1 8)

  -- a definition that was read is loaded into its slot
  abbrev pub with_load : Result (Reading G) Fault → List (Act G) → List (Act G)
  with_load (Ok r) a = load r.chronicle.slot r.chronicle ∷ a
  with_load (Err f) a = a

  -- the first of the events, each with its lines
  abbrev pub with_events : List (Event G) → List (List (Line G)) → List (Act G) → List (Act G)
  with_events es [] a = a
  with_events [] (lines ∷ told) a = a
  with_events (e ∷ es) (lines ∷ told) a = with_events es told (event e lines ∷ a)

  -- the lines of all records that a run took
  abbrev pub all_lines : List (List (Line G)) → List (Line G)
  all_lines [] = []
  all_lines (lines ∷ told) = lines ++ all_lines told

module _ {K : Type 0} (kind : Meaning K) where
  -- the definition at the front of a text, or its first fault, after the accepted calls a
  abbrev pub definition_after : List (Act kind.G) → List ℕ → Result (Reading kind.G) Fault
  definition_after a text = reading_of kind.fields kind.means kind.bound (loaded_slots a) text

  -- what one call adds to the accepted calls a
  abbrev pub adding : List (Act kind.G) → Call kind.G → List (Act kind.G)
  adding a (load_call text (Ok used)) = with_load (definition_after a text) a
  adding a (load_call text (Err fault)) = a
  adding a (withdraw_call s (Ok done)) = withdraw s ∷ a
  adding a (withdraw_call s (Err number)) = a
  adding a (event_call e room (Ok told)) = event e told ∷ a
  adding a (event_call e room (Err number)) = a
  adding a (clock_call t room (Ok told)) = clock t told ∷ a
  adding a (clock_call t room (Err number)) = a
  adding a (run_call r) = with_events r.waiting r.told a

  -- the accepted calls, the latest first
  abbrev pub accepted : List (Call kind.G) → List (Act kind.G)
  accepted [] = []
  accepted (c ∷ h) = adding (accepted h) c
