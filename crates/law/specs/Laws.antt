-- The law of a watch over the calls made on it: what they answered, which rows are held, which lines were told.
use Rattle.std.specs.Prelude.{◌≡◌, ℕ, ◌-◌, ◌<◌, List, [], ◌∷◌, ◌++◌, length, drop, Ok, Err, Result}
use Rattle.text.specs.declared.fault.Fault.{Fault}
use Rattle.kinds.specs.declared.kind.Kind.{Ghosts as Meaning}
use Rattle.definitions.specs.Reading.{Reading}
use Rattle.logs.specs.Events.{Event}
use Rattle.law.specs.Calls.{Stop, spent, ended, refused, Run, Call, load_call, withdraw_call, event_call, clock_call, run_call, with_events, all_lines, definition_after, accepted}
use Rattle.law.specs.Clocks.{Parallel, Alike}
use Rattle.law.specs.Histories.{Line, Act, event}
use Rattle.law.specs.Refusals.{Accepts, Refuses, Decided, Lent, load_grounds, withdraw_grounds, event_grounds, clock_grounds}
use Rattle.law.specs.Telling.{Row, Reads, Tells, Lawful}

-- at some moment the accepted calls were g, of those that are a now
abbrev pub Moment : {G : Type 0} → List (Act G) → List (Act G) → Type 0
Moment {G} g a = (later : List (Act G)) × (later ++ g ≡ a)

module _ {K : Type 0} (kind : Meaning K) (lent : Lent) where
  -- an accepted load answers how many bytes its definition has
  abbrev pub BytesUsed : List (Act kind.G) → List ℕ → Result ℕ Fault → Type 0
  BytesUsed a text (Ok used) = (r : Reading kind.G) × (definition_after kind a text ≡ Ok r) × (used ≡ r.used)
  BytesUsed a text (Err fault) = Unit {0}

  -- the first of the events are accepted one after another, in the room that is left
  abbrev pub Takes : List (Act kind.G) → ℕ → List (Event kind.G) → List (List (Line kind.G)) → Type 0
  Takes a room es [] = Unit {0}
  Takes a room [] (lines ∷ told) = ⊥
  Takes a room (e ∷ es) (lines ∷ told) = Accepts (event_grounds kind lent a e room) × Takes (event e lines ∷ a) (room - length lines) es told

  -- with the budget used a run is spent; else it stops at the ending where no record is left, and at a record that is refused
  abbrev pub StopsBy : List (Act kind.G) → Run kind.G → Stop → Type 0
  StopsBy a r spent = length r.told ≡ r.budget
  StopsBy a r (ended e) = (length r.told < r.budget) × (drop (length r.told) r.waiting ≡ []) × (e ≡ r.ending)
  StopsBy a r (refused number) =
      (length r.told < r.budget)
      × ((e : Event kind.G) × (rest : List (Event kind.G)) × (drop (length r.told) r.waiting ≡ e ∷ rest)
      × Refuses (event_grounds kind lent (with_events r.waiting r.told a) e (r.room - length (all_lines r.told))) number)

  -- the answer of a call after the accepted calls a
  abbrev pub Answers : List (Act kind.G) → Call kind.G → Type 0
  Answers a (load_call text answer) = Decided (load_grounds kind lent a text) answer × BytesUsed a text answer
  Answers a (withdraw_call s answer) = Decided (withdraw_grounds kind lent a s) answer
  Answers a (event_call e room answer) = Decided (event_grounds kind lent a e room) answer
  Answers a (clock_call t room answer) = Decided (clock_grounds kind lent a t room) answer
  Answers a (run_call r) = Takes a r.room r.waiting r.told × StopsBy a r r.stop

  abbrev pub Answered : List (Call kind.G) → Type 0
  Answered [] = Unit {0}
  Answered (c ∷ h) = Answers (accepted kind h) c × Answered h

  -- the law of a watch on which the calls h were made, and of which these rows are read
  pub record Law (h : List (Call kind.G)) (rows : List Row) : Type 0 where
    -- each call was refused by its first ground or had none, and each run took the first records and stopped by its rules
    pub answers : Answered h
    -- each accepted call told just its own lines: of rows held before it and not after, and of recognitions with its event
    pub calls : Lawful kind.group (accepted kind h)
    -- the rows read are exactly those held
    pub rows_held : Reads kind.group (accepted kind h) rows
    -- at every moment, of each loading that lasted then, just the lines owed were told
    pub lines_told : (g : List (Act kind.G)) → Moment g (accepted kind h) → Tells kind.group g
    -- a watch that accepts the same loads and events, and no withdrawal, holds and has told the same after each event
    pub clocks : (other : List (Act kind.G)) → Lawful kind.group other → (f g : List (Act kind.G)) → Moment f (accepted kind h) → Moment g other → Parallel f g → Alike kind.group f g

  -- from what single calls owe follows the law, for every history
  abbrev pub LawFollows : Type 0
  LawFollows = (h : List (Call kind.G)) (rows : List Row) → Answered h → Lawful kind.group (accepted kind h) → Reads kind.group (accepted kind h) rows → Law h rows
