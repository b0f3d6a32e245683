-- When a call is refused and with what: for each call its grounds in the order of their tests.
use Rattle.std.specs.Prelude.{◌≡◌, ℕ, ◌<◌, ◌≤◌, min, false, ◌⊎◌, List, [], ◌∷◌, length, None, Ok, Err, Result}
use Rattle.text.specs.declared.fault.Cause.TheVariants.{ShortMemory, Contradictory as Contradicts}
use Rattle.text.specs.declared.fault.Fault.{Fault}
use Rattle.text.specs.Faults.{fault_at}
use Rattle.kinds.specs.declared.kind.Kind.{Ghosts as Meaning}
use Rattle.network.specs.Chains.{Contradictory}
use Rattle.definitions.specs.Chronicles.{Given}
use Rattle.definitions.specs.Reading.{Reading}
use Rattle.logs.specs.Events.{Event}
use Rattle.law.specs.Bags.{Exactly}
use Rattle.law.specs.Calls.{definition_after}
use Rattle.law.specs.Histories.{Line, Act, event, clock, now_of, event_count, loading_of}
use Rattle.law.specs.Holding.{NotBefore}
use Rattle.law.specs.Telling.{Row, Reads, CallLine}

-- a ground of refusal says with which answers a call is refused for it, with none where it does not hold
abbrev pub Ground : Type 0 → Type 1
Ground A = A → Type 0

-- the ground with that number and condition
abbrev pub numbered : ℕ → Type 0 → Ground ℕ
numbered n P answer = P × (answer ≡ n)

module _ {A : Type 0} where
  abbrev pub Fails : Ground A → Type 0
  Fails reason = (answer : A) → reason answer → ⊥

  -- no ground holds
  abbrev pub Accepts : List (Ground A) → Type 0
  Accepts [] = Unit {0}
  Accepts (reason ∷ grounds) = Fails reason × Accepts grounds

  -- the first ground that holds gives the answer
  abbrev pub Refuses : List (Ground A) → A → Type 0
  Refuses [] answer = ⊥
  Refuses (reason ∷ grounds) answer = reason answer ⊎ (Fails reason × Refuses grounds answer)

  -- a call is refused by its first ground, and accepted exactly if it has none
  abbrev pub Decided : {B : Type 0} → List (Ground A) → Result B A → Type 0
  Decided grounds (Ok x) = Accepts grounds
  Decided grounds (Err answer) = Refuses grounds answer

-- the lengths of the memory that the caller lends to a watch
pub record Lent : Type 0 where
  pub entries : ℕ
  pub rows : ℕ
  pub deadlines : ℕ

-- how many rows a watch has: as many as fit with their deadlines, at most 4,096
abbrev pub capacity : Lent → ℕ
capacity lent = min 4096 (min lent.rows lent.deadlines)

module _ {K : Type 0} (kind : Meaning K) (lent : Lent) (a : List (Act kind.G)) where
  -- after the accepted calls a, a load is refused where the entries are too few, at the first line at fault, and at its
  -- last line where the bounds contradict
  abbrev pub load_grounds : List ℕ → List (Ground Fault)
  load_grounds text =
      (λ fault. (lent.entries < 512) × (fault ≡ fault_at ShortMemory 0 0))
      ∷ (λ fault. definition_after kind a text ≡ Err fault)
      ∷ (λ fault. (r : Reading kind.G) × (definition_after kind a text ≡ Ok r) × Contradictory kind.group (Given r.chronicle.limits) × (fault ≡ fault_at Contradicts r.lines 0))
      ∷ []

  abbrev pub withdraw_grounds : ℕ → List (Ground ℕ)
  withdraw_grounds s = numbered 20 ((loading_of s a ≡ None) ⊎ ((s < 1) ⊎ (8 < s))) ∷ []

  -- the conditions on an event or clock call
  abbrev pub StampNotAdmitted : kind.G → Type 0
  StampNotAdmitted t = kind.stamp t ≡ false

  abbrev pub BeforeNow : kind.G → Type 0
  BeforeNow t = NotBefore kind.group (now_of a) t → ⊥

  -- more rows would be held after the event than the watch has
  abbrev pub RowsShort : Event kind.G → Type 0
  RowsShort e = (rows : List Row) × Reads kind.group (event e [] ∷ a) rows × (capacity lent < length rows)

  -- the call has more lines than its report has left
  abbrev pub LinesShort : Act kind.G → ℕ → Type 0
  LinesShort act room = (lines : List (Line kind.G)) × Exactly (CallLine kind.group a act) lines × (room < length lines)

  abbrev pub event_grounds : Event kind.G → ℕ → List (Ground ℕ)
  event_grounds e room =
      numbered 22 (StampNotAdmitted e.stamp ⊎ ((e.gauge < 1) ⊎ (9999 < e.gauge)))
      ∷ numbered 23 (BeforeNow e.stamp)
      ∷ numbered 24 (4294967295 ≤ event_count a)
      ∷ numbered 25 (RowsShort e)
      ∷ numbered 26 (LinesShort (event e []) room)
      ∷ []

  abbrev pub clock_grounds : kind.G → ℕ → List (Ground ℕ)
  clock_grounds t room =
      numbered 22 (StampNotAdmitted t)
      ∷ numbered 23 (BeforeNow t)
      ∷ numbered 26 (LinesShort (clock t []) room)
      ∷ []
