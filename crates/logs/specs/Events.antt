-- The meaning of a record is an event; what comes next is the first event that waits, or the ending.
use Rattle.std.specs.Prelude.{ℕ, List, [], ◌∷◌, Some, None, Ok, Err, Option, Result}
use Rattle.text.specs.Spelled.{spelled}
use Rattle.logs.specs.declared.record.Record.{Record}
use Rattle.logs.specs.declared.ending.LogFault.{LogFault}
use Rattle.logs.specs.Endings.{Ending, clean_end}

-- the letters of the type, the gauge, and the element that the stamp stands for
pub record Event (G : Type 0) : Type 0 where
  pub name : List ℕ
  pub gauge : ℕ
  pub stamp : G

-- what comes next in a source
pub data Coming (G : Type 0) : Type 0 where
  comes : Event G → Coming G
  ends : Ending → Coming G

abbrev pub first : {G : Type 0} → List (Event G) → Ending → Coming G
first [] e = ends e
first (x ∷ xs) e = comes x

module _ {K G : Type 0} (value : K → G) where
  abbrev pub event : Record K → Event G
  event r = record { name = spelled r.name; gauge = r.gauge; stamp = value r.stamp }

  -- what the machine's answer means
  abbrev pub meant : Result (Option (Record K)) LogFault → Coming G
  meant (Ok (Some r)) = comes (event r)
  meant (Ok None) = ends clean_end
  meant (Err f) = ends (Err f)
