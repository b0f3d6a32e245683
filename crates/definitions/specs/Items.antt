-- What the items that the code reads say.
use Rattle.std.specs.Prelude.{◌≡◌, Ok, Err, Result}
use Rattle.text.specs.declared.fault.Fault.{Fault}
use Rattle.text.specs.Spelled.{spelled}
use Rattle.definitions.specs.declared.item.Limit.{Limit as Read}
use Rattle.definitions.specs.declared.item.Item.{Item}
use Rattle.definitions.specs.declared.item.Item.TheVariants.{Opening, Variable, Bounding, Closing}
use Rattle.definitions.specs.Chronicles.{Limit, Said}
use Rattle.definitions.specs.Chronicles.Said.{opening, variable, limit, closing}

module _ {K G : Type 0} (value : K → G) where
  abbrev pub limit_by : Read K → Limit G
  limit_by l = record { from = l.from; to = l.to; most = value l.most }

  abbrev pub said_by : Item K → Said G
  said_by (Opening s) = opening s
  said_by (Variable n) = variable (spelled n)
  said_by (Bounding l) = limit (limit_by l)
  said_by Closing = closing

  -- r is the answer a, in machine values
  abbrev pub Says : Result (Said G) Fault → Result (Item K) Fault → Type 0
  Says a (Ok item) = a ≡ Ok (said_by item)
  Says a (Err f) = a ≡ Err f
