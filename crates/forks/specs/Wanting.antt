-- Which variables an event's type fits, as bits.
use Rattle.std.specs.Prelude.{ℕ, ◌-◌, ◌<◌, cond, List, Decides, Option, slice_index_or}
use Rattle.slots.specs.Slots.{is_slot}
use Rattle.slots.specs.Variables.{HasType}
use Rattle.rows.specs.Filled.{is_in}
use Rattle.forks.specs.declared.wanted.Wanted.{Wanted}

-- the variables of slot s, from 1
abbrev pub mask_of : Wanted → ℕ → ℕ
mask_of w s = cond (is_slot s) (slice_index_or w.masks (s - 1) (record { bits = 0 })).bits 0

-- the bits are just those of the first eight variables that are of that type
abbrev pub Wants : Option (List (List ℕ)) → List ℕ → ℕ → Type 0
Wants types name bits = (j : ℕ) → Decides (is_in bits j) ((j < 8) × HasType types j name)
