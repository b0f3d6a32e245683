-- Why the source whose turn it is has the merge's next record.
use Rattle.std.proofs.Common.{◌≡◌, Bool, true, false, cond, List, [], ◌∷◌, Ok, Err, refl}
use Rattle.logs.specs.Endings.{Ending}
use Rattle.logs.specs.declared.merge.Side.TheVariants.{First, Second}
use Rattle.logs.specs.Events.{Event, first}
use Rattle.logs.specs.Turns.{turn, Turns}

module _ {G : Type 0} (leq : G → G → Bool) where
  pub turn_turns : (xs : List (Event G)) (e : Ending) (ys : List (Event G)) (f : Ending) → Turns leq xs e ys f (turn leq (first xs e) (first ys f))
  turn_turns [] (Ok u) [] f = record { head = refl; left = refl; same = refl }
  turn_turns [] (Ok u) (y ∷ ys) f = record { head = refl; left = refl; same = refl }
  turn_turns [] (Err c) ys f = record { head = refl; left = refl; same = refl }
  turn_turns (x ∷ []) (Ok u) [] (Ok v) = record { head = refl; left = refl; same = refl }
  turn_turns (x ∷ []) (Err c) [] (Ok u) = record { head = refl; left = refl; same = refl }
  turn_turns (x ∷ z ∷ xs) e [] (Ok u) = record { head = refl; left = refl; same = refl }
  turn_turns (x ∷ xs) e [] (Err c) = record { head = refl; left = refl; same = refl }
  turn_turns (x ∷ xs) e (y ∷ ys) f = go (leq x.stamp y.stamp) refl
    where
      go : (b : Bool) → leq x.stamp y.stamp ≡ b → Turns leq (x ∷ xs) e (y ∷ ys) f (cond b First Second)
      go true h = record { head = rw h; left = rw h; same = rw h }
      go false h = record { head = rw h; left = rw h; same = rw h }
