-- Rows that are stored behind others leave those in their places.
use Rattle.std.proofs.Common.{◌≡◌, ℕ, zero, suc, ◌<◌, List, [], ◌∷◌, ◌++◌, length, take, refl, ap, ◌∙◌, arith}
use Rattle.std.proofs.lemmas.List.{length-take}
use Rattle.std.specs.List.{slice_get}
use Rattle.lent.specs.declared.list.Lent.{Lent}
use Rattle.lent.specs.Lists.{memory, held}
use Rattle.lent.specs.Storing.{stored}

front_nth : {X : Type 0} (n i : ℕ) (xs ys : List X) → i < n → i < length xs → slice_get (take n (xs ++ ys)) i ≡ slice_get xs i
front_nth zero i xs ys few inside = absurd (omega arith)
front_nth (suc n) i [] ys few inside = absurd (omega arith)
front_nth (suc n) zero (x ∷ xs) ys few inside = refl
front_nth (suc n) (suc i) (x ∷ xs) ys few inside = front_nth n i xs ys (omega arith) (omega arith)

pub stored_nth : {X : Type 0} (s t : Lent X) (xs : List X) (i : ℕ) → stored s xs t → i < length (held s) → slice_get (held t) i ≡ slice_get (held s) i
stored_nth s t xs i so inside = ap (λ ys. slice_get ys i) so.held_is ∙ front_nth (length (memory s)) i (held s) xs (omega (arith, length-take s.len (memory s))) inside
