-- What a list has taken where there is room for all.
use Rattle.std.proofs.Common.{◌≡◌, ◌+◌, ◌≤◌, List, ◌++◌, length, drop, ap, ◌∙◌, arith}
use Rattle.std.proofs.lemmas.List.{length-append, take_all}
use Rattle.lent.specs.declared.list.Lent.{Lent}
use Rattle.lent.specs.Lists.{memory, held}
use Rattle.lent.specs.Storing.{stored}

module _ {T : Type 0} (s t : Lent T) (xs : List T) (took : stored s xs t) (room : length (held s) + length xs ≤ length (memory s)) where
  pub held_all : held t ≡ held s ++ xs
  held_all = took.held_is ∙ take_all (length (memory s)) (held s ++ xs) (omega (arith, length-append (held s) xs))

  pub rest_kept : drop (length (held t)) (memory t) ≡ drop (length (held s) + length xs) (memory s)
  rest_kept = took.past ∙ ap (λ n. drop n (memory s)) (ap length held_all ∙ length-append (held s) xs)
