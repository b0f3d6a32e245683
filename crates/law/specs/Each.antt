-- What a loop over a list builds: it puts some more at the end for each element.
use Rattle.std.specs.Prelude.{List, [], ◌∷◌, ◌++◌}

-- R says what is put for one element
pub data Each {A B : Type 0} (R : A → List B → Type 0) : List A → List B → Type 0 where
  none : Each R [] []
  more : {xs : List A} {ys zs : List B} {x : A} → Each R xs ys → R x zs → Each R (xs ++ (x ∷ [])) (ys ++ zs)
