-- Lists with exactly the same elements are equally long.
use Rattle.std.proofs.Common.{◌≡◌, ◌+◌, ◌≤◌, ◌↔◌, List, [], ◌∷◌, length, sym, refl, ◌∙◌, subst, inl, inr, arith}
use Rattle.law.specs.Bags.{◌∈◌, Once, Exactly}

module _ {X : Type 0} where
  -- the list with one place left out
  abbrev without : (x : X) (ys : List X) → x ∈ ys → List X
  without x [] m = []
  without x (y ∷ ys) (inl e) = ys
  without x (y ∷ ys) (inr m) = y ∷ without x ys m

  shorter : (x : X) (ys : List X) (m : x ∈ ys) → length ys ≡ length (without x ys m) + 1
  shorter x [] m = absurd m
  shorter x (y ∷ ys) (inl e) = omega arith
  shorter x (y ∷ ys) (inr m) = omega (arith, shorter x ys m)

  others_stay : (x : X) (ys : List X) (m : x ∈ ys) (z : X) → (x ≡ z → ⊥) → z ∈ ys → z ∈ without x ys m
  others_stay x [] m z ne k = absurd m
  others_stay x (y ∷ ys) (inl e) z ne (inl s) = absurd (ne (sym e ∙ s))
  others_stay x (y ∷ ys) (inl e) z ne (inr k) = k
  others_stay x (y ∷ ys) (inr m) z ne (inl s) = inl s
  others_stay x (y ∷ ys) (inr m) z ne (inr k) = inr (others_stay x ys m z ne k)

  pub once_length : (xs ys : List X) → Once xs → ((x : X) → x ∈ xs → x ∈ ys) → length xs ≤ length ys
  once_length [] ys once among = omega arith
  once_length (x ∷ xs) ys (new, once) among =
      let m = among x (inl refl) in
      omega (arith, shorter x ys m, once_length xs (without x ys m) once (λ z k. others_stay x ys m z (λ e. new (subst (λ y. y ∈ xs) (sym e) k)) (among z (inr k))))

  pub exactly_length : (P : X → Type 0) (xs ys : List X) → Exactly P xs → Exactly P ys → length xs ≡ length ys
  exactly_length P xs ys a b =
      omega (arith, once_length xs ys a.once (λ x m. (b.each x).1 ((a.each x).0 m)), once_length ys xs b.once (λ x m. (a.each x).1 ((b.each x).0 m)))

  -- the same elements by another name
  pub exactly_as : (P Q : X → Type 0) (xs : List X) → ((x : X) → P x ↔ Q x) → Exactly P xs → Exactly Q xs
  exactly_as P Q xs same a = record { once = a.once; each = λ x. ((λ m. (same x).0 ((a.each x).0 m)), λ q. (a.each x).1 ((same x).1 q)) }
