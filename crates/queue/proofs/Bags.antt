-- How the calls of a heap change its bag and keep its order.
use Rattle.std.proofs.Common.{◌≡◌, ℕ, zero, suc, ◌+◌, ◌-◌, ◌/◌, ◌<◌, ◌≤◌, Bool, true, List, [], ◌∷◌, ◌++◌, length, get_or, take, set, Some, Option, sym, refl, ap, ◌∙◌, subst, ⊎_elim, arith}
use Rattle.std.specs.List.Sorted.{IsPermutation}
use Rattle.std.proofs.lemmas.Bool.{cases_eq}
use Rattle.std.proofs.ByRecursion.{All-from_get_or}
use Rattle.std.proofs.lemmas.List.Sorted.{IsPermutation-cons, IsPermutation-trans, IsPermutation-sym, IsPermutation-to_front, IsPermutation-swap_remove}
use Rattle.std.proofs.lemmas.List.{length_push, length-take-le, length-set, take_at, get_or-take, get_or-set_other}
use Rattle.queue.specs.Ranks.{Ranks}
use Rattle.queue.specs.Heaps.{Heaped, HeapedFrom, first, Leads}
use Rattle.queue.proofs.Order.{alike, itself}

pub longer : {X : Type 0} (xs zs : List X) (x : X) → zs ≡ xs ++ (x ∷ []) → length zs ≡ length xs + 1
longer xs zs x is = ap length is ∙ length_push xs x

module _ {X : Type 0} (leq : X → X → Bool) where
  -- the last element in the place of the first
  pub one_less : (xs : List X) (x : X) → 0 < length xs → Heaped leq xs → HeapedFrom leq (0 + 1) (take (length xs - 1) (set xs 0 x))
  one_less xs x some was =
      let n = length xs - 1 in
      let ys = set xs 0 x in
      let long : length (take n ys) ≡ n = length-take-le n ys (let e = length-set xs 0 x in omega arith) in
      let same : (m : ℕ) (d : X) → 0 < m → m < n → get_or (take n ys) m d ≡ get_or xs m d = λ m d low h. get_or-take n ys m d h ∙ get_or-set_other xs 0 m x d (omega arith) in
      record { over = λ p k d a b e h. alike leq (same p d (omega arith) (omega arith)) (same k d (omega arith) (omega arith)) (was.over p k d (omega arith) b e (omega arith)) }

  pub pushed : (xs zs ws : List X) (x : X) → zs ≡ xs ++ (x ∷ []) → IsPermutation zs ws → (Heaped leq (take (length zs - 1) zs) → Heaped leq ws) → IsPermutation (x ∷ xs) ws × (Heaped leq xs → Heaped leq ws)
  pushed xs zs ws x is bag rises =
      let last : length xs ≡ length zs - 1 = omega (arith, longer xs zs x is) in
      let front : take (length zs - 1) zs ≡ xs = ap (take (length zs - 1)) is ∙ take_at xs (x ∷ []) (length zs - 1) last in
      (IsPermutation-trans (x ∷ xs) zs ws (subst (IsPermutation (x ∷ xs)) (sym is) (IsPermutation-sym (xs ++ (x ∷ [])) (x ∷ xs) (IsPermutation-to_front xs x))) bag, λ was. rises (subst (Heaped leq) (sym front) was))

  module _ (o : Ranks leq) (xs : List X) (was : Heaped leq xs) where
    top : (fuel k : ℕ) (d : X) → k ≤ fuel → k < length xs → leq (get_or xs 0 d) (get_or xs k d) ≡ true
    top zero k d a b = let e : k ≡ 0 = omega arith in alike leq refl (ap (λ n. get_or xs n d) e) (itself leq o (get_or xs 0 d))
    top (suc fuel) k d a b = ⊎_elim
        (λ e. alike leq refl (ap (λ n. get_or xs n d) e) (itself leq o (get_or xs 0 d)))
        (λ n. o.chain _ _ _ (top fuel ((k - 1) / 2) d (omega arith) (omega arith)) (was.over ((k - 1) / 2) k d (omega arith) (omega arith) (omega arith) b))
        (cases_eq k 0)

    -- the first of a heap comes no later than any
    pub leads : (x : X) → 0 < length xs → ((d : X) → x ≡ get_or xs 0 d) → Leads leq xs (Some x)
    leads x some is = (
      (0, some, λ d. sym (is d)),
      All-from_get_or (λ y. leq x y ≡ true) xs x (λ k h. alike leq (is x) refl (top k k x (omega arith) h)),
    )

  -- and so does what is said to be the first
  pub first_leads : Ranks leq → (xs : List X) (r : Option X) → r ≡ first xs → Heaped leq xs → Leads leq xs r
  first_leads o xs r is was = subst (Leads leq xs) (sym is) (led o xs was)
    where
      led : Ranks leq → (xs : List X) → Heaped leq xs → Leads leq xs (first xs)
      led o [] was = refl
      led o (x ∷ xs) was = leads o (x ∷ xs) was x (omega arith) (λ d. refl)

pub at_first : {X : Type 0} (xs : List X) (x : X) → Some x ≡ first xs → (d : X) → x ≡ get_or xs 0 d
at_first [] x is d = let z : ◌≡◌ {A = ℕ} 0 1 = cc in absurd (omega arith)
at_first (y ∷ ys) x is d = cc

pub removed : {X : Type 0} (xs ws : List X) (x last : X) → Some x ≡ first xs → 0 < length xs → ((d : X) → last ≡ get_or xs (length xs - 1) d) → IsPermutation (take (length xs - 1) (set xs 0 last)) ws → IsPermutation xs (x ∷ ws)
removed xs ws x last is some is_last bag =
    let rest = take (length xs - 1) (set xs 0 last) in
    let taken : IsPermutation xs (x ∷ rest) = subst (λ l. IsPermutation xs (x ∷ take (length xs - 1) (set xs 0 l))) (sym (is_last x)) (IsPermutation-swap_remove xs 0 x some (at_first xs x is x)) in
    IsPermutation-trans xs (x ∷ rest) (x ∷ ws) taken (IsPermutation-cons x rest ws bag)
