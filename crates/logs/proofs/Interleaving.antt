-- Why a merge interleaves its sources, and keeps stamps from falling.
use Rattle.std.proofs.Common.{◌≡◌, Bool, true, false, List, [], ◌∷◌, ◌++◌, Ok, Err, refl, inl, inr}
use Rattle.kinds.specs.Ordered.{Ordered}
use Rattle.logs.specs.Endings.{Ending, clean_end}
use Rattle.logs.specs.Events.{Event}
use Rattle.logs.specs.Merging.{merged_list, merged_ending}
use Rattle.logs.specs.MergeLaws.{Stops, Heads, Rising, Undercuts, Interleaves, MergeLaw}
use Rattle.logs.specs.MergeLaws.Stops.{clean, first_fault, second_fault}
use Rattle.logs.specs.MergeLaws.Interleaves.{none, from_first, from_second}

module _ {G : Type 0} (leq : G → G → Bool) where
  -- what is given and what is left, without the order
  record Given (xs : List (Event G)) (e : Ending) (ys : List (Event G)) (f : Ending) (zs : List (Event G)) (r : Ending) : Type 0 where
    left_first : List (Event G)
    left_second : List (Event G)
    interleaves : Interleaves leq e f xs ys zs left_first left_second
    stops : Stops e f left_first left_second r

  all_second : (f : Ending) (ys : List (Event G)) → Interleaves leq clean_end f [] ys ys [] []
  all_second f [] = none
  all_second f (y ∷ ys) = from_second refl tt (all_second f ys)

  all_first : (e : Ending) (xs : List (Event G)) → Interleaves leq e clean_end xs [] xs [] []
  all_first e [] = none
  all_first e (x ∷ xs) = from_first refl tt (all_first e xs)

  given : (xs : List (Event G)) (e : Ending) (ys : List (Event G)) (f : Ending) → Given xs e ys f (merged_list leq xs e ys f) (merged_ending leq xs e ys f)
  given [] (Ok u) ys (Ok v) = record { left_first = []; left_second = []; interleaves = all_second clean_end ys; stops = clean refl refl }
  given [] (Ok u) ys (Err c) = record { left_first = []; left_second = []; interleaves = all_second (Err c) ys; stops = second_fault refl refl }
  given [] (Err c) ys f = record { left_first = []; left_second = ys; interleaves = none; stops = first_fault refl }
  given (x ∷ xs) (Ok u) [] (Ok v) = record { left_first = []; left_second = []; interleaves = all_first clean_end (x ∷ xs); stops = clean refl refl }
  given (x ∷ xs) (Err c) [] (Ok u) = record { left_first = []; left_second = []; interleaves = all_first (Err c) (x ∷ xs); stops = first_fault refl }
  given (x ∷ xs) e [] (Err c) = record { left_first = x ∷ xs; left_second = []; interleaves = none; stops = second_fault refl tt }
  given (x ∷ xs) e (y ∷ ys) f = go (leq x.stamp y.stamp) refl (given xs e (y ∷ ys) f) (given (x ∷ xs) e ys f)
    where
      go : (b : Bool) → leq x.stamp y.stamp ≡ b →
          Given xs e (y ∷ ys) f (merged_list leq xs e (y ∷ ys) f) (merged_ending leq xs e (y ∷ ys) f) →
          Given (x ∷ xs) e ys f (merged_list leq (x ∷ xs) e ys f) (merged_ending leq (x ∷ xs) e ys f) →
          Given (x ∷ xs) e (y ∷ ys) f (merged_list leq (x ∷ xs) e (y ∷ ys) f) (merged_ending leq (x ∷ xs) e (y ∷ ys) f)
      go true h p q = rw h (record { left_first = p.left_first; left_second = p.left_second; interleaves = from_first tt h p.interleaves; stops = p.stops })
      go false h p q = rw h (record { left_first = q.left_first; left_second = q.left_second; interleaves = from_second tt h q.interleaves; stops = q.stops })

  rising_front : (zs ws : List (Event G)) → Rising leq (zs ++ ws) → Rising leq zs
  rising_front [] ws h = tt
  rising_front (z ∷ []) ws h = (tt, tt)
  rising_front (z ∷ w ∷ zs) ws h = (h.0, rising_front (w ∷ zs) ws h.1)

  heads_given : {e f : Ending} {xs ys zs ls rs : List (Event G)} (w : Event G) → Interleaves leq e f xs ys zs ls rs → Heads leq w xs → Heads leq w ys →
      Heads leq w (zs ++ ls) × Heads leq w (zs ++ rs)
  heads_given w none a b = (a, b)
  heads_given w (from_first s h i) a b = (a, a)
  heads_given w (from_second s h i) a b = (b, b)

module _ {G : Type 0} (group : Ordered G) where
  undercuts_heads : (y : Event G) (xs : List (Event G)) → Undercuts group.leq y xs → Heads group.leq y xs
  undercuts_heads y [] h = tt
  undercuts_heads y (x ∷ xs) h =
      elim (group.leq_total x.stamp y.stamp) [ inl l ↦ absurd (cc) | inr l ↦ l ]

  rising_given : {e f : Ending} {xs ys zs ls rs : List (Event G)} → Interleaves group.leq e f xs ys zs ls rs →
      Rising group.leq xs → Rising group.leq ys → Rising group.leq (zs ++ ls) × Rising group.leq (zs ++ rs)
  rising_given none a b = (a, b)
  rising_given (from_first {x} s h i) a b =
      let on = rising_given i a.1 b in
      let next = heads_given group.leq x i a.0 h in
      ((next.0, on.0), (next.1, on.1))
  rising_given (from_second {y} {xs} s h i) a b =
      let on = rising_given i a b.1 in
      let next = heads_given group.leq y i (undercuts_heads y xs h) b.0 in
      ((next.0, on.0), (next.1, on.1))

  pub merge_law : (xs : List (Event G)) (e : Ending) (ys : List (Event G)) (f : Ending) → MergeLaw group.leq xs e ys f
  merge_law xs e ys f =
      let p = given group.leq xs e ys f in
      record {
        left_first = p.left_first;
        left_second = p.left_second;
        interleaves = p.interleaves;
        stops = p.stops;
        rising = λ a b. rising_front group.leq (merged_list group.leq xs e ys f) p.left_first (rising_given p.interleaves a b).0;
        none_skipped = rising_given p.interleaves;
      }
