-- What a merge holds, whatever the two sources are: records of both, each source's in its order, up to its ending; and
-- stamps that never fall in either never fall in it.
use Rattle.std.specs.Prelude.{◌≡◌, Bool, true, false, List, [], ◌∷◌, ◌++◌}
use Rattle.logs.specs.Endings.{Ending, clean_end, is_clean}
use Rattle.logs.specs.Events.{Event}
use Rattle.logs.specs.Merging.{merged_list, merged_ending}

-- a source that is not at a fault: a record waits in it, or it has ended clean
abbrev pub Sound : {G : Type 0} → List (Event G) → Ending → Type 0
Sound [] e = e ≡ clean_end
Sound (x ∷ xs) e = Unit {0}

-- how a merge of sources with the endings e and f comes to its ending, by what is left behind in each: nothing in
-- either, or nothing in the one whose fault it is; the first source's fault goes before the second's
pub data Stops {G : Type 0} (e f : Ending) : List (Event G) → List (Event G) → Ending → Type 0 where
  clean : e ≡ clean_end → f ≡ clean_end → Stops e f [] [] clean_end
  first_fault : {rs : List (Event G)} → is_clean e ≡ false → Stops e f [] rs e
  second_fault : {ls : List (Event G)} → is_clean f ≡ false → Sound ls e → Stops e f ls [] f

module _ {G : Type 0} (leq : G → G → Bool) where
  -- x is at most the first of the list, if there is one
  abbrev pub Heads : Event G → List (Event G) → Type 0
  Heads x [] = Unit {0}
  Heads x (y ∷ ys) = leq x.stamp y.stamp ≡ true

  -- stamps never fall
  abbrev pub Rising : List (Event G) → Type 0
  Rising [] = Unit {0}
  Rising (x ∷ xs) = Heads x xs × Rising xs

  -- y is smaller than the first of the list, if there is one
  abbrev pub Undercuts : Event G → List (Event G) → Type 0
  Undercuts y [] = Unit {0}
  Undercuts y (x ∷ xs) = leq x.stamp y.stamp ≡ false

  -- zs are records of xs and ys, each list's in its order, with ls and rs left behind; a record is given only while the
  -- other source is not at a fault and has no smaller one, and on equal stamps the first source's
  pub data Interleaves (e f : Ending) : List (Event G) → List (Event G) → List (Event G) → List (Event G) → List (Event G) → Type 0 where
    none : {ls rs : List (Event G)} → Interleaves e f ls rs [] ls rs
    from_first : {x : Event G} {xs ys zs ls rs : List (Event G)} → Sound ys f → Heads x ys → Interleaves e f xs ys zs ls rs → Interleaves e f (x ∷ xs) ys (x ∷ zs) ls rs
    from_second : {y : Event G} {xs ys zs ls rs : List (Event G)} → Sound xs e → Undercuts y xs → Interleaves e f xs ys zs ls rs → Interleaves e f xs (y ∷ ys) (y ∷ zs) ls rs

  pub record Merges (xs : List (Event G)) (e : Ending) (ys : List (Event G)) (f : Ending) (zs : List (Event G)) (r : Ending) : Type 0 where
    pub left_first : List (Event G)
    pub left_second : List (Event G)
    pub interleaves : Interleaves e f xs ys zs left_first left_second
    pub stops : Stops e f left_first left_second r
    pub rising : Rising xs → Rising ys → Rising zs
    -- nothing that is left behind is smaller than what was given
    pub none_skipped : Rising xs → Rising ys → Rising (zs ++ left_first) × Rising (zs ++ left_second)

  abbrev pub MergeLaw : List (Event G) → Ending → List (Event G) → Ending → Type 0
  MergeLaw xs e ys f = Merges xs e ys f (merged_list leq xs e ys f) (merged_ending leq xs e ys f)
