-- A count of free places goes down with each item and stops at 0; then it says that there are too few.
use Rattle.std.specs.Prelude.{◌≡◌, ℕ, ◌+◌, ◌-◌, Bool, true, false, ◌||◌, List, length, nat_lt, refl, is_none, unwrap_or}
use Rattle.std.proofs.Common.{sym, ap, ◌∙◌, ⊎_elim, arith, length-append}
use Rattle.std.proofs.lemmas.Bool.{cases_lt, lt-ltb, le-ltb}
use Rattle.lent.specs.declared.room.Room.{Room}
use Rattle.lent.specs.Taking.{Adds}

-- how many places are left, none where too much was put
abbrev pub places : Room → ℕ
places r = unwrap_or r.left 0

-- whether more was put than there was room for
abbrev pub lacking : Room → Bool
lacking r = is_none r.left

short_none : (b : Bool) (n : ℕ) → b ≡ (b || nat_lt n 0)
short_none true n = refl
short_none false n = sym (le-ltb n 0 (omega arith))

-- too few for some or too few left for the others is too few for both
short_more : (b : Bool) (n x y : ℕ) → ((b || nat_lt n x) || nat_lt (n - x) y) ≡ (b || nat_lt n (x + y))
short_more true n x y = refl
short_more false n x y = ⊎_elim
    (λ few. ap (λ t. t || nat_lt (n - x) y) (lt-ltb n x few) ∙ sym (lt-ltb n (x + y) (omega arith)))
    (λ room. ap (λ t. t || nat_lt (n - x) y) (le-ltb n x room) ∙ ⊎_elim
    (λ few. lt-ltb (n - x) y few ∙ sym (lt-ltb n (x + y) (omega arith)))
    (λ fits. le-ltb (n - x) y fits ∙ sym (le-ltb n (x + y) (omega arith)))
    (cases_lt (n - x) y))
    (cases_lt n x)

module _ {T : Type 0} where
  pub record counted (s : Room) (xs : List T) (t : Room) : Type 0 where
    pub left : places t ≡ places s - length xs
    pub short : lacking t ≡ (lacking s || nat_lt (places s) (length xs))

  pub counted_adds : Adds counted
  counted_adds = record {
    none = λ s. record { left = omega arith; short = short_none (lacking s) (places s) };
    more = λ s t u xs ys a b. record {
      left = simp length-append (omega (arith, a.left, b.left));
      short = b.short ∙ ap (λ c. c || nat_lt (places t) (length ys)) a.short ∙ ap (λ n. (lacking s || nat_lt (places s) (length xs)) || nat_lt n (length ys)) a.left
          ∙ short_more (lacking s) (places s) (length xs) (length ys) ∙ ap (λ n. lacking s || nat_lt (places s) n) (sym (length-append xs ys));
    };
  }
