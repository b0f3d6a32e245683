-- The bits of a number below 256 as the variables that are filled: laws, or tests that antt computes at every number.
use Rattle.std.proofs.Common.{◌≡◌, ℕ, zero, suc, ◌+◌, ◌-◌, ◌*◌, ◌/◌, ◌%◌, ◌^◌, ◌<◌, ◌≤◌, Bool, true, false, cond, not, ◌&&◌, ◌||◌, eqb, ltb, sym, refl, ap, ◌∙◌, subst, ⊎_elim, lt_of_lt_of_le, mod-lt, mod-eq_of_lt, one-mul, one-add, arith, lit<, pow_pos, pow_mono}
use native.Mathlib.Nat.{div-eq_of_lt}
use lib.Bits.{bit_and, bit_or, and_mask, or_lt}
use lib.Count.{ones, ones_in, ones_cat, count_trailing_zeros}
use Rattle.std.proofs.lemmas.Nat.{mod-pow-add, pow_below}
use Rattle.std.proofs.lemmas.Bool.{and_parts, and_from, both_ways, eqb-true, ne_eqb, not-true, not_from_false, cases_lt}
use Rattle.std.proofs.lemmas.Bool.Decides.{Decides-below_and}
use Rattle.rows.specs.Filled.{is_in, open_count, NoneOpen, FirstOpen}

-- a test at every number below n
abbrev every : ℕ → (ℕ → Bool) → Bool
every zero f = true
every (suc n) f = f n && every n f

at_each : (n : ℕ) (f : ℕ → Bool) → every n f ≡ true → (k : ℕ) → k < n → f k ≡ true
at_each n f = (Decides-below_and f (λ k. f k ≡ true) (λ m. every m f) (λ k. (λ e. e, λ e. e)) refl (λ _. refl) n).0

abbrev same : Bool → Bool → Bool
same true b = b
same false b = not b

same_is : (a b : Bool) → same a b ≡ true → a ≡ b
same_is true b e = sym e
same_is false b e = sym (not-true b e)

-- no bit stands from the eighth on
pub none_beyond : (b i : ℕ) → b < 256 → 8 ≤ i → is_in b i ≡ false
none_beyond b i h far = ap (λ n. eqb (n % 2) 1) (div-eq_of_lt {n = b} {m = 2 ^ i} (lt_of_lt_of_le h (pow_mono {i = 8} {j = i} far)))

pub bit_read : (b i : ℕ) → eqb (bit_and (b / 2 ^ i) 1) 1 ≡ is_in b i
bit_read b i = ap (λ n. eqb n 1) (and_mask (b / 2 ^ i) 1)

-- one bit more
abbrev adds : ℕ → ℕ → ℕ → Bool
adds b i j = same (is_in (bit_or b (1 * 2 ^ i % 256)) j) (is_in b j || (eqb i j && ltb i 8))

adds_each : every 256 (λ b. every 8 (λ i. every 8 (adds b i))) ≡ true
adds_each = refl

pub bit_added : (b i j : ℕ) → b < 256 → i < 8 → is_in (bit_or b (1 * 2 ^ i % 256)) j ≡ (is_in b j || (eqb i j && ltb i 8))
bit_added b i j h l = ⊎_elim
    (λ near. same_is _ _ (at_each 8 (adds b i) (at_each 8 (λ i. every 8 (adds b i)) (at_each 256 (λ b. every 8 (λ i. every 8 (adds b i))) adds_each b h) i l) j near))
    (λ far.
    none_beyond (bit_or b (1 * 2 ^ i % 256)) j (or_lt 8 b (1 * 2 ^ i % 256) h (mod-lt (1 * 2 ^ i) (lit< tt))) far
    ∙ sym (ap (λ t. t || (eqb i j && ltb i 8)) (none_beyond b j h far) ∙ ap (λ t. t && ltb i 8) (ne_eqb i j (λ e. omega arith))))
    (cases_lt j 8)

pub masked_low : (b n : ℕ) → n < 8 → bit_and b (1 * 2 ^ n % 256 - 1) ≡ b % 2 ^ n
masked_low b n h = ap (λ m. bit_and b (m - 1)) (mod-eq_of_lt (subst (λ m. m < 256) (sym (one-mul (2 ^ n))) (pow_below n 8 h)) ∙ one-mul (2 ^ n)) ∙ and_mask b n

pub masked_high : (b n : ℕ) → b < 256 → 8 ≤ n → bit_and b 255 ≡ b % 2 ^ n
masked_high b n h far = and_mask b 8 ∙ mod-eq_of_lt h ∙ sym (mod-eq_of_lt (lt_of_lt_of_le h (pow_mono {i = 8} {j = n} far)))

-- the bits below n and those that lack make up n
one_bit : (a : ℕ) → a < 2 → cond (eqb a 1) 0 1 + ones a ≡ 1
unfolding ones ones_in
one_bit zero h = refl
one_bit (suc zero) h = refl
one_bit (suc (suc a)) h = absurd (omega arith)

pub open_and_set : (b n : ℕ) → open_count b n + ones (b % 2 ^ n) ≡ n
unfolding ones ones_in
open_and_set b zero = let e : b % 2 ^ 0 ≡ 0 = omega arith in let z : ones (b % 2 ^ 0) ≡ 0 = ap ones e in omega arith
open_and_set b (suc n) =
    let a = b / 2 ^ n % 2 in
    let r = b % 2 ^ n in
    let parted : ones (b % 2 ^ suc n) ≡ ones a + ones r = ap ones (simp (one-add) at (mod-pow-add b 1 n)) ∙ ones_cat n a r (mod-lt b (pow_pos n)) in
    let low = open_and_set b n in
    let bit = one_bit a (mod-lt (b / 2 ^ n) (lit< tt)) in
    omega arith

-- the lowest bit that lacks
abbrev lacks : ℕ → Bool
lacks b = not (is_in b (count_trailing_zeros 8 (255 - b))) && every (count_trailing_zeros 8 (255 - b)) (is_in b)

lacks_each : every 256 lacks ≡ true
unfolding count_trailing_zeros
lacks_each = refl

pub first_open_lem : (b n : ℕ) → b < 256 → count_trailing_zeros 8 (255 - b) < n → FirstOpen b n (count_trailing_zeros 8 (255 - b))
first_open_lem b n h l =
    let found = and_parts _ _ (at_each 256 lacks lacks_each b h) in
    record { among = l; is_open = not-true _ found.0; before = at_each (count_trailing_zeros 8 (255 - b)) (is_in b) found.1 }

pub none_open : (b n : ℕ) → b < 256 → n ≤ count_trailing_zeros 8 (255 - b) → NoneOpen b n
none_open b n h l i below = at_each (count_trailing_zeros 8 (255 - b)) (is_in b) (and_parts _ _ (at_each 256 lacks lacks_each b h)).1 i (omega arith)

-- where no bit stands the number is 0
abbrev bare : ℕ → Bool
bare b = eqb b 0 || not (every 8 (λ i. not (is_in b i)))

bare_each : every 256 bare ≡ true
bare_each = refl

every_is : (n : ℕ) (f : ℕ → Bool) → ((k : ℕ) → f k ≡ true) → every n f ≡ true
every_is zero f all = refl
every_is (suc n) f all = and_from (f n) (every n f) (all n) (every_is n f all)

pub no_bit : (b : ℕ) → b < 256 → ((i : ℕ) → is_in b i ≡ false) → eqb b 0 ≡ true
no_bit b h none = go (eqb b 0) (at_each 256 bare bare_each b h)
  where
    go : (t : Bool) → (t || not (every 8 (λ i. not (is_in b i)))) ≡ true → t ≡ true
    go true e = refl
    go false e = absurd (both_ways (not (every 8 (λ i. not (is_in b i)))) (ap not (every_is 8 (λ i. not (is_in b i)) (λ i. not_from_false (is_in b i) (none i)))) e)

pub zero_bits : (b : ℕ) → eqb b 0 ≡ true → (i : ℕ) → is_in b i ≡ false
zero_bits b e i = ap (λ n. is_in n i) (eqb-true b 0 e) ∙ ap (λ n. eqb (n % 2) 1) (div-eq_of_lt {n = 0} {m = 2 ^ i} (pow_pos i))
