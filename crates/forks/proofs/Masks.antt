-- What holds of each of the slots 1 to 8.
use Rattle.std.proofs.Common.{◌≡◌, ℕ, zero, suc, ◌+◌, ◌-◌, ◌<◌, ◌≤◌, Bool, true, false, cond, List, length, get_or, MatchBool, Decides, sym, refl, ap, ◌∙◌, subst, ⊎_elim, arith, rules}
use Rattle.std.proofs.lemmas.Bool.{false≢true, cases_eq}
use Rattle.std.specs.Array.{IsFromFnResultFrom}
use Rattle.std.specs.Fn.{Called}
use denote.Param.Members.{Mut}
use Rattle.std.specs.List.{AllWithin, HoldsAt}
use Rattle.rows.specs.Filled.{is_in}
use Rattle.rows.specs.declared.filled.Filled.{Filled}
use Rattle.slots.specs.Slots.{is_slot}
use Rattle.forks.specs.Wanting.{mask_of}
use Rattle.forks.specs.declared.wanted.Wanted.{Wanted}

-- what each call of a closure gives that changes nothing, place by place
module _ {F B : Type 0} (g : Mut F (ℕ × Unit {0}) B) (f : F) (P : ℕ → B → Type 0) (keeps : (i : ℕ) (y : B) (q : F) → Called g f (i, tt) y q → (q ≡ f) × P i y) (ys : List B) where
  pub given_each : (n a : ℕ) → IsFromFnResultFrom g f ys a n → (i : ℕ) → a ≤ i → i < a + n → (d : B) → P i (get_or ys i d)
  given_each zero a made i low high d = absurd (omega arith)
  given_each (suc n) a (q, y, read, call, others) i low high d =
      let (kept, here) = keeps a y q call in
      ⊎_elim (λ same. subst (λ k. P k (get_or ys k d)) (sym same) (subst (P a) (sym (read.1 d)) here))
      (λ other. given_each n (a + 1) (subst (λ f. IsFromFnResultFrom g f ys (a + 1) n) kept others) i (omega arith) (omega arith) d) (cases_eq i a)

within : (s : ℕ) → 1 ≤ s → s ≤ 8 → is_slot s ≡ true
within s low high = search rules

-- the mask of a slot stands one place before its number
mask_at : (w : Wanted) (s : ℕ) → 1 ≤ s → s ≤ 8 → mask_of w s ≡ (get_or w.masks (s - 1) (record { bits = 0 })).bits
mask_at w s low high = ap (λ t. cond t (get_or w.masks (s - 1) (record { bits = 0 })).bits 0) (within s low high)

pub each_slot : (masks : List Filled) (P : ℕ → ℕ → Type 0) → ((i : ℕ) → i < 8 → P (i + 1) (get_or masks i (record { bits = 0 })).bits) → (s : ℕ) → 1 ≤ s → s ≤ 8 → P s (mask_of (record { masks = masks }) s)
each_slot masks P each s low high =
    let next : s - 1 + 1 ≡ s = omega arith in
    subst (P s) (sym (mask_at (record { masks = masks }) s low high)) (subst (λ t. P t (get_or masks (s - 1) (record { bits = 0 })).bits) next (each (s - 1) (omega arith)))

pub none_wanted : (w : Wanted) (r : Bool) → length w.masks ≡ 8 → MatchBool r (AllWithin (λ m. (j : ℕ) → is_in m.bits j ≡ false) w.masks 0 (length w.masks)) ((i : ℕ) × (i < length w.masks) × HoldsAt (λ m. ((j : ℕ) → is_in m.bits j ≡ false) → ⊥) w.masks i) →
    Decides r ((s j : ℕ) → 1 ≤ s → s ≤ 8 → is_in (mask_of w s) j ≡ false)
none_wanted w true long all = (λ e s j low high. ap (λ b. is_in b j) (mask_at w s low high) ∙ all (s - 1) (record { bits = 0 }) (omega arith) (omega (arith, long)) j, λ each. refl)
none_wanted w false long (i, h, some) = (
  λ e. absurd (false≢true e),
  λ each.
      let here : i + 1 - 1 ≡ i = omega arith in
      absurd (some (record { bits = 0 }) (λ j. ap (λ n. is_in (get_or w.masks n (record { bits = 0 })).bits j) (sym here) ∙ ap (λ b. is_in b j) (sym (mask_at w (i + 1) (omega arith) (omega (arith, long)))) ∙ each (i + 1) j (omega arith) (omega (arith, long)))),
)
