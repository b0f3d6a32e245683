-- A row with nothing filled stands for the blank choice of its loading.
use Rattle.std.proofs.Common.{◌≡◌, ℕ, ◌<◌, ◌≤◌, false, List, length, replicate, sym, ◌∙◌, arith}
use Rattle.std.proofs.lemmas.List.{get_or-replicate}
use Rattle.std.proofs.lemmas.Bool.{both_ways}
use Rattle.kinds.specs.Ordered.{Ordered}
use Rattle.kinds.specs.declared.bound.Bound.TheVariants.{NoBound}
use Rattle.law.specs.Histories.{Loading}
use Rattle.law.specs.Holding.{at, width, Deadline}
use Rattle.law.proofs.Places.{blank_choice, blank_agrees}
use Rattle.law.proofs.Tests.{open_is}
use Rattle.rows.specs.Filled.{is_in}
use Rattle.rows.specs.Portraits.{stamp_at, Portrays}

module _ {K G : Type 0} (O : Ordered G) (value : K → G) (weight : G → ℕ) (l : Loading G) where
  pub blank_open : (i : ℕ) → i < width l → at (replicate (width l) 0) i ≡ 0
  blank_open i p = get_or-replicate (width l) i 0 0 p

  pub blank_portrayed : (bits : ℕ) (stamps : List K) (n : ℕ) → width l ≡ n → n ≤ 8 → length stamps ≡ 8 → ((i : ℕ) → is_in bits i ≡ false) → Portrays O value weight l (replicate (width l) 0) bits stamps n
  blank_portrayed bits stamps n wide few long none = record {
    choice = blank_choice l;
    wide = sym wide;
    few = omega arith;
    long = omega arith;
    filled = λ i p. none i ∙ sym (open_is (replicate (width l) 0) i (blank_open i p));
    agrees = blank_agrees l (stamp_at O value stamps);
    light = λ i p f. absurd (both_ways _ (open_is (replicate (width l) 0) i (blank_open i p)) f);
  }

  pub blank_due : Deadline O l (replicate (width l) 0) NoBound
  blank_due y (j, p, o, (i, e, s, q, nz, fills, chain, is)) = nz (blank_open i q)
