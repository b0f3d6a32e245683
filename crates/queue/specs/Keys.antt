-- Orders of whole values by a part of them.
use Rattle.std.specs.Prelude.{Bool, nat_le}
use Rattle.std.proofs.Common.{⊎_elim, inl, inr, arith}
use Rattle.std.proofs.lemmas.Bool.{cases_lt, le-leb, leb-true}
use Rattle.queue.specs.Ranks.{Ranks}

pub numbers : Ranks nat_le
numbers = record {
  total = λ x y. ⊎_elim (λ l. inl (le-leb x y (omega arith))) (λ l. inr (le-leb y x l)) (cases_lt x y);
  chain = λ x y z h k. le-leb x z (omega (arith, leb-true x y h, leb-true y z k));
}

-- ranked as a key of each value is
pub by_key : {X Y : Type 0} (key : X → Y) (leq : Y → Y → Bool) → Ranks leq → Ranks (λ (x y : X). leq (key x) (key y))
by_key key leq o = record {
  total = λ x y. o.total (key x) (key y);
  chain = λ x y z. o.chain (key x) (key y) (key z);
}
