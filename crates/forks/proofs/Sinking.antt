-- What goes into sinks, one part after another.
use Rattle.std.proofs.Common.{List, [], ◌++◌}
use Rattle.lent.specs.Taking.{Adds}
use Rattle.forks.specs.Forks.{Sunk}

module _ {A B R L : Type 0} {tookR : R → List A → R → Type 0} {tookL : L → List B → L → Type 0} (addsR : Adds tookR) (addsL : Adds tookL) where
  pub sunk_none : (r : R) (l : L) (P : List A → List B → Type 0) → P [] [] → Sunk tookR tookL r r l l P
  sunk_none r l P p = ([], [], addsR.none r, addsL.none l, p)

  pub sunk_more : (r s t : R) (l m n : L) (P Q S : List A → List B → Type 0) → ((as' cs : List A) (bs ds : List B) → P as' bs → Q cs ds → S (as' ++ cs) (bs ++ ds)) →
      Sunk tookR tookL r s l m P → Sunk tookR tookL s t m n Q → Sunk tookR tookL r t l n S
  sunk_more r s t l m n P Q S both (as', bs, a, b, p) (cs, ds, c, d, q) = (as' ++ cs, bs ++ ds, addsR.more r s t as' cs a c, addsL.more l m n bs ds b d, both as' cs bs ds p q)

  pub sunk_as : (r s : R) (l m : L) (P Q : List A → List B → Type 0) → ((as' : List A) (bs : List B) → P as' bs → Q as' bs) → Sunk tookR tookL r s l m P → Sunk tookR tookL r s l m Q
  sunk_as r s l m P Q on (as', bs, a, b, p) = (as', bs, a, b, on as' bs p)
