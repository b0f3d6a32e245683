-- The order and the sums of bounds.
use Rattle.std.proofs.Common.{◌≡◌, true, refl, ap, ◌∙◌, subst}
use Rattle.std.proofs.lemmas.Bool.{false≢true}
use Rattle.kinds.specs.Ordered.{Ordered}
use Rattle.kinds.specs.Bounds.{join, at_most}
use Rattle.network.specs.Steps.{Under}
use Rattle.kinds.specs.declared.bound.Bound.{Bound}
use Rattle.kinds.specs.declared.bound.Bound.TheVariants.{At, NoBound}

module _ {G : Type 0} (O : Ordered G) where
  pub under : {a b : Bound G} → at_most O a b ≡ true → Under O a b
  under h = record { is = h }

  pub plus_mono : (x y z w : G) → O.leq x y ≡ true → O.leq z w ≡ true → O.leq (O.plus x z) (O.plus y w) ≡ true
  plus_mono x y z w h k =
      O.leq_trans _ (O.plus y z) _ (O.leq_shift x y z h)
      (subst (λ l. O.leq l (O.plus y w) ≡ true) (O.plus_comm z y) (subst (λ r. O.leq (O.plus z y) r ≡ true) (O.plus_comm w y) (O.leq_shift z w y k)))

  pub zero_plus : (x : G) → O.plus O.zero x ≡ x
  zero_plus x = O.plus_comm O.zero x ∙ O.plus_zero x

  pub under_refl : (a : Bound G) → Under O a a
  under_refl (At x) = under (O.leq_refl x)
  under_refl NoBound = under refl

  pub under_same : {a b : Bound G} → a ≡ b → Under O a b
  under_same {a} e = subst (Under O a) e (under_refl a)

  pub under_trans : {a b c : Bound G} → Under O a b → Under O b c → Under O a c
  under_trans {a} {b} {c} h k = under (go a b c h.is k.is)
    where
      go : (a b c : Bound G) → at_most O a b ≡ true → at_most O b c ≡ true → at_most O a c ≡ true
      go (At x) (At y) (At z) h k = O.leq_trans x y z h k
      go (At x) (At y) NoBound h k = refl
      go (At x) NoBound (At z) h k = absurd (false≢true k)
      go (At x) NoBound NoBound h k = refl
      go NoBound (At y) (At z) h k = absurd (false≢true h)
      go NoBound (At y) NoBound h k = refl
      go NoBound NoBound (At z) h k = k
      go NoBound NoBound NoBound h k = refl

  pub under_none : (a : Bound G) → Under O a NoBound
  under_none (At x) = under refl
  under_none NoBound = under refl

  pub join_mono : {a b c d : Bound G} → Under O a b → Under O c d → Under O (join O a c) (join O b d)
  join_mono {a} {b} {c} {d} h k = go a b c d h.is k.is
    where
      go : (a b c d : Bound G) → at_most O a b ≡ true → at_most O c d ≡ true → Under O (join O a c) (join O b d)
      go a (At y) c NoBound h k = under_none (join O a c)
      go a NoBound c d h k = under_none (join O a c)
      go (At x) (At y) (At z) (At w) h k = under (plus_mono x y z w h k)
      go (At x) (At y) NoBound (At w) h k = absurd (false≢true k)
      go NoBound (At y) c (At w) h k = absurd (false≢true h)

  pub join_assoc : (a b c : Bound G) → join O (join O a b) c ≡ join O a (join O b c)
  join_assoc (At x) (At y) (At z) = ap At (O.plus_assoc x y z)
  join_assoc (At x) (At y) NoBound = refl
  join_assoc (At x) NoBound c = refl
  join_assoc NoBound b c = refl

  pub join_comm : (a b : Bound G) → join O a b ≡ join O b a
  join_comm (At x) (At y) = ap At (O.plus_comm x y)
  join_comm (At x) NoBound = refl
  join_comm NoBound (At y) = refl
  join_comm NoBound NoBound = refl

  pub zero_join : (a : Bound G) → join O (At O.zero) a ≡ a
  zero_join (At x) = ap At (zero_plus x)
  zero_join NoBound = refl

  pub join_zero : (a : Bound G) → join O a (At O.zero) ≡ a
  join_zero (At x) = ap At (O.plus_zero x)
  join_zero NoBound = refl
