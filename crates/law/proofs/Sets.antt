-- Lists with exactly certain elements: joined, and of one slot.
use Rattle.std.proofs.Common.{◌≡◌, ℕ, Bool, true, false, cond, eqb, ◌⊎◌, ◌↔◌, List, [], ◌∷◌, ◌++◌, sym, refl, ap, ◌∙◌, subst, inl, inr, ⊎_elim}
use Rattle.std.proofs.lemmas.Slice.Eq.{bytes_eq-Decides}
use Rattle.std.proofs.lemmas.Bool.{cases_eq, cases_Bool, eqb-true, eqb-false, both_ways}
use Rattle.std.specs.Str.{bytes_eq}
use Rattle.kinds.specs.Ordered.{Ordered}
use Rattle.law.specs.Bags.{◌∈◌, Once, Exactly}
use Rattle.law.specs.Histories.{Line, Act}
use Rattle.law.specs.Holding.{Held}
use Rattle.law.specs.Telling.{Row, of_slot, Reads}

module _ {X : Type 0} where
  pub in_append : (x : X) (xs ys : List X) → x ∈ (xs ++ ys) → (x ∈ xs) ⊎ (x ∈ ys)
  in_append x [] ys m = inr m
  in_append x (z ∷ xs) ys (inl e) = inl (inl e)
  in_append x (z ∷ xs) ys (inr m) = ⊎_elim (λ l. inl (inr l)) inr (in_append x xs ys m)

  pub append_left : (x : X) (xs ys : List X) → x ∈ xs → x ∈ (xs ++ ys)
  append_left x [] ys m = absurd m
  append_left x (z ∷ xs) ys (inl e) = inl e
  append_left x (z ∷ xs) ys (inr m) = inr (append_left x xs ys m)

  pub append_right : (x : X) (xs ys : List X) → x ∈ ys → x ∈ (xs ++ ys)
  append_right x [] ys m = m
  append_right x (z ∷ xs) ys m = inr (append_right x xs ys m)

  once_append : (xs ys : List X) → Once xs → Once ys → ((x : X) → x ∈ xs → x ∈ ys → ⊥) → Once (xs ++ ys)
  once_append [] ys a b apart = b
  once_append (x ∷ xs) ys (new, a) b apart =
      ((λ m. ⊎_elim new (λ r. apart x (inl refl) r) (in_append x xs ys m)), once_append xs ys a b (λ z m. apart z (inr m)))

  pub exactly_append : (P Q S : X → Type 0) (xs ys : List X) → Exactly P xs → Exactly Q ys → ((x : X) → P x → Q x → ⊥) → ((x : X) → S x ↔ (P x ⊎ Q x)) → Exactly S (xs ++ ys)
  exactly_append P Q S xs ys a b apart is = record {
    once = once_append xs ys a.once b.once (λ x m k. apart x ((a.each x).0 m) ((b.each x).0 k));
    each = λ x. (
      λ m. (is x).1 (⊎_elim (λ l. inl ((a.each x).0 l)) (λ r. inr ((b.each x).0 r)) (in_append x xs ys m)),
      λ s. ⊎_elim (λ p. append_left x xs ys ((a.each x).1 p)) (λ q. append_right x xs ys ((b.each x).1 q)) ((is x).0 s),
    );
  }

  pub exactly_none : (P : X → Type 0) → ((x : X) → P x → ⊥) → Exactly P []
  exactly_none P none = record { once = tt; each = λ x. ((λ m. absurd m), none x) }

  pub exactly_one : (P : X → Type 0) (x : X) → P x → ((y : X) → P y → x ≡ y) → Exactly P (x ∷ [])
  exactly_one P x p one = record { once = ((λ m. m), tt); each = λ y. (⊎_elim (λ e. subst P e p) (λ m. absurd m), λ q. inl (one y q)) }

module _ {G : Type 0} (s : ℕ) where
  slot_in : (x : Line G) (ls : List (Line G)) → x ∈ of_slot s ls → (x ∈ ls) × (x.slot ≡ s)
  slot_in x [] m = absurd m
  slot_in x (y ∷ ls) m = go (eqb y.slot s) refl m (slot_in x ls)
    where
      go : (b : Bool) → eqb y.slot s ≡ b → x ∈ cond b (y ∷ of_slot s ls) (of_slot s ls) → (x ∈ of_slot s ls → (x ∈ ls) × (x.slot ≡ s)) → ((y ≡ x) ⊎ (x ∈ ls)) × (x.slot ≡ s)
      go true e (inl is) rest = (inl is, ap (λ z. z.slot) (sym is) ∙ eqb-true y.slot s e)
      go true e (inr m) rest = let r = rest m in (inr r.0, r.1)
      go false e m rest = let r = rest m in (inr r.0, r.1)

  in_slot : (x : Line G) (ls : List (Line G)) → x ∈ ls → x.slot ≡ s → x ∈ of_slot s ls
  in_slot x [] m e = absurd m
  in_slot x (y ∷ ls) m e = go (eqb y.slot s) refl m (λ k. in_slot x ls k e)
    where
      go : (b : Bool) → eqb y.slot s ≡ b → (y ≡ x) ⊎ (x ∈ ls) → (x ∈ ls → x ∈ of_slot s ls) → x ∈ cond b (y ∷ of_slot s ls) (of_slot s ls)
      go true t (inl is) rest = inl is
      go true t (inr m) rest = inr (rest m)
      go false t (inl is) rest = absurd (eqb-false y.slot s t (ap (λ z. z.slot) is ∙ e))
      go false t (inr m) rest = rest m

  slot_once : (ls : List (Line G)) → Once ls → Once (of_slot s ls)
  slot_once [] o = tt
  slot_once (y ∷ ls) (new, o) = go (eqb y.slot s) (slot_once ls o)
    where
      go : (b : Bool) → Once (of_slot s ls) → Once (cond b (y ∷ of_slot s ls) (of_slot s ls))
      go true rest = ((λ m. new (slot_in y ls m).0), rest)
      go false rest = rest

  pub exactly_slot : (P : Line G → Type 0) (ls : List (Line G)) → Exactly P ls → Exactly (λ x. P x × (x.slot ≡ s)) (of_slot s ls)
  exactly_slot P ls a = record {
    once = slot_once ls a.once;
    each = λ x. ((λ m. let r = slot_in x ls m in ((a.each x).0 r.0, r.1)), λ (p, e). in_slot x ls ((a.each x).1 p) e);
  }

-- where the rows held are listed, it is decided whether one is held
same_row : (r q : Row) → (r ≡ q) ⊎ (r ≡ q → ⊥)
same_row r q = elim (cases_eq r.slot q.slot) [
  | inr ne ↦ inr (λ e. ne (ap (λ z. z.slot) e))
  | inl e ↦ elim (cases_Bool (bytes_eq r.choice q.choice)) [
    | inl t ↦ inl (λ i. record { slot = e i; choice = (bytes_eq-Decides r.choice q.choice).0 t i })
    | inr f ↦ inr (λ k. both_ways _ f ((bytes_eq-Decides r.choice q.choice).1 (ap (λ z. z.choice) k)))
  ]
]

in_or_not : (r : Row) (rows : List Row) → (r ∈ rows) ⊎ (r ∈ rows → ⊥)
in_or_not r [] = inr (λ m. m)
in_or_not r (q ∷ rows) = ⊎_elim (λ e. inl (inl e)) (λ ne. ⊎_elim (λ m. inl (inr m)) (λ no'. inr (⊎_elim ne no')) (in_or_not r rows)) (same_row q r)

pub held_or_not : {G : Type 0} (group : Ordered G) (h : List (Act G)) (rows : List Row) → Reads group h rows → (s : ℕ) (k : List ℕ) → Held group h s k ⊎ (Held group h s k → ⊥)
held_or_not group h rows reads s k = ⊎_elim (λ m. inl ((reads.each r).0 m)) (λ no'. inr (λ held. no' ((reads.each r).1 held))) (in_or_not r rows)
  where
    r : Row
    r = record { slot = s; choice = k }
