-- Events of a loading have their own numbers, at most as many as were accepted.
use Rattle.std.proofs.Common.{◌≡◌, ℕ, ◌+◌, ◌<◌, ◌≤◌, Bool, true, false, cond, eqb, List, [], ◌∷◌, Some, None, Option, sym, refl, ap, ◌∙◌, subst, inl, inr, arith}
use Rattle.law.specs.Bags.{◌∈◌}
use Rattle.law.specs.Histories.{Act, load, withdraw, event, clock, Seen, Loading, event_count, loading_of, joined}

pub record Numbered {G : Type 0} (n : ℕ) (since : List (Seen G)) : Type 0 where
  pub some : (e : Seen G) → e ∈ since → 0 < e.number
  pub most : (e : Seen G) → e ∈ since → e.number ≤ n
  pub unique : (e f : Seen G) → e ∈ since → f ∈ since → e.number ≡ f.number → e ≡ f

abbrev pub NumberedIn : {G : Type 0} → ℕ → Option (Loading G) → Type 0
NumberedIn n None = Unit {0}
NumberedIn n (Some l) = Numbered n l.since

module _ {G : Type 0} where
  none_numbered : (n : ℕ) → Numbered {G = G} n []
  none_numbered n = record { some = λ e m. absurd m; most = λ e m. absurd m; unique = λ e f m. absurd m }

  one_numbered : (n : ℕ) (x : Seen G) (since : List (Seen G)) → x.number ≡ n + 1 → Numbered n since → Numbered (n + 1) (x ∷ since)
  one_numbered n x since new old = record { some = some; most = most; unique = unique }
    where
      some : (e : Seen G) → e ∈ (x ∷ since) → 0 < e.number
      some e (inl s) = omega (arith, ap (λ y. y.number) s)
      some e (inr m) = old.some e m

      most : (e : Seen G) → e ∈ (x ∷ since) → e.number ≤ n + 1
      most e (inl s) = omega (arith, ap (λ y. y.number) s)
      most e (inr m) = omega (arith, old.most e m)

      unique : (e f : Seen G) → e ∈ (x ∷ since) → f ∈ (x ∷ since) → e.number ≡ f.number → e ≡ f
      unique e f (inl s) (inl t) same = sym s ∙ t
      unique e f (inl s) (inr m) same = absurd (omega (arith, ap (λ y. y.number) s, old.most f m))
      unique e f (inr m) (inl t) same = absurd (omega (arith, ap (λ y. y.number) t, old.most e m))
      unique e f (inr m) (inr k) same = old.unique e f m k same

  pub numbered : (s : ℕ) (h : List (Act G)) → NumberedIn (event_count h) (loading_of s h)
  numbered s [] = tt
  numbered s (load t c ∷ h) = go (eqb t s) (numbered s h)
    where
      go : (b : Bool) → NumberedIn (event_count h) (loading_of s h) → NumberedIn (event_count h) (cond b (Some (record { chronicle = c; since = [] })) (loading_of s h))
      go true old = none_numbered (event_count h)
      go false old = old
  numbered s (withdraw t ∷ h) = go (eqb t s) (numbered s h)
    where
      go : (b : Bool) → NumberedIn (event_count h) (loading_of s h) → NumberedIn (event_count h) (cond b None (loading_of s h))
      go true old = tt
      go false old = old
  numbered s (event e told ∷ h) = go (loading_of s h) (numbered s h)
    where
      go : (o : Option (Loading G)) → NumberedIn (event_count h) o → NumberedIn (event_count h + 1) (joined o (record { number = event_count h + 1; seen = e }))
      go None old = tt
      go (Some l) old = one_numbered (event_count h) (record { number = event_count h + 1; seen = e }) l.since refl old
  numbered s (clock t told ∷ h) = numbered s h

  pub numbered-at : (s : ℕ) (h : List (Act G)) (l : Loading G) → loading_of s h ≡ Some l → Numbered (event_count h) l.since
  numbered-at s h l e = subst (NumberedIn (event_count h)) e (numbered s h)
