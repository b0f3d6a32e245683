-- What several places of a parent come to: the parts, one after another.
use Rattle.std.proofs.Common.{◌≡◌, ℕ, ◌+◌, ◌<◌, ◌⊎◌, ◌↔◌, List, [], ◌++◌, map, sym, ap, ◌∙◌, subst, inl, inr, ⊎_elim, arith}
use Rattle.std.proofs.ByRecursion.{All-append}
use Rattle.std.proofs.lemmas.List.{map-append, get_or-set_same, get_or-set_other}
use Rattle.std.proofs.lemmas.Bool.{cases_lt}
use Rattle.kinds.specs.declared.bound.Bound.{Bound}
use Rattle.kinds.specs.declared.kind.Kind.{Ghosts as Meaning}
use Rattle.law.specs.Bags.{Exactly}
use Rattle.law.specs.Histories.{Seen, Loading}
use Rattle.law.specs.Holding.{at, width}
use Rattle.law.proofs.Sets.{exactly_append}
use Rattle.report.specs.declared.line.Line.{Line}
use Rattle.report.specs.Lines.{line_of}
use Rattle.forks.specs.declared.row.Row.{Row}
use Rattle.forks.specs.declared.row.Arrival.{Arrival}
use Rattle.forks.specs.Forks.{PutAt, PutBefore, Put, Parent, Forked}
use Rattle.forks.specs.Rows.{choice_of, row_of}
use Rattle.forks.proofs.Single.{forked_none}

module _ {K : Type 0} (kind : Meaning K) (l : Loading kind.G) (e : Seen kind.G) where
  -- the choices of two apart sets
  pub forked_join : (P Q S : List ℕ → Type 0) (slot : ℕ) (born born' : List (Row K)) (ripe ripe' : List (Line K)) → ((k : List ℕ) → P k → Q k → ⊥) → ((k : List ℕ) → S k ↔ (P k ⊎ Q k)) →
      Forked kind l e P slot born ripe → Forked kind l e Q slot born' ripe' → Forked kind l e S slot (born ++ born') (ripe ++ ripe')
  forked_join P Q S slot born born' ripe ripe' apart is one two = record {
    rows = subst (Exactly _) (sym (map-append row_of born born')) (exactly_append _ _ _ (map row_of born) (map row_of born') one.rows two.rows
        (λ r (s, p, h) (t, q, g). apart r.choice p q)
        (λ r. ((λ (s, p, h). ⊎_elim (λ a. inl (s, a, h)) (λ b. inr (s, b, h)) ((is r.choice).0 p)), ⊎_elim (λ (s, p, h). (s, (is r.choice).1 (inl p), h)) (λ (s, p, h). (s, (is r.choice).1 (inr p), h)))));
    standing = All-append _ born born' one.standing two.standing;
    lines = subst (Exactly _) (sym (map-append (line_of kind.value) ripe ripe')) (exactly_append _ _ _ (map (line_of kind.value) ripe) (map (line_of kind.value) ripe') one.lines two.lines
        (λ x (a, b, c, p, r) (a', b', c', q, r'). apart x.choice p q)
        (λ x. ((λ (a, b, c, p, r). ⊎_elim (λ q. inl (a, b, c, q, r)) (λ q. inr (a, b, c, q, r)) ((is x.choice).0 p)), ⊎_elim (λ (a, b, c, p, r). (a, b, c, (is x.choice).1 (inl p), r)) (λ (a, b, c, p, r). (a, b, c, (is x.choice).1 (inr p), r)))));
  }

  -- the same choices under another name
  pub forked_same : (P Q : List ℕ → Type 0) (slot : ℕ) (born : List (Row K)) (ripe : List (Line K)) → ((k : List ℕ) → P k ↔ Q k) → Forked kind l e P slot born ripe → Forked kind l e Q slot born ripe
  forked_same P Q slot born ripe is one = record {
    rows = record { once = one.rows.once; each = λ r. (λ m. let (s, p, h) = (one.rows.each r).0 m in (s, (is r.choice).0 p, h), λ (s, q, h). (one.rows.each r).1 (s, (is r.choice).1 q, h)) };
    standing = one.standing;
    lines = record { once = one.lines.once; each = λ x. (λ m. let (a, b, c, p, r) = (one.lines.each x).0 m in (a, b, c, (is x.choice).0 p, r), λ (a, b, c, q, r). (one.lines.each x).1 (a, b, c, (is x.choice).1 q, r)) };
  }

  module _ (table : List (Bound K)) (wanted : ℕ) (arrival : Arrival K) (parent : Row K) (by : Parent kind l e table wanted arrival parent) where
    abbrev k : List ℕ
    k = choice_of parent

    pub forked_start : Forked kind l e (PutBefore l k e 0) parent.slot [] []
    forked_start = forked_none kind l e (PutBefore l k e 0) parent.slot (λ k' (j, less, put). absurd (omega arith))

    -- an event stands at one place only
    one_place : (i j : ℕ) (k' : List ℕ) → PutAt l k e i k' → PutAt l k e j k' → i < j → ⊥
    one_place i j k' p q less =
        let wide = by.standing.portrays.choice.wide in
        let numbered = by.numbered in
        let new : at k' j ≡ e.number = ap (λ ks. at ks j) q.choice ∙ get_or-set_same k j e.number 0 (omega (arith, q.inside)) in
        let old : at k' j ≡ at k j = ap (λ ks. at ks j) p.choice ∙ get_or-set_other k i j e.number 0 (λ s. omega arith) in
        omega (arith, q.is_open)

    pub forked_more : (j : ℕ) (born born' : List (Row K)) (ripe ripe' : List (Line K)) → Forked kind l e (PutBefore l k e j) parent.slot born ripe → Forked kind l e (PutAt l k e j) parent.slot born' ripe' →
        Forked kind l e (PutBefore l k e (j + 1)) parent.slot (born ++ born') (ripe ++ ripe')
    forked_more j born born' ripe ripe' = forked_join (PutBefore l k e j) (PutAt l k e j) (PutBefore l k e (j + 1)) parent.slot born born' ripe ripe'
        (λ k' (i, less, p) q. one_place i j k' p q less)
        (λ k'. (
          (λ (i, less, p). ⊎_elim (λ below. inl (i, below, p)) (λ above. let s : i ≡ j = omega arith in inr (subst (λ i. PutAt l k e i k') s p)) (cases_lt i j)),
          ⊎_elim (λ (i, less, p). (i, omega arith, p)) (λ p. (j, omega arith, p)),
        ))

    pub forked_all : (n : ℕ) (born : List (Row K)) (ripe : List (Line K)) → n ≡ width l → Forked kind l e (PutBefore l k e n) parent.slot born ripe → Forked kind l e (Put l k e) parent.slot born ripe
    forked_all n born ripe all = forked_same (PutBefore l k e n) (Put l k e) parent.slot born ripe (λ k'. ((λ (j, less, p). (j, p)), (λ (j, p). (j, omega (arith, p.inside), p))))
