-- What a call ends: just the rows held before it and not after, each with its line.
use Rattle.std.proofs.Common.{◌≡◌, ℕ, ◌⊎◌, List, [], ◌∷◌, ◌++◌, sym, refl, ◌∙◌, subst, inl, inr, ⊎_elim, append-nil}
use Rattle.kinds.specs.Bounds.{Smallest}
use Rattle.kinds.specs.Ordered.{Ordered}
use Rattle.kinds.specs.declared.bound.Bound.TheVariants.{At}
use Rattle.law.specs.Bags.{Exactly}
use Rattle.law.specs.Each.{Each, none, more}
use Rattle.law.specs.Histories.{Letter, R, D, Line, Act, clock, now_of}
use Rattle.law.specs.Holding.{NotBefore, Held, Deadline}
use Rattle.law.specs.Steps.{Stays, LineOf, EndsAs, Buried}
use Rattle.law.specs.Steps.Buried.{none as all_seen, stays, ends}
use Rattle.law.specs.Telling.{Row, Reads, CallLineAs, CallLine}
use Rattle.law.proofs.Counting.{exactly_as}
use Rattle.law.proofs.Each.{each_from, more_none}
use Rattle.law.proofs.Growing.{holding_shrinks_lem}
use Rattle.law.proofs.Sets.{exactly_append, exactly_none, exactly_one}
use Rattle.law.proofs.Ticks.{same_loading}

abbrev pub row : ℕ → List ℕ → Row
row s k = record { slot = s; choice = k }

-- two smallest elements are one
same_smallest : {G : Type 0} (group : Ordered G) (P : G → Type 0) (x y : G) → Smallest group P (At x) → Smallest group P (At y) → x ≡ y
same_smallest group P x y (p, least) (q, least') = group.leq_antisym x y (least y q) (least' x p)

module _ {G : Type 0} (group : Ordered G) (a : List (Act G)) (act : Act G) where
  pub of_letter : (x : Line G) {y z : Letter} → y ≡ z → CallLineAs group a act x.slot x.choice x.stamp y → CallLineAs group a act x.slot x.choice x.stamp z
  of_letter x = subst (CallLineAs group a act x.slot x.choice x.stamp)

  -- a line tells an end or a recognition
  pub call_lines : (dead ripe : List (Line G)) → Exactly (LineOf group a act D) dead → Exactly (LineOf group a act R) ripe → Exactly (CallLine group a act) (dead ++ ripe)
  call_lines dead ripe ds rs = exactly_append (LineOf group a act D) (LineOf group a act R) _ dead ripe ds rs
      (λ x (d, h) (r, h'). let z : D ≡ R = sym d ∙ r in cc)
      (λ x. (λ line. go x x.letter refl line, ⊎_elim (λ h. h.1) (λ h. h.1)))
    where
      go : (x : Line G) (letter : Letter) → x.letter ≡ letter → CallLine group a act x → LineOf group a act D x ⊎ LineOf group a act R x
      go x R is line = inr (is, line)
      go x D is line = inl (is, line)

  -- a row that is held after the call too
  abbrev Keeps : Row → Row → Type 0
  Keeps r q = (r ≡ q) × Held group (act ∷ a) q.slot q.choice

  -- a row that is not, with its line
  abbrev Loses : Row → Line G → Type 0
  Loses r x = EndsAs group a r x × (Held group (act ∷ a) r.slot r.choice → ⊥)

  one_line : (r : Row) (x y : Line G) → EndsAs group a r x → EndsAs group a r y → x ≡ y
  one_line r x y f g =
      let due = subst (λ l. Deadline group l r.choice (At x.stamp)) (same_loading f.loaded g.loaded) f.due in
      let stamp = same_smallest group _ x.stamp y.stamp due g.due in
      λ i. record { letter = (f.letter ∙ sym g.letter) i; slot = (f.slot ∙ sym g.slot) i; choice = (f.choice ∙ sym g.choice) i; stamp = stamp i }

  one_row : (p q : Row) (x : Line G) → Loses p x → Loses q x → p ≡ q
  one_row p q x (f, gone) (g, gone') = λ i. row ((sym f.slot ∙ g.slot) i) ((sym f.choice ∙ g.choice) i)

  buried_kept : {rows kept : List Row} {dead : List (Line G)} → Buried group a act rows kept dead → Each (λ r qs. Exactly (Keeps r) qs) rows kept
  buried_kept all_seen = none
  buried_kept (stays r b held) = more (buried_kept b) (exactly_one (Keeps r) r (refl, held) (λ q (e, h). e))
  buried_kept (ends r x b gone line) = more_none r (buried_kept b) (exactly_none (Keeps r) (λ q (e, h). gone (subst (λ p. Held group (act ∷ a) p.slot p.choice) (sym e) h)))

  buried_dead : {rows kept : List Row} {dead : List (Line G)} → Buried group a act rows kept dead → Each (λ r xs. Exactly (Loses r) xs) rows dead
  buried_dead all_seen = none
  buried_dead (stays r b held) = more_none r (buried_dead b) (exactly_none (Loses r) (λ x (f, gone). gone held))
  buried_dead (ends r x b gone line) = more (buried_dead b) (exactly_one (Loses r) x (line, gone) (λ y (f, gone'). one_line r x y line f))

  module _ {rows kept : List Row} {dead : List (Line G)} (reads : Reads group a rows) (buried : Buried group a act rows kept dead) where
    -- the rows kept are those that stay
    pub kept_stay : Exactly (Stays group a act) kept
    kept_stay = each_from Keeps (λ p q r (e, h) (f, k). e ∙ sym f) (λ r. Held group a r.slot r.choice) (Stays group a act)
        (λ r. ((λ (p, held, (e, h)). (subst (λ q. Held group a q.slot q.choice) e held, h)), λ (held, h). (r, held, (refl, h)))) reads (buried_kept buried)

    -- and the lines are those of the rows that end
    pub dead_lines : Exactly (LineOf group a act D) dead
    dead_lines = each_from Loses one_row (λ r. Held group a r.slot r.choice) (LineOf group a act D)
        (λ x. (
          (λ (r, held, (f, gone)).
              let is : r ≡ row x.slot x.choice = λ i. row (sym f.slot i) (sym f.choice i) in
              (f.letter, of_letter x (sym f.letter) (subst (λ q. CallLineAs group a act q.slot q.choice x.stamp D) is (f.loading, f.loaded, held, gone, f.due)))),
          (λ (letter, line). let (l, loaded, held, gone, due) = of_letter x letter line in (row x.slot x.choice, held, (record { letter = letter; slot = refl; choice = refl; loading = l; loaded = loaded; due = due }, gone))),
        )) reads (buried_dead buried)

module _ {G : Type 0} (group : Ordered G) (a : List (Act G)) (t : G) (told : List (Line G)) where
  -- after a clock call just the rows that stay are held
  pub clock_reads : NotBefore group (now_of a) t → (kept : List Row) → Exactly (Stays group a (clock t told)) kept → Reads group (clock t told ∷ a) kept
  clock_reads later kept = exactly_as _ _ kept (λ r. ((λ h. h.1), λ (l, loaded, held). ((l, loaded, holding_shrinks_lem group l r.choice (now_of a) t later held), (l, loaded, held))))

  -- and it tells of no recognition
  pub clock_lines : (dead : List (Line G)) → Exactly (LineOf group a (clock t told) D) dead → Exactly (CallLine group a (clock t told)) dead
  clock_lines dead ds = subst (Exactly (CallLine group a (clock t told))) (append-nil dead) (call_lines group a (clock t told) dead [] ds (exactly_none _ (λ x (is, line). (of_letter group a (clock t told) x is line).4)))
