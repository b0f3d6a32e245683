-- Rows that stay or end, one after another.
use Rattle.std.proofs.Common.{◌≡◌, ℕ, zero, suc, ◌+◌, ◌<◌, ◌≤◌, ◌↔◌, List, [], ◌∷◌, ◌++◌, map, length, get_or, take, Some, None, Option, sym, ap, ◌∙◌, subst, inl, inr, arith}
use Rattle.std.specs.List.{slice_get}
use Rattle.std.proofs.ByRecursion.{All-get_or, All-push}
use Rattle.std.proofs.lemmas.List.{map_push, take_more, take_all}
use Rattle.std.proofs.lemmas.Option.{slice_get-get_or}
use Rattle.kinds.specs.Ordered.{Ordered}
use Rattle.kinds.specs.declared.kind.Kind.{Ghosts as Meaning}
use Rattle.logs.specs.Events.{Event}
use Rattle.lent.specs.Taking.{Adds}
use Rattle.law.specs.Bags.{◌∈◌}
use Rattle.law.specs.Histories.{Act, event, clock, now_of}
use Rattle.law.specs.Holding.{Held, HeldIn}
use Rattle.law.specs.Steps.{Buried}
use Rattle.law.specs.Steps.Buried.{none, stays, ends}
use Rattle.law.proofs.Events.{held_after}
use Rattle.law.proofs.Ticks.{same_loading}
use Rattle.report.specs.declared.line.Line.{Line}
use Rattle.report.specs.Lines.{line_of}
use Rattle.forks.specs.declared.row.Row.{Row}
use Rattle.forks.specs.Rows.{choice_of, row_of, Ends, EndsAt, InLoading}
use Rattle.forks.specs.Ends.{PassesTo, Before, Settles}

module _ {G : Type 0} (group : Ordered G) (a : List (Act G)) where
  pub passes_event : (e : Event G) → PassesTo group a (event e []) e.stamp
  passes_event e s l k loaded choice = held_after a e s l loaded group k choice

  pub passes_clock : (t : G) → PassesTo group a (clock t []) t
  passes_clock t s l k loaded choice = (λ held. (l, loaded, held), λ (m, f, held). subst (λ m. HeldIn group m (Some t) k) (same_loading f loaded) held)

module _ {X : Type 0} where
  found_in : {Y : Type 0} (f : X → Y) (xs : List X) (i : ℕ) (x : X) → slice_get xs i ≡ Some x → f x ∈ map f xs
  found_in f [] i x is = let z : ◌≡◌ {A = ℕ} 0 1 = cc in absurd (omega arith)
  found_in f (y ∷ xs) zero x is = let same : y ≡ x = cc in inl (ap f same)
  found_in f (y ∷ xs) (suc i) x is = inr (found_in f xs i x is)

  pub found_at : (xs : List X) (i : ℕ) (x : X) → i < length xs → slice_get xs i ≡ Some x → get_or xs i x ≡ x
  found_at xs i x inside is = let there = slice_get-get_or xs i x inside in cc

  -- where nothing is found the list has ended
  pub past_end : (xs : List X) (i : ℕ) → slice_get xs i ≡ None → length xs ≤ i
  past_end [] i is = omega arith
  past_end (x ∷ xs) zero is = let z : ◌≡◌ {A = ℕ} 0 1 = cc in absurd (omega arith)
  past_end (x ∷ xs) (suc i) is = let rest = past_end xs i is in omega arith

module _ {K : Type 0} (kind : Meaning K) (rows : List (Row K)) (i : ℕ) (r : Row K) (inside : i < length rows) (here : slice_get rows i ≡ Some r) (x : kind.G) where
  pub take_here : {Y : Type 0} (f : Row K → Y) → map f (take (i + 1) rows) ≡ map f (take i rows) ++ (f r ∷ [])
  take_here f = ap (map f) (take_more rows i r inside ∙ ap (λ q. take i rows ++ (q ∷ [])) (found_at rows i r inside here)) ∙ map_push f (take i rows) r

  module _ (a : List (Act kind.G)) (act : Act kind.G) (before : Before kind a act x rows) where
    pub in_loading : InLoading kind a r
    in_loading = subst (InLoading kind a) (found_at rows i r inside here) (All-get_or (InLoading kind a) rows i r inside before.standing)

    pub held_in : HeldIn kind.group in_loading.0 (now_of a) (choice_of r)
    held_in = let (m, f, held) = (before.reads.each (row_of r)).0 (found_in row_of rows i r here) in subst (λ m. HeldIn kind.group m (now_of a) (choice_of r)) (same_loading f in_loading.1) held

    pub ends_here : (o : Option (Line K)) → EndsAt kind r x o → Ends kind in_loading.0 r x o
    ends_here o ending = let (closed, by) = before.closable r.slot in_loading.0 in_loading.1 in ending in_loading.0 (now_of a) closed by in_loading.2 held_in

    after_here : HeldIn kind.group in_loading.0 (Some x) (choice_of r) ↔ Held kind.group (act ∷ a) r.slot (choice_of r)
    after_here = before.passes r.slot in_loading.0 (choice_of r) in_loading.1 held_in.choice

  module _ {L : Type 0} {took : L → List (Line K) → L → Type 0} where
    -- the row at i stays
    pub settles_stays : (kept : List (Row K)) (l l' : L) → Settles kind took x rows (take i rows) kept l l' → EndsAt kind r x None → Settles kind took x rows (take (i + 1) rows) (kept ++ (r ∷ [])) l l'
    settles_stays kept l l' so ending = record {
      dead = so.dead;
      told = so.told;
      buried = λ a act before.
          subst (λ seen. Buried kind.group a act seen (map row_of (kept ++ (r ∷ []))) (map (line_of kind.value) so.dead)) (sym (take_here row_of))
          (subst (λ ks. Buried kind.group a act (map row_of (take i rows) ++ (row_of r ∷ [])) ks (map (line_of kind.value) so.dead)) (sym (map_push row_of kept r))
          (stays (row_of r) (so.buried a act before) ((after_here a act before).0 (ends_here a act before None ending))));
      standing = λ a act before. All-push (InLoading kind a) kept r (so.standing a act before) (in_loading a act before);
    }

    -- the row at i ends with its line
    pub settles_ends : Adds took → (kept : List (Row K)) (l l' l'' : L) (line : Line K) → Settles kind took x rows (take i rows) kept l l' → took l' (line ∷ []) l'' → EndsAt kind r x (Some line) → Settles kind took x rows (take (i + 1) rows) kept l l''
    settles_ends adds kept l l' l'' line so put ending = record {
      dead = so.dead ++ (line ∷ []);
      told = adds.more l l' l'' so.dead (line ∷ []) so.told put;
      buried = λ a act before.
          let (gone, is, due) = ends_here a act before (Some line) ending in
          subst (λ seen. Buried kind.group a act seen (map row_of kept) (map (line_of kind.value) (so.dead ++ (line ∷ [])))) (sym (take_here row_of))
          (subst (λ xs. Buried kind.group a act (map row_of (take i rows) ++ (row_of r ∷ [])) (map row_of kept) xs) (sym (map_push (line_of kind.value) so.dead line))
          (ends (row_of r) (line_of kind.value line) (so.buried a act before) (λ held. gone ((after_here a act before).1 held)) record {
            letter = ap (λ y. y.letter) is;
            slot = ap (λ y. y.slot) is;
            choice = ap (λ y. y.choice) is;
            loading = (in_loading a act before).0;
            loaded = (in_loading a act before).1;
            due = due;
          }));
      standing = so.standing;
    }

module _ {K : Type 0} (kind : Meaning K) {L : Type 0} {took : L → List (Line K) → L → Type 0} (x : kind.G) (rows : List (Row K)) where
  pub settles_none : Adds took → (l : L) → Settles kind took x rows [] [] l l
  settles_none adds l = record { dead = []; told = adds.none l; buried = λ a act before. none; standing = λ a act before. tt }

  pub settles_all : (n : ℕ) (kept : List (Row K)) (l l' : L) → length rows ≤ n → Settles kind took x rows (take n rows) kept l l' → Settles kind took x rows rows kept l l'
  settles_all n kept l l' all = subst (λ seen. Settles kind took x rows seen kept l l') (take_all n rows all)
