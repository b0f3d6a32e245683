-- Slots hold what is loaded, call after call.
use Rattle.std.proofs.Common.{◌≡◌, ℕ, ◌+◌, Bool, true, false, cond, eqb, List, [], ◌∷◌, map, is_some, Some, None, Ok, Err, Option, Result, sym, refl, ap, ◌∙◌, inl, inr, ⊎_elim, arith}
use Rattle.std.proofs.lemmas.Bool.{both_ways, cases_eq, eq-eqb, ne_eqb}
use Rattle.std.specs.List.{range_with_len}
use Rattle.std.specs.Option.{option_map}
use Rattle.kinds.specs.declared.kind.Kind.{Ghosts as Meaning}
use Rattle.definitions.specs.Chronicles.{Chronicle}
use Rattle.logs.specs.Events.{Event}
use Rattle.law.specs.Calls.{loaded_slots}
use Rattle.law.specs.Histories.{Line, Act, Loading, Seen, load, withdraw, event, clock, joined, loading_of, event_count}
use Rattle.law.specs.Refusals.{Decided, Lent, withdraw_grounds}
use Rattle.slots.specs.declared.table.NotLoaded.{NotLoaded}
use Rattle.slots.specs.declared.table.Slots.{Slots}
use Rattle.slots.specs.Holds.{Holds}
use Rattle.slots.specs.Slots.{types_in, loaded_in, Changed, Vacates, refusal_number}
use Rattle.slots.proofs.Answered.{loaded_slot}

same_test : (t s : ℕ) → eqb t s ≡ eqb s t
same_test t s = elim (cases_eq t s) [
  | inl e ↦ eq-eqb t s e ∙ sym (eq-eqb s t (sym e))
  | inr ne ↦ ne_eqb t s ne ∙ sym (ne_eqb s t (λ e. ne (sym e)))
]

module _ {G : Type 0} where
  abbrev types_of_loading : Option (Loading G) → Option (List (List ℕ))
  types_of_loading o = option_map (λ l. l.chronicle.types) o

  some_types : (o : Option (Loading G)) → is_some (types_of_loading o) ≡ is_some o
  some_types None = refl
  some_types (Some l) = refl

  joined_types : (o : Option (Loading G)) (e : Seen G) → types_of_loading (joined o e) ≡ types_of_loading o
  joined_types None e = refl
  joined_types (Some l) e = refl

  chosen_types : (b : Bool) (x y : Option (Loading G)) → types_of_loading (cond b x y) ≡ cond b (types_of_loading x) (types_of_loading y)
  chosen_types true x y = refl
  chosen_types false x y = refl

  module _ (a : List (Act G)) (before : Slots) (holds : Holds a before) where
    -- which slots are loaded
    pub holds_loaded : loaded_slots a ≡ loaded_in before
    holds_loaded = go (range_with_len 1 8)
      where
        go : (ss : List ℕ) → map (λ s. is_some (loading_of s a)) ss ≡ map (λ s. is_some (types_in before s)) ss
        go [] = refl
        go (s ∷ ss) =
            let first : is_some (loading_of s a) ≡ is_some (types_in before s) = sym (ap is_some (holds s) ∙ some_types (loading_of s a)) in
            let rest = go ss in
            cc

    changed_types : (s : ℕ) (x : Option (Loading G)) (after : Slots) → Changed s (types_of_loading x) before after → (t : ℕ) → types_in after t ≡ types_of_loading (cond (eqb s t) x (loading_of t a))
    changed_types s x after changed t =
        changed t ∙ ap (λ b. cond b (types_of_loading x) (types_in before t)) (same_test t s) ∙ ap (cond (eqb s t) (types_of_loading x)) (holds t) ∙ sym (chosen_types (eqb s t) x (loading_of t a))

    module _ (after : Slots) where
      pub holds_load : (s : ℕ) (c : Chronicle G) → Changed s (Some c.types) before after → Holds (load s c ∷ a) after
      holds_load s c changed = changed_types s (Some (record { chronicle = c; since = [] })) after changed

      pub holds_withdraw : (s : ℕ) → Changed s None before after → Holds (withdraw s ∷ a) after
      holds_withdraw s changed = changed_types s None after changed

    -- events and clock calls leave the slots as they are
    pub holds_event : (e : Event G) (told : List (Line G)) → Holds (event e told ∷ a) before
    holds_event e told t = holds t ∙ sym (joined_types (loading_of t a) (record { number = event_count a + 1; seen = e }))

    pub holds_clock : (stamp : G) (told : List (Line G)) → Holds (clock stamp told ∷ a) before
    holds_clock stamp told = holds

-- the answer of a withdrawal, with its number
abbrev pub numbered : Result (Unit {0}) NotLoaded → Result (Unit {0}) ℕ
numbered (Ok done) = Ok done
numbered (Err refusal) = Err (refusal_number refusal)

module _ {K : Type 0} (kind : Meaning K) (lent : Lent) (a : List (Act kind.G)) (before after : Slots) (holds : Holds a before) (s : ℕ) where
  none_loaded : types_in before s ≡ None → loading_of s a ≡ None
  none_loaded e = go (loading_of s a) (sym (holds s) ∙ e)
    where
      go : (o : Option (Loading kind.G)) → types_of_loading o ≡ None → o ≡ None
      go None e = refl
      go (Some l) e = let z : ◌≡◌ {A = ℕ} 0 1 = cc in absurd (omega arith)

  pub withdraw_decided : (r : Result (Unit {0}) NotLoaded) → Vacates s before after r → Decided (withdraw_grounds kind lent a s) (numbered r)
  withdraw_decided (Err refusal) h = inl (inl (none_loaded h.0), refl)
  withdraw_decided (Ok done) h =
      let inside = loaded_slot before s h.0 in (
        λ answer p. ⊎_elim (λ e. both_ways _ (ap is_some (holds s) ∙ some_types (loading_of s a) ∙ ap is_some e) h.0) (⊎_elim (λ low. omega (arith, inside.0)) (λ high. omega (arith, inside.1))) p.0,
        tt,
      )
