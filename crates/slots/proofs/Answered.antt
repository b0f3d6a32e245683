-- What a load answers is decided by its grounds of refusal, and what it leaves.
use Rattle.std.proofs.Common.{◌≡◌, ℕ, zero, suc, ◌+◌, ◌-◌, ◌<◌, ◌≤◌, Bool, true, false, cond, ltb, leb, List, length, get_or, is_some, Some, None, Ok, Err, MatchBool, Option, Result, sym, refl, ap, ◌∙◌, subst, inl, inr, arith}
use Rattle.std.proofs.lemmas.Bool.{and_from, and_parts, and_right, both_ways, cond-false, leb-true, le-leb, lt-leb, lt-ltb, ltb-true}
use Rattle.text.specs.declared.fault.Fault.{Fault}
use Rattle.kinds.specs.declared.bound.Bound.{Bound}
use Rattle.kinds.specs.declared.kind.Kind.{Ghosts as Meaning}
use Rattle.network.specs.Chains.{Contradictory}
use Rattle.network.specs.Steps.{Light}
use Rattle.definitions.specs.declared.reader.Definition.{Definition}
use Rattle.definitions.specs.Chronicles.{Given}
use Rattle.definitions.specs.Loading.{ClosedTable, Loads as Reads}
use Rattle.definitions.specs.Openings.{Opened}
use Rattle.definitions.specs.Reading.{is_loaded, Reading, reading_of}
use Rattle.definitions.specs.TypeNames.{type_names}
use Rattle.law.specs.Calls.{loaded_slots, definition_after}
use Rattle.law.specs.Histories.{Act}
use Rattle.law.specs.Refusals.{Accepts, Refuses, Lent, load_grounds}
use Rattle.slots.specs.declared.table.Slots.{Slots}
use Rattle.slots.specs.Slots.{is_slot, types_in, loaded_in, Changed}
use Rattle.slots.specs.Loads.{slot_table, OthersKept, Loads}

pub is_slot_lem : (s : ℕ) → 1 ≤ s → s ≤ 8 → is_slot s ≡ true
is_slot_lem s one few = and_from (ltb 0 s) (leb s 8) (lt-ltb 0 s one) (le-leb s 8 few)

-- the answer for each slot stands in its place
loaded_from : (slots : Slots) (k : ℕ) → get_or (loaded_in slots) k false ≡ is_some (types_in slots (k + 1))
loaded_from slots zero = refl
loaded_from slots (suc zero) = refl
loaded_from slots (suc (suc zero)) = refl
loaded_from slots (suc (suc (suc zero))) = refl
loaded_from slots (suc (suc (suc (suc zero)))) = refl
loaded_from slots (suc (suc (suc (suc (suc zero))))) = refl
loaded_from slots (suc (suc (suc (suc (suc (suc zero)))))) = refl
loaded_from slots (suc (suc (suc (suc (suc (suc (suc zero))))))) = refl
loaded_from slots (suc (suc (suc (suc (suc (suc (suc (suc k)))))))) =
    let s = suc (suc (suc (suc (suc (suc (suc (suc k))))))) + 1 in
    sym (ap is_some (cond-false (is_slot s) _ None (and_right (ltb 0 s) (leb s 8) (lt-leb s 8 (omega arith)))))

pub loaded_at : (slots : Slots) (s : ℕ) → 1 ≤ s → is_loaded (loaded_in slots) s ≡ is_some (types_in slots s)
loaded_at slots s one = loaded_from slots (s - 1) ∙ ap (λ t. is_some (types_in slots t)) (let e : (s - 1) + 1 ≡ s = omega arith in e)

cond_some : {A : Type 0} (b : Bool) (o : Option A) → is_some (cond b o None) ≡ true → b ≡ true
cond_some true o e = refl
cond_some false o e = absurd (both_ways _ refl e)

-- a loaded slot is one of the eight
pub loaded_slot : (slots : Slots) (t : ℕ) → is_some (types_in slots t) ≡ true → (1 ≤ t) × (t ≤ 8)
loaded_slot slots t full =
    let p = and_parts (ltb 0 t) (leb t 8) (cond_some (is_slot t) _ full) in
    (ltb-true 0 t p.0, leb-true t 8 p.1)

module _ {K : Type 0} (kind : Meaning K) (text : List ℕ) (slots : Slots) where
  abbrev definition : Result (Reading kind.G) Fault
  definition = reading_of kind.fields kind.means kind.bound (loaded_in slots) text

  abbrev ReadAs : List (Bound K) → Result Definition Fault → Type 0
  ReadAs table r = Reads kind.group kind.value definition table r

  module _ (lent : Lent) (a : List (Act kind.G)) (room : 512 ≤ lent.entries) (same : loaded_slots a ≡ loaded_in slots) where
    after_is : definition_after kind a text ≡ definition
    after_is = ap (λ l. reading_of kind.fields kind.means kind.bound l text) same

    refuses : (table : List (Bound K)) (f : Fault) → ReadAs table (Err f) → Refuses (load_grounds kind lent a text) f
    refuses table f h = go definition refl h
      where
        go : (o : Result (Reading kind.G) Fault) → definition ≡ o → Reads kind.group kind.value o table (Err f) → Refuses (load_grounds kind lent a text) f
        go (Ok r) is h = inr (λ answer p. omega (arith, p.0), inr (λ answer p. let z : ◌≡◌ {A = ℕ} 0 1 = cc (after_is, p, is) in omega arith, inl (r, after_is ∙ is, h.0, h.1)))
        go (Err e) is h = inr (λ answer p. omega (arith, p.0), inl (after_is ∙ is ∙ ap Err (sym h)))

    accepts : (r : Reading kind.G) → definition ≡ Ok r → (Contradictory kind.group (Given r.chronicle.limits) → ⊥) → Accepts (load_grounds kind lent a text)
    accepts r is consistent = (
      λ answer p. omega (arith, p.0),
      (
        λ answer p. let z : ◌≡◌ {A = ℕ} 0 1 = cc (after_is, p, is) in omega arith,
        (
          λ answer p. let e : p.0 ≡ r = let q = p.1 in cc (after_is, q, is) in consistent (subst (λ x. Contradictory kind.group (Given x.chronicle.limits)) e p.2),
          tt,
        ),
      ),
    )

  module _ (old new : List (Bound K)) (room : 512 ≤ length old) (s : ℕ) (opened : Opened (loaded_in slots) definition s) (others : OthersKept s old new) (memory : length new ≡ length old) where
    pub load_refused : (f : Fault) → ReadAs (slot_table s new) (Err f) → Loads kind text slots slots old new (Err f)
    load_refused f h = record {
      decided = λ lent a long same. refuses lent a (omega arith) same (slot_table s new) f h;
      leaves = record {
        slots = refl;
        tables = λ t full. others t (loaded_slot slots t full).0 (λ e. both_ways _ (sym (loaded_at slots s opened.first) ∙ opened.free) (ap (λ x. is_some (types_in slots x)) (sym e) ∙ full));
      };
      memory = memory;
    }

    pub load_accepted : (after : Slots) (x : Definition) → ReadAs (slot_table s new) (Ok x) → 0 < x.used → x.used ≤ length text →
        Light kind.value kind.weight (length (type_names x.types)) 256 (slot_table s new) →
        MatchBool (is_slot s) (Changed s (Some (type_names x.types)) slots after) (after ≡ slots) → Loads kind text slots after old new (Ok x.used)
    load_accepted after x h some within light filled = go definition refl h
      where
        go : (o : Result (Reading kind.G) Fault) → definition ≡ o → Reads kind.group kind.value o (slot_table s new) (Ok x) → Loads kind text slots after old new (Ok x.used)
        go (Err e) is h = absurd h
        go (Ok r) is h =
            let slot : r.chronicle.slot ≡ s = opened.only r is in
            let changed = subst (λ b. MatchBool b (Changed s (Some (type_names x.types)) slots after) (after ≡ slots)) (is_slot_lem s opened.first opened.last) filled in
            record {
              decided = λ lent a long same. accepts lent a (omega arith) same r is h.1.consistent;
              leaves = record {
                reading = r;
                read = is;
                used = h.0.used;
                some = some;
                within = within;
                types = subst (λ n. Changed n (Some r.chronicle.types) slots after) (sym slot) (subst (λ ts. Changed s (Some ts) slots after) h.0.types changed);
                closed = subst (λ n. ClosedTable kind.group kind.value (slot_table n new) r.chronicle) (sym slot) h.1;
                light = subst (λ n. Light kind.value kind.weight (length r.chronicle.types) 256 (slot_table n new)) (sym slot) (subst (λ ts. Light kind.value kind.weight (length ts) 256 (slot_table s new)) h.0.types light);
                others = subst (λ n. OthersKept n old new) (sym slot) others;
              };
              memory = memory;
            }
