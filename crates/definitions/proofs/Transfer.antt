-- Chains over a table that holds the smallest bounds, and chains over the bounds themselves, come to the same.
use Rattle.std.proofs.Common.{◌≡◌, ℕ, ◌<◌, ◌≤◌, Bool, true, false, List, length, is_ok, Ok, Err, MatchBool, Result, refl, ap, ◌∙◌, subst, ⊎_elim, arith}
use Rattle.std.proofs.lemmas.Bool.{false≢true, both_ways, cases_Bool}
use Rattle.text.specs.declared.fault.Cause.TheVariants.{Contradictory as Contradicts}
use Rattle.text.specs.declared.fault.Fault.{Fault}
use Rattle.text.specs.Faults.{fault_at}
use Rattle.kinds.specs.Ordered.{Ordered}
use Rattle.kinds.specs.Bounds.{admits, Smallest}
use Rattle.kinds.specs.declared.bound.Bound.{Bound}
use Rattle.kinds.specs.declared.bound.Bound.TheVariants.{At, NoBound}
use Rattle.network.specs.Chains.{Chain, Closed, Contradictory}
use Rattle.network.specs.Chains.Chain.{empty, step}
use Rattle.network.specs.Tables.{entry, Tabled, Admitted, InRange, Closes}
use Rattle.network.specs.declared.closing.Unclosed.{Unclosed}
use Rattle.network.specs.declared.closing.Unclosed.TheVariants.{OutOfRange, NotAdmitted, Contradiction}
use Rattle.network.proofs.Order.{plus_mono}
use Rattle.definitions.specs.Chronicles.{Chronicle, Given}
use Rattle.definitions.specs.declared.reader.Definition.{Definition}
use Rattle.definitions.specs.Drafts.{Held}
use Rattle.definitions.specs.Loading.{TooShort, Loads}
use Rattle.definitions.specs.Reading.{Reading}
use Rattle.definitions.specs.Steps.{Parses}
use Rattle.definitions.specs.TypeNames.{type_names}

module _ {K G : Type 0} (group : Ordered G) (value : K → G) (bound : G → Bool) (table : List (Bound K)) (d : Chronicle G) (held : Held group value bound table d) where
  abbrev n : ℕ
  n = length d.types

  smallest_is : (P : G → Type 0) (b : Bound G) (x : G) → b ≡ At x → Smallest group P b → P x
  smallest_is P b x e s = (subst (Smallest group P) e s).0

  to_given : {i j : ℕ} {s : G} → Chain group (Tabled value n table) i j s → Chain group (Given d.limits) i j s
  to_given empty = empty
  to_given (step {i} {k = k} {c = c} g rest) =
      let few = held.few in
      step (smallest_is (Given d.limits i k) (entry value table i k) c g.2 (held.holds i k (omega (arith, g.0)) (omega (arith, g.1)))) (to_given rest)

  from_given : {i j : ℕ} {s : G} → Chain group (Given d.limits) i j s → (t : G) × Chain group (Tabled value n table) i j t × (group.leq t s ≡ true)
  from_given empty = (group.zero, empty, group.leq_refl group.zero)
  from_given (step {i} {k = k} {c = c} {s = s} g rest) = go (entry value table i k) refl (held.holds i k (omega (arith, within.0, few)) (omega (arith, within.1, few))) (from_given rest)
    where
      few : n ≤ 8
      few = held.few

      within : (i < n) × (k < n)
      within = held.between i k c g

      go : {j : ℕ} (b : Bound G) → entry value table i k ≡ b → Smallest group (Given d.limits i k) b → (t : G) × Chain group (Tabled value n table) k j t × (group.leq t s ≡ true) →
          (t : G) × Chain group (Tabled value n table) i j t × (group.leq t (group.plus c s) ≡ true)
      go (At x) e least on = (group.plus x on.0, step (within.0, within.1, e) on.1, plus_mono group x c on.0 s (least.1 c g) on.2)
      go NoBound e least on = absurd (least c g)

  pub closed_given : (i j : ℕ) (b : Bound G) → Closed group (Tabled value n table) i j b → Closed group (Given d.limits) i j b
  closed_given i j (At x) h = (to_given h.0, λ s c. let t = from_given c in group.leq_trans x t.0 s (h.1 t.0 t.1) t.2)
  closed_given i j NoBound h = λ s c. let t = from_given c in h t.0 t.1

  pub contradictory_given : Contradictory group (Tabled value n table) → Contradictory group (Given d.limits)
  contradictory_given h = (h.0, h.1, to_given h.2, h.3)

  pub contradictory_tabled : Contradictory group (Given d.limits) → Contradictory group (Tabled value n table)
  contradictory_tabled h = let t = from_given h.2 in (h.0, t.0, t.1, low t.0 t.2)
    where
      low : (t : G) → group.leq t h.1 ≡ true → group.leq group.zero t ≡ false
      low t under = ⊎_elim (λ yes'. absurd (both_ways _ h.3 (group.leq_trans group.zero t h.1 yes' under))) (λ no'. no') (cases_Bool (group.leq group.zero t))

  pub all_admitted_lem : Admitted value bound n table
  all_admitted_lem i j p q = go (entry value table i j) (held.holds i j (omega (arith, few)) (omega (arith, few)))
    where
      few : n ≤ 8
      few = held.few

      go : (b : Bound G) → Smallest group (Given d.limits i j) b → admits bound b ≡ true
      go (At x) least = held.admitted i j x least.0
      go NoBound least = refl

-- what closing the table that was read makes of the answer
module _ {K G : Type 0} (group : Ordered G) (value : K → G) (bound : G → Bool) (t u : List (Bound K)) (x : Definition) where
  abbrev pub answer : Result (Unit {0}) Unclosed → Result Definition Fault
  answer (Ok done) = Ok x
  answer (Err e) = Err (fault_at Contradicts x.lines 0)

  pub closing_loads : (a : Result (Reading G) Fault) → ((reading : Reading G) → a ≡ Ok reading → 0 < length reading.chronicle.types) → Parses a (Held group value bound t) (Ok x) →
      (k : ℕ) → k ≡ length (type_names x.types) → (r : Result (Unit {0}) Unclosed) → Closes value group bound k t u r → Loads group value a u (answer r)
  closing_loads (Err f) some parsed k count r h = absurd parsed
  closing_loads (Ok reading) some parsed k count r h = go r (subst (λ w. Closes value group bound w t u r) same h)
    where
      held : Held group value bound t reading.chronicle
      held = parsed.1

      same : k ≡ length reading.chronicle.types
      same = count ∙ ap length parsed.0.types

      in_range : InRange (length reading.chronicle.types) t
      in_range = (some reading refl, held.few, held.long)

      go : (r : Result (Unit {0}) Unclosed) → Closes value group bound (length reading.chronicle.types) t u r → Loads group value (Ok reading) u (answer r)
      go (Ok done) h = (
        parsed.0,
        record {
          consistent = λ c. h.2 (contradictory_tabled group value bound t reading.chronicle held c);
          closed = λ i j p q. closed_given group value bound t reading.chronicle held i j (entry value u i j) (h.3 i j p q);
        },
      )
      go (Err OutOfRange) h = absurd (h.0 in_range)
      go (Err NotAdmitted) h = absurd (h.1 (all_admitted_lem group value bound t reading.chronicle held))
      go (Err Contradiction) h = (contradictory_given group value bound t reading.chronicle held h.2, ap (λ l. fault_at Contradicts l 0) parsed.0.lines)

  pub refused : (r : Result (Unit {0}) Unclosed) → is_ok r ≡ false → answer r ≡ Err (fault_at Contradicts x.lines 0)
  refused (Ok done) e = absurd (both_ways _ e refl)
  refused (Err f) e = refl

  pub taken : (r : Result (Unit {0}) Unclosed) → is_ok r ≡ true → answer r ≡ Ok x
  taken (Ok done) e = refl
  taken (Err f) e = absurd (false≢true e)

  -- a definition was read, so the memory was long enough
  pub when_read : (a : Result (Reading G) Fault) (P : Chronicle G → Type 0) (t0 t1 : List (Bound K)) (b : Bool) (r : Result Definition Fault) →
      MatchBool b (Parses a P (Ok x)) (TooShort t0 t1 (Ok x)) → (Parses a P (Ok x) → Loads group value a u r) → MatchBool b (Loads group value a u r) (TooShort t0 u r)
  when_read a P t0 t1 true r h f = f h
  when_read a P t0 t1 false r h f = let e = h.0 in let z : ◌≡◌ {A = ℕ} 0 1 = cc in absurd (omega arith)
