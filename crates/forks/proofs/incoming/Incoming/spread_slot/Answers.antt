use Rattle.std.proofs.Common.{◌≡◌, ℕ, ◌≤◌, is_some as option_is_some, replicate, sym, ap, ◌∙◌, inl, arith}
use Rattle.law.specs.Histories.{loading_of}
use Rattle.law.specs.Holding.{width}
use Rattle.slots.specs.Slots.{types_in}
use Rattle.slots.specs.Variables.{width as width_in}
use Rattle.law.proofs.Ticks.{no_loading}
use Rattle.forks.specs.Rows.{choice_of, row_of}
use Rattle.forks.proofs.Beginning.{begun_none, begun_one, not_loaded, is_loaded_lem, blank-blank}
use Rattle.forks.proofs.Sinking.{sunk_none, sunk_as}
use Rattle.forks.proofs.incoming.Incoming.spread_slot.Goals as goal

pub returns-then-not-is_loaded : goal.returns-then-not-is_loaded
returns-then-not-is_loaded g c = let number : ◌≡◌ {A = ℕ} c.args.slot c.from-number.result = cc in sunk_none g.R.Sink.adds g.L.Sink.adds c.args.rows.now c.args.lines.now _
    (λ a e ready loaded. begun_none g.K.Kind a e _ (λ r s (l, is-l, k). no_loading (ap (λ t. loading_of t a) s ∙ not_loaded a c.args.slots.now loaded c.args.slot (ap (λ s. option_is_some (types_in c.args.slots.now s)) number ∙ sym c.is_loaded.ensures ∙ c.if-not-is_loaded.true)) is-l))

pub returns : goal.returns
returns g c = sunk_as g.R.Sink.adds g.L.Sink.adds c.args.rows.now c.spread_one.new.rows c.args.lines.now c.spread_one.new.lines _ _
    (λ born ripe spread a e ready loaded.
    let row = c.blank-blank.result in
    let number : ◌≡◌ {A = ℕ} c.args.slot c.from-number.result = cc in
    let of-slot = c.blank-blank.ensures.0 in
    let (l, is-l, wide, few) = is_loaded_lem a c.args.slots.now loaded c.args.slot (ap (λ s. option_is_some (types_in c.args.slots.now s)) number ∙ sym c.is_loaded.ensures ∙ c.if-not-is_loaded.false) in
    let as-wide : width l ≡ c.min-width.result = omega (arith, wide, few, c.width.ensures, ap (λ s. width_in (types_in c.args.slots.now s)) number, c.min-width.ensures) in
    let narrow : c.min-width.result ≤ 8 = omega (arith, as-wide, few) in
    let (zeros, standing) = c.blank-blank.ensures.1 l as-wide narrow in
    let blank : choice_of row ≡ replicate (width l) 0 = zeros ∙ ap (λ n. replicate n 0) (sym as-wide) in
    begun_one g.K.Kind a e c.args.slot l is-l (row_of row) of-slot blank born ripe
    (spread a e ready (l, ap (λ s. loading_of s a) of-slot ∙ is-l, standing, inl (blank-blank l (choice_of row) blank))))
    c.spread_one.ensures
