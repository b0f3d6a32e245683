use Rattle.std.proofs.Common.{◌+◌, rules, tests, arith}
use Rattle.text.specs.Spelled.{spelled}
use Rattle.slots.specs.Slots.{types_in}
use Rattle.forks.specs.Wanting.{Wants}
use Rattle.forks.proofs.Masks.{given_each, each_slot}
use Rattle.forks.proofs.wanted.Wanted.new.Goals as goal

pub returns : goal.returns
returns c = each_slot c.from_fn.result (λ s bits. Wants (types_in c.args.slots.now s) (spelled c.args.name.now) bits)
    (λ i below. given_each _ _ (λ i m. Wants (types_in c.args.slots.now (i + 1)) (spelled c.args.name.now) m.bits) (λ i y q call. search (rules, tests)) c.from_fn.result 8 0 c.from_fn.ensures.items.each i (omega arith) (omega arith) (record { bits = 0 }))
