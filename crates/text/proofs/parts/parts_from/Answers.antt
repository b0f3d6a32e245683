use Rattle.std.proofs.Common.{◌-◌, [], sym, arith, length-drop, length-take}
use Rattle.std.proofs.lemmas.List.{get_or_past}
use Rattle.text.specs.Split.{split}
use Rattle.text.proofs.Splits.{no_part_left, next-part-at, part_there}
use Rattle.text.proofs.parts.parts_from.Goals as goal

pub returns-then-end-rest-clause-rest : goal.returns-then-end-rest-clause-rest
returns-then-end-rest-clause-rest c =
    let none = no_part_left c.args.b c.args.bytes.now c.loop.rest.now (c.args.k - c.loop.counter) c.args.k c.loop.invariant.0 (omega arith) (omega arith) in
    λ l. absurd (omega arith)

pub returns-then-end-rest-clause-first : goal.returns-then-end-rest-clause-first
returns-then-end-rest-clause-first c =
    let none = no_part_left c.args.b c.args.bytes.now c.loop.rest.now (c.args.k - c.loop.counter) c.args.k c.loop.invariant.0 (omega arith) (omega arith) in
    sym (get_or_past (split c.args.b c.args.bytes.now) c.args.k [] none)

pub loop-preserved : goal.loop-preserved
loop-preserved c = (
  next-part-at c.args.b c.args.bytes.now c.loop.rest.now (c.args.k - c.loop.counter) c.args.k c.loop.invariant.0
      c.find-end.result _ c.find-end.ensures.place (omega arith) (omega arith) (omega arith),
  simp (length-take, length-drop) (omega arith),
)

pub returns-clause-past : goal.returns-clause-past
returns-clause-past c =
    let there = part_there c.args.b c.args.bytes.now c.loop.rest.now (c.args.k - c.loop.counter) c.args.k c.loop.invariant.0 (omega arith) in
    λ h. absurd (omega arith)
