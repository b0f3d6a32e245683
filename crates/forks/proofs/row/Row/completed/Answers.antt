use Rattle.std.proofs.Common.{◌≡◌, ◌<◌, take, set, sym, ap, ◌∙◌, arith}
use lib.Seq.{take-set-lt}
use Rattle.law.specs.Histories.{R}
use Rattle.rows.specs.Placings.{choice_plus}
use Rattle.forks.specs.Rows.{choice_of}
use Rattle.forks.proofs.row.Row.completed.Goals as goal

pub returns : goal.returns
returns g c l e row new arrives =
    let m = g.K.Kind in
    let self = c.args.self.now in
    let j = c.args.j in
    let few : j < 8 = omega (arith, new.inside, row.portrays.few) in
    let choice : take self.width c.replaced.result ≡ choice_plus (choice_of self) j e =
    ap (take self.width) (c.replaced.ensures few) ∙ take-set-lt self.width self.numbers j c.args.arrival.now.number (omega (arith, new.inside, row.portrays.wide)) ∙ ap (set (choice_of self) j) (sym arrives.number) in
    λ i. record { letter = R; slot = self.slot; choice = choice i; stamp = sym arrives.stamp i }
