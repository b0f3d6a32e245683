use Rattle.std.proofs.Common.{◌≡◌, ◌+◌, eqb, sym, ap, ◌∙◌, rules}
use Rattle.std.proofs.iter.runs.Made.{chains}
use Rattle.std.specs.List.{count_by}
use Rattle.text.proofs.Chains.{parts_are}
use Rattle.text.proofs.parts.count.Goals as goal

pub returns : goal.returns
returns c =
    let h : c.count.result ≡ count_by (λ x. eqb x c.args.b) c.args.bytes.now = search (rules, chains) in
    ap (λ n. 1 + n) h ∙ sym (parts_are c.args.b c.args.bytes.now)
