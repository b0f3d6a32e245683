use Rattle.std.proofs.Common.{sym, ◌∙◌}
use Rattle.std.proofs.lemmas.Bool.{and_parts, and_from, eqb-true, eq-eqb}
use Rattle.std.proofs.lemmas.Bool.Decides.{Decides-eqb}
use Rattle.std.proofs.lemmas.Slice.Eq.{slice_eq-Decides}
use Rattle.text.proofs.Spellings.{same_len, same_bytes, same_spelling}
use Rattle.text.proofs.name.Name.same.Goals as goal

pub returns : goal.returns
returns c =
    let m = c.args.self.now in
    let n = c.args.other.now in
    let d = slice_eq-Decides Decides-eqb m.bytes n.bytes _ cc in (
      λ t. let p = and_parts _ _ (sym c.eq.ensures ∙ t) in same_spelling m n (d.0 p.0) (eqb-true m.len n.len p.1),
      λ e. c.eq.ensures ∙ and_from _ _ (d.1 (same_bytes m n e)) (eq-eqb m.len n.len (same_len m n e)),
    )
