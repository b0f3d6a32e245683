use Rattle.std.proofs.Common.{◌≡◌, ◌-◌, length, take, ap, ◌∙◌, arith, w64, to_z, of_z}
use Rattle.std.proofs.lemmas.Int.{to_z-of_z}
use Rattle.text.specs.Writing.{place_after, pasted}
use Rattle.kinds.specs.Fields.{pair_text}
use Rattle.kinds.proofs.Texts.{pair_back}
use Rattle.kinds.proofs.fields.write_pair.Goals as goal

pub returns : goal.returns
returns c =
    let t = c.args.first in
    let p = c.args.second in
    let same = ap (λ x. pair_text x (to_z w64 (of_z w64 p))) (to_z-of_z w64 t c.ranges.first) ∙ ap (pair_text t) (to_z-of_z w64 p c.ranges.second) in
    let told = c.in_ok-end.ensures in
    let ends : c.in_ok-end.end ≡ length (pair_text (to_z w64 (of_z w64 t)) (to_z w64 (of_z w64 p))) = let e = told.end in cc in
    let ends0 : c.in_ok-end.end - 0 ≡ length (pair_text (to_z w64 (of_z w64 t)) (to_z w64 (of_z w64 p))) = omega arith in
    let bytes = ap (λ n. take n c.put_pair.new.buffer) ends0 ∙ told.text ∙ same in
    record {
      place = c.put.ensures.place ∙ ap (place_after c.args.out.now c.args.start) bytes;
      after = c.put.ensures.after ∙ ap (pasted c.args.out.now c.args.start) bytes;
      read_back = pair_back t p c.ranges.first.sfits c.ranges.second.sfits;
    }
