use Rattle.std.proofs.Common.{◌≡◌, [], get_or, Some, sym, ap, ◌∙◌, w64, SFits, rules}
use Rattle.std.proofs.lemmas.Result.{err_from_is_err_and}
use Rattle.std.proofs.lemmas.Int.{to_z-of_z}
use Rattle.text.specs.Split.{split}
use Rattle.kinds.specs.Fields.{long, both, pair_means}
use Rattle.kinds.proofs.Means.{ok_or_ok, ok_or_err, pair_two, both_none}
use Rattle.kinds.proofs.pairs.PairsKind.read.Goals as goal
use Rattle.kinds.proofs.pairs.PairsKind.read.Goals.{After-read_field}

-- the two fields decide
meant : (c : After-read_field) → pair_means (split 9 c.args.text.now) ≡ both (long (get_or (split 9 c.args.text.now) 0 [])) (long (get_or (split 9 c.args.text.now) 1 []))
meant c = pair_two (split 9 c.args.text.now) (sym c.count.ensures ∙ c.if-count-ne2.false)

pub returns-in_err-tick : goal.returns-in_err-tick
returns-in_err-tick c =
    let p = err_from_is_err_and c.from_residual.result c.from_residual.ensures.1 in
    let e = ok_or_err (long (get_or (split 9 c.args.text.now) 0 [])) _ _ c.in_err-tick.ensures in
    rw (p.1, p.2) (meant (goal.at.returns-in_err-tick c).After-read_field ∙ ap (λ a. both a (long (get_or (split 9 c.args.text.now) 1 []))) e.0, e.1)

pub returns-in_err-among : goal.returns-in_err-among
returns-in_err-among c =
    let p = err_from_is_err_and c.from_residual-in_err-among.result c.from_residual-in_err-among.ensures.1 in
    let e = ok_or_err (long (get_or (split 9 c.args.text.now) 1 [])) _ _ c.in_err-among.ensures in
    rw (p.1, p.2) (meant (goal.at.returns-in_err-among c).After-read_field ∙ ap (both (long (get_or (split 9 c.args.text.now) 0 []))) e.0 ∙ both_none (long (get_or (split 9 c.args.text.now) 0 [])), e.1)

pub returns : goal.returns
returns c =
    let f : SFits w64 c.in_ok-tick.tick = search rules in
    let h : SFits w64 c.in_ok-among.among = search rules in
    let t = ok_or_ok (long (get_or (split 9 c.args.text.now) 0 [])) _ _ c.in_ok-tick.ensures ∙ ap Some (sym (to_z-of_z w64 c.in_ok-tick.tick f)) in
    let q = ok_or_ok (long (get_or (split 9 c.args.text.now) 1 [])) _ _ c.in_ok-among.ensures ∙ ap Some (sym (to_z-of_z w64 c.in_ok-among.among h)) in
    meant (goal.at.returns c).After-read_field ∙ ap (λ a. both a (long (get_or (split 9 c.args.text.now) 1 []))) t ∙ ap (both (Some _)) q
