use Rattle.std.proofs.Common.{◌≡◌, true, not, ◌&&◌, eqb, ltb, length, is_ok, refl, sym, ap, ◌∙◌, rules}
use Rattle.std.proofs.lemmas.Bool.{cond-true}
use Rattle.definitions.specs.Items.{limit_by}
use Rattle.definitions.specs.Reading.{is_pair, with_limit}
use Rattle.definitions.proofs.Drafting.{limit_added, agrees_ok, pair_inside, when_is_ok}
use Rattle.definitions.proofs.draft.Draft.add_limit.Goals as goal

pub returns-clause-adds : goal.returns-clause-adds
returns-clause-adds g c d old allowed =
    let m = g.K.Kind in
    let from = c.args.limit.now.from in
    let to = c.args.limit.now.to in
    let l = limit_by m.value c.args.limit.now in
    let count : c.len.result ≡ length d.types = c.len.ensures ∙ ap length old.types in
    let pair : is_pair d l ≡ true = ap (λ n. ltb from n && (ltb to n && not (eqb from to))) (sym count) ∙ sym c.is_pair.ensures ∙ c.if-not-is_pair.false in
    let inside = pair_inside d l pair in
    let room : ltb (length d.limits) 64 ≡ true = ap (λ n. ltb n 64) (sym old.limits) ∙ sym c.has_room.ensures ∙ c.if-not-has_room.false in
    agrees_ok (with_limit c.args.line d l) _ _
    (cond-true _ _ _ room ∙ cond-true _ _ _ pair)
    (limit_added m.group m.value m.bound c.args.self.now d old from to c.args.limit.now.most inside.0 inside.1 allowed _ refl refl refl
    (when_is_ok _ _ c.tighten.result (let done : is_ok c.tighten.result ≡ true = search rules in done) c.tighten.ensures.after) c.tighten.auto.table)
