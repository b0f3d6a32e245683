use Rattle.std.proofs.Common.{◌≡◌, ◌+◌, ◌<◌, length, Some, sym, ap, ◌∙◌, subst, arith, rules}
use Rattle.std.proofs.lemmas.Bool.{eqb-true}
use Rattle.text.specs.Split.{split}
use Rattle.definitions.specs.declared.words.Word.TheVariants.{Bound}
use Rattle.definitions.specs.Lines.{word_at, fields_of}
use Rattle.definitions.specs.Items.{Says}
use Rattle.definitions.proofs.Items.{item_valued}
use Rattle.definitions.proofs.item.read_item.Goals as goal

pub returns-in-Bound : goal.returns-in-Bound
returns-in-Bound g c =
    let m = g.K.Kind in
    let fs = split 9 c.args.text.now in
    let found : c.word_at.result ≡ Some c.in_ok-word.word = search rules in
    let word = ap (word_at c.args.line) (sym c.part.ensures) ∙ sym c.word_at.ensures ∙ found ∙ ap Some c.in-Bound.is in
    let counted : length fs ≡ 3 + m.fields =
    sym c.count.ensures ∙ eqb-true _ _ (sym c.has_fields.ensures ∙ c.if-not-has_fields.false) ∙ ap (fields_of m.fields) c.in-Bound.is in
    let long : 3 < length fs = omega (arith, m.takes.some) in
    subst (λ a. Says m.value a c.read_limit.result) (sym (item_valued m.fields m.means m.bound c.args.line fs Bound word counted)) (c.read_limit.ensures long)
