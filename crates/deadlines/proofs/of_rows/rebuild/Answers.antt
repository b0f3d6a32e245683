use Rattle.std.proofs.Common.{◌≡◌, ◌+◌, ◌<◌, [], ◌∷◌, ◌++◌, length, get_or, take, sym, ap, ◌∙◌, subst, arith}
use Rattle.std.proofs.lemmas.List.{take_more}
use Rattle.lent.specs.Lists.{held}
use Rattle.deadlines.proofs.Fills.{Appended, appended_more}
use Rattle.deadlines.proofs.of_rows.rebuild.Goals as goal

-- what the loop goes over is named nowhere: it is what the list holds
pub loop-row-preserved : goal.loop-row-preserved
loop-row-preserved g c =
    let xs = held c.args.rows.now in
    let i = c.loop-row.row-index in
    let row = c.row-item.result in
    let inside : i < length xs = grind arith in
    let is : row ≡ get_or xs i row = cc in
    let one_more : take (i + 1) xs ≡ take i xs ++ (row ∷ []) = take_more xs i row inside ∙ ap (λ r. take i xs ++ (r ∷ [])) (sym is) in
    subst (λ rs. Appended rs c.clear.new.self c.append.new.self) (sym one_more)
    (appended_more (take i xs) c.clear.new.self c.loop-row.queue c.append.new.self row c.append.result c.append.ensures c.loop-row.invariant)
