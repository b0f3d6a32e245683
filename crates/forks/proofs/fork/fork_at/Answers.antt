use Rattle.std.proofs.Common.{[], ◌∷◌, sym, ◌∙◌, subst}
use Rattle.rows.specs.Placings.{loading_plus, choice_plus, Placed}
use Rattle.forks.specs.Rows.{choice_of}
use Rattle.forks.proofs.Single.{not_wanted, not_open, put_here, placeable, fails_put, grows_put, ripens_put}
use Rattle.forks.proofs.fork.fork_at.Goals as goal
use Rattle.forks.proofs.fork.fork_at.Goals.{then-not-has-via-then-not-has, then-not-has-via-else-not-has+then-has}

pub returns-then-not-has : goal.returns-then-not-has
returns-then-not-has g c = (
  [],
  [],
  g.R.Sink.adds.none c.args.rows.now,
  g.L.Sink.adds.none c.args.lines.now,
  λ l e by.
      elim c.then-not-has.branch [
        | then-not-has-via-then-not-has w ↦ not_wanted g.K.Kind l e c.args.table.now c.args.wanted.bits c.args.arrival.now c.args.parent.now by c.args.j (sym c.has.ensures ∙ w.if-not-has.true)
        | then-not-has-via-else-not-has+then-has w ↦ not_open g.K.Kind l e c.args.table.now c.args.wanted.bits c.args.arrival.now c.args.parent.now by c.args.j (sym w.has-else-not-has.ensures ∙ w.if-has.true)
      ],
)

pub returns-in-Fails : goal.returns-in-Fails
returns-in-Fails g c = (
  [],
  [],
  g.R.Sink.adds.none c.args.rows.now,
  g.L.Sink.adds.none c.args.lines.now,
  λ l e by.
      fails_put g.K.Kind l e c.args.table.now c.args.wanted.bits c.args.arrival.now c.args.parent.now by c.args.j
      (λ new. subst (Placed g.K.Kind.group (loading_plus l e) (choice_plus (choice_of c.args.parent.now) c.args.j e) e.seen.stamp) c.in-Fails.is
      (c.place.ensures l (choice_of c.args.parent.now) e (c.portrait.ensures l (choice_of c.args.parent.now) by.standing.portrays by.closed) by.arrives.stamp by.arrives.light new)),
)

pub returns-in-Grows : goal.returns-in-Grows
returns-in-Grows g c = (
  c.with.result ∷ [],
  [],
  c.put.ensures,
  g.L.Sink.adds.none c.args.lines.now,
  λ l e by.
      let put = put_here g.K.Kind l e c.args.table.now c.args.wanted.bits c.args.arrival.now c.args.parent.now by c.args.j (sym c.has.ensures ∙ c.if-not-has.false) (sym c.has-else-not-has.ensures ∙ c.if-has.false) in
      let new = placeable g.K.Kind l e c.args.table.now c.args.wanted.bits c.args.arrival.now c.args.parent.now by c.args.j put in
      grows_put g.K.Kind l e c.args.table.now c.args.wanted.bits c.args.arrival.now c.args.parent.now by c.args.j put
      (subst (Placed g.K.Kind.group (loading_plus l e) (choice_plus (choice_of c.args.parent.now) c.args.j e) e.seen.stamp) c.in-Grows.is
      (c.place.ensures l (choice_of c.args.parent.now) e (c.portrait.ensures l (choice_of c.args.parent.now) by.standing.portrays by.closed) by.arrives.stamp by.arrives.light new))
      c.with.result (c.with.ensures l e by.standing by.closed new by.arrives),
)

pub returns-in-Ripens : goal.returns-in-Ripens
returns-in-Ripens g c = (
  [],
  c.completed.result ∷ [],
  g.R.Sink.adds.none c.args.rows.now,
  c.put-in-Ripens.ensures,
  λ l e by.
      let put = put_here g.K.Kind l e c.args.table.now c.args.wanted.bits c.args.arrival.now c.args.parent.now by c.args.j (sym c.has.ensures ∙ c.if-not-has.false) (sym c.has-else-not-has.ensures ∙ c.if-has.false) in
      let new = placeable g.K.Kind l e c.args.table.now c.args.wanted.bits c.args.arrival.now c.args.parent.now by c.args.j put in
      ripens_put g.K.Kind l e c.args.table.now c.args.wanted.bits c.args.arrival.now c.args.parent.now by c.args.j put
      (subst (Placed g.K.Kind.group (loading_plus l e) (choice_plus (choice_of c.args.parent.now) c.args.j e) e.seen.stamp) c.in-Ripens.is
      (c.place.ensures l (choice_of c.args.parent.now) e (c.portrait.ensures l (choice_of c.args.parent.now) by.standing.portrays by.closed) by.arrives.stamp by.arrives.light new))
      c.completed.result (c.completed.ensures l e by.standing new by.arrives),
)
