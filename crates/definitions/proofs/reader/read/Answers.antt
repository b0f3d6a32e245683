use Rattle.std.proofs.Common.{◌≡◌, true, false, is_ok, leb, length, Ok, Err, Result, ap, ◌∙◌, subst, rules}
use Rattle.std.proofs.lemmas.Result.{err_from_is_err_and}
use Rattle.text.specs.Split.{split}
use Rattle.text.specs.declared.fault.Fault.{Fault}
use Rattle.text.specs.declared.fault.Cause.TheVariants.{Contradictory}
use Rattle.text.specs.Faults.{fault_at}
use Rattle.definitions.specs.declared.reader.Definition.{Definition}
use Rattle.definitions.specs.Drafts.{Held}
use Rattle.definitions.specs.Loading.{Loads, TooShort}
use Rattle.definitions.specs.Reading.{reading_of, blank}
use Rattle.definitions.proofs.Grammar.{read_as_made}
use Rattle.definitions.proofs.Progress.{reading_some}
use Rattle.definitions.proofs.Transfer.{answer, closing_loads, refused, taken, when_read}
use Rattle.definitions.proofs.reader.read.Given as given
use Rattle.definitions.proofs.reader.read.Goals as goal
use Rattle.definitions.proofs.reader.read.Goals.{After-close}
use Rattle.std.specs.Prelude.{MatchBool}

-- what closing made of the table is what is answered
loads : (g : given.Over) (c : After-close g) (r : Result Definition Fault) → answer g.K.Kind.group g.K.Kind.value g.K.Kind.bound c.parse.new.table c.close.new.table c.in_ok-definition.definition c.close.result ≡ r →
    MatchBool (leb 64 (length c.args.table.now)) (Loads g.K.Kind.group g.K.Kind.value (reading_of g.K.Kind.fields g.K.Kind.means g.K.Kind.bound c.args.loaded.now.0 c.args.text.now) c.close.new.table r) (TooShort c.args.table.now c.close.new.table r)
loads g c r is =
    let m = g.K.Kind in
    let x = c.in_ok-definition.definition in
    let reading = reading_of m.fields m.means m.bound c.args.loaded.now.0 c.args.text.now in
    when_read m.group m.value m.bound c.parse.new.table c.close.new.table x reading (Held m.group m.value m.bound c.parse.new.table) c.args.table.now c.parse.new.table (leb 64 (length c.args.table.now)) r
    c.in_ok-definition.ensures.parses
    (λ parsed. subst (Loads m.group m.value reading c.close.new.table) is
    (closing_loads m.group m.value m.bound c.parse.new.table c.close.new.table x reading
    (λ reading e. reading_some m.fields m.means m.bound c.args.loaded.now.0 1 0 blank (split 10 c.args.text.now) reading e)
    parsed c.len.result c.len.ensures c.close.result c.close.ensures.closes))

pub returns-in_err-definition-clause-as_made : goal.returns-in_err-definition-clause-as_made
returns-in_err-definition-clause-as_made g c = let m = g.K.Kind in read_as_made m.fields m.means m.bound m.takes c.args.loaded.now.0 c.args.text.now

pub returns-in_err-map_err-clause-as_made : goal.returns-in_err-map_err-clause-as_made
returns-in_err-map_err-clause-as_made g c = let m = g.K.Kind in read_as_made m.fields m.means m.bound m.takes c.args.loaded.now.0 c.args.text.now

pub returns-in_err-map_err-clause-loads : goal.returns-in_err-map_err-clause-loads
returns-in_err-map_err-clause-loads g c =
    let m = g.K.Kind in
    let x = c.in_ok-definition.definition in
    let p = err_from_is_err_and c.from_residual-in_err-map_err.result c.from_residual-in_err-map_err.ensures.1 in
    let unclosed : is_ok c.close.result ≡ false = search rules in
    let fault : fault_at Contradictory x.lines 0 ≡ c.in_err-map_err.field-0.0 = search rules in
    rw (p.1, p.2) (loads g (goal.at.returns-in_err-map_err-clause-loads g c).After-close (Err c.in_err-map_err.field-0.0)
    (refused m.group m.value m.bound c.parse.new.table c.close.new.table x c.close.result unclosed ∙ ap Err fault))

pub returns-clause-as_made : goal.returns-clause-as_made
returns-clause-as_made g c = let m = g.K.Kind in read_as_made m.fields m.means m.bound m.takes c.args.loaded.now.0 c.args.text.now

pub returns-clause-loads : goal.returns-clause-loads
returns-clause-loads g c =
    let m = g.K.Kind in
    let x = c.in_ok-definition.definition in
    let closed : is_ok c.close.result ≡ true = search rules in
    loads g (goal.at.returns-clause-loads g c).After-close (Ok x) (taken m.group m.value m.bound c.parse.new.table c.close.new.table x c.close.result closed)
