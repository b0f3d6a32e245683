use Rattle.std.proofs.Common.{◌≤◌, length, Ok, Err, subst, arith}
use Rattle.std.proofs.lemmas.Result.{err_from_is_err_and}
use Rattle.definitions.specs.Loading.{Loads}
use Rattle.definitions.specs.Openings.{Opened}
use Rattle.definitions.specs.Reading.{reading_of}
use Rattle.slots.specs.Loads.{slot_table}
use Rattle.slots.proofs.Answered.{load_refused, load_accepted}
use Rattle.slots.proofs.loading.load_into.Goals as goal

pub returns-in_err-definition : goal.returns-in_err-definition
returns-in_err-definition g c =
    let m = g.K.Kind in
    let text = c.args.text.now in
    let s = c.in_ok-slot.slot in
    let told = c.in_err-definition.ensures in
    let f = c.in_err-definition.field-0.0 in
    let new = c.read_into.new.entries in
    let p = err_from_is_err_and c.from_residual-in_err-definition.result c.from_residual-in_err-definition.ensures.1 in
    let opened = subst (λ l. Opened l (reading_of m.fields m.means m.bound l text) s) c.loaded-loaded.ensures c.in_ok-slot.ensures in
    let read = subst (λ l. Loads m.group m.value (reading_of m.fields m.means m.bound l text) (slot_table s new) (Err f)) c.loaded-loaded.ensures told.reads in
    let room : 512 ≤ length c.args.entries.now = omega arith in
    rw (p.1, p.2) (load_refused m text c.args.slots.now c.args.entries.now new room s opened told.others told.memory f read)

pub returns : goal.returns
returns g c =
    let m = g.K.Kind in
    let text = c.args.text.now in
    let s = c.in_ok-slot.slot in
    let told = c.in_ok-definition.ensures in
    let x = c.in_ok-definition.definition in
    let new = c.read_into.new.entries in
    let opened = subst (λ l. Opened l (reading_of m.fields m.means m.bound l text) s) c.loaded-loaded.ensures c.in_ok-slot.ensures in
    let read = subst (λ l. Loads m.group m.value (reading_of m.fields m.means m.bound l text) (slot_table s new) (Ok x)) c.loaded-loaded.ensures told.reads in
    let room : 512 ≤ length c.args.entries.now = omega arith in
    load_accepted m text c.args.slots.now c.args.entries.now new room s opened told.others told.memory c.fill.new.self x read told.within.0 told.within.1 told.light c.fill.ensures
