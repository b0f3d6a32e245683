use Rattle.std.proofs.Common.{◌≡◌, ◌+◌, ◌-◌, ◌≤◌, length, drop}
use Rattle.network.specs.Tables.{Beyond}
use Rattle.text.specs.Split.{split}
use Rattle.definitions.specs.Chronicles.{Chronicle}
use Rattle.definitions.specs.Drafts.{Empty, Drafted}
use Rattle.definitions.specs.Reading.{read_from, blank}
use Rattle.definitions.proofs.reader.read_lines.Given as goal

abbrev pub invariant-lines : goal.invariant-lines
invariant-lines g l = let m = g.K.Kind in
    (l.used ≤ length l.text) × (l.number ≤ l.used + 1) × (l.draft.table.ghost_name ≡ l.initial.draft.table.ghost_name) × Beyond l.initial.draft.table.now l.draft.table.now
    × (Empty m.group m.value l.initial.draft.table.now →
    (d : Chronicle m.G) × Drafted m.group m.value m.bound l.draft d
    × (read_from m.fields m.means m.bound l.loaded.0 l.number l.used d (split 10 (drop l.used l.text)) ≡ read_from m.fields m.means m.bound l.loaded.0 1 0 blank (split 10 l.text)))

abbrev pub decreases-lines : goal.decreases-lines
decreases-lines g l = length l.text - l.used
