use Rattle.std.proofs.Common.{IfOk, ◌≡◌, ◌+◌, ◌-◌, ◌*◌, ◌≤◌, length, take, drop, sym, subst, arith, refl}
use Rattle.network.specs.Steps.{Light}
use Rattle.definitions.specs.Loading.{Loads}
use Rattle.definitions.specs.Reading.{reading_of}
use Rattle.definitions.specs.TypeNames.{type_names}
use Rattle.slots.proofs.Parts.{part_written, others_kept, memory_kept, part_long, when_long}
use Rattle.slots.proofs.loading.read_into.Goals as goal

pub returns : goal.returns
returns g c =
    let m = g.K.Kind in
    let s = c.args.slot in
    let start = 64 * (s - 1) in
    let k = (start + 64) - start in
    let xs = c.args.entries.now in
    let ys = c.read.new.table in
    let whole : k ≡ 64 = omega arith in
    let room : start + 64 ≤ length xs = omega arith in
    let part = part_long start k xs whole room in
    let long : length ys ≡ k = omega (arith, part, c.read.auto.table) in
    let is_part = sym (part_written s start k xs ys refl whole c.requires.one room long) in
    record {
      within = c.read.ensures.within;
      light = subst (λ t. IfOk c.read.result (λ x. Light m.value m.weight (length (type_names x.types)) 256 t)) is_part c.read.ensures.light;
      reads = subst (λ t. Loads m.group m.value (reading_of m.fields m.means m.bound c.args.loaded.now.0 c.args.text.now) t c.read.result)
          is_part (when_long _ _ (length (take k (drop start xs))) (omega (arith, part)) c.read.ensures.loads);
      others = others_kept s start k xs ys refl whole c.requires.one room long;
      memory = memory_kept s start k xs ys refl whole c.requires.one room long;
    }
