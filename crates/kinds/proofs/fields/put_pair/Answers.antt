use Rattle.std.proofs.Common.{◌∷◌, ◌∙◌, arith, w64}
use Rattle.std.proofs.lemmas.List.{length-append}
use Rattle.std.proofs.lemmas.Int.{to_z-of_z}
use Rattle.std.specs.Fmt.{signed_decimal}
use Rattle.kinds.proofs.Pastes.{first_goes, tab_goes, both_placed, both_text}
use Rattle.kinds.proofs.Texts.{signed_short}
use Rattle.kinds.proofs.fields.put_pair.Goals as goal

pub returns-in_err-tab : goal.returns-in_err-tab
returns-in_err-tab c =
    let back = to_z-of_z w64 c.args.first c.ranges.first in
    let a = signed_short c.args.first c.ranges.first.sfits in
    let b = signed_short c.args.second c.ranges.second.sfits in
    absurd (first_goes (signed_decimal c.args.first) (signed_decimal c.args.second) a b c.args.buffer.now c.requires (rw back at c.in_err-tab.ensures.place))

pub returns-in_err-start : goal.returns-in_err-start
returns-in_err-start c =
    let back = to_z-of_z w64 c.args.first c.ranges.first in
    let a = signed_short c.args.first c.ranges.first.sfits in
    let b = signed_short c.args.second c.ranges.second.sfits in
    absurd (tab_goes (signed_decimal c.args.first) (signed_decimal c.args.second) a b c.args.buffer.now c.requires
    c.put_number.new.out (rw back at c.put_number.ensures.after) c.in_ok-tab.tab (rw back at c.in_ok-tab.ensures.place) c.in_err-start.ensures.place)

pub returns : goal.returns
returns c =
    let back = to_z-of_z w64 c.args.first c.ranges.first in
    let again = to_z-of_z w64 c.args.second c.ranges.second in
    let a = signed_short c.args.first c.ranges.first.sfits in
    let b = signed_short c.args.second c.ranges.second.sfits in
    let one = rw back at c.put_number.ensures.after in
    let tab = rw back at c.in_ok-tab.ensures.place in
    let last = rw again at c.put_number-2.ensures.after in
    record {
      end = (rw again at c.put_number-2.ensures.place)
          ∙ both_placed (signed_decimal c.args.first) (signed_decimal c.args.second) a b c.args.buffer.now c.requires c.put_number.new.out one c.in_ok-tab.tab tab
          c.put.new.out c.put.ensures.after c.in_ok-start.start c.in_ok-start.ensures.place c.put_number-2.new.out last;
      short = omega (arith, length-append (signed_decimal c.args.first) (9 ∷ signed_decimal c.args.second));
      text = both_text (signed_decimal c.args.first) (signed_decimal c.args.second) a b c.args.buffer.now c.requires c.put_number.new.out one c.in_ok-tab.tab tab
          c.put.new.out c.put.ensures.after c.in_ok-start.start c.in_ok-start.ensures.place c.put_number-2.new.out last;
    }
