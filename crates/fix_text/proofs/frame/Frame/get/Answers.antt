use Rattle.std.proofs.Common.{sym}
use Rattle.fix_text.specs.FrameFields.{fields_in}
use Rattle.fix_text.proofs.NoSoh.{places_hold_no_soh, value_holds_no_soh}
use Rattle.fix_text.proofs.Placed.{value_here, value_later}
use Rattle.fix_text.proofs.frame.Frame.get.Goals as goal

pub returns-then-place-tag : goal.returns-then-place-tag
returns-then-place-tag c =
    let frame = c.args.self.now in
    let value = value_here frame.text.now frame.places.now c.loop-place.place-index _ c.args.tag _ c.loop-place-test.true c.if-place-tag.true c.loop-place.invariant in
    record {
      value = value;
      no_soh = value_holds_no_soh (fields_in frame) c.args.tag _ (places_hold_no_soh frame.text.now frame.places.now frame.within) (sym value);
    }

pub loop-place-preserved : goal.loop-place-preserved
loop-place-preserved c =
    let frame = c.args.self.now in
    value_later frame.text.now frame.places.now c.loop-place.place-index _ c.args.tag _ c.loop-place-test.true c.if-place-tag.false c.loop-place.invariant
