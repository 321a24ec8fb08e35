use Rattle.std.proofs.Common.{◌≡◌, ℕ, List, [], rules, ap, length, ◌∙◌}
use Rattle.fix_text.specs.Frame.{frame_text}
use Rattle.fix_text.specs.Tagged.{Tagged}
use Rattle.fix_tags.specs.CompId.{IsCompId}
use Rattle.fix_tags.specs.Message.{envelope_fields}
use Rattle.fix_tags.specs.Stamp.{StampParts}
use Rattle.leg.specs.Leg.{IsLeg}
use Rattle.dialect.specs.Dialect.{Appends}
use Rattle.dialect.specs.Wording.{Decoding, Encoding}
use Rattle.dialect.proofs.FrameBack.{agrees_of}
use Rattle.order_command.specs.Header.{IsHeader}
use Rattle.order_command.specs.OrderFrame.{order_envelope}
use Rattle.order_command.proofs.OrderBack.{IsMade, order_in_range, order_at_its_time, unrefused, order_framed, written_with_room}
use Rattle.order_command.proofs.frame.write_order_frame.Goals as goal

pub unwrap-requires-2 : goal.unwrap-requires-2
unwrap-requires-2 g c =
    let laws = g.met.D.Dialect in
    let d = c.args.dialect.now in
    let leg = c.args.leg.now in
    let header = c.args.header in
    let w : Encoding = (g.D.Dialect.wording d).encoding in
    let order : List Tagged = c.write_order.new.fields.items in
    let at : StampParts = c.at-at.result in
    let time : at ≡ header.at = search rules in
    let appended : Appends (w.IsOrder leg at) [] order = search rules in
    let from : IsCompId header.from = search rules in
    let to : IsCompId header.to = search rules in
    let numbered : IsHeader header = search rules in
    let leg_in_range : IsLeg leg = search rules in
    let message : c.message-message.result ≡ order_envelope header order = search rules in
    let made : IsMade w leg header order c.message-message.result at = record {
      in_range = order_in_range leg header from to numbered leg_in_range;
      written = order_at_its_time w leg header order at time appended;
      message = message;
      time = time;
    } in
    let read : Decoding = (g.D.Dialect.wording d).decoding in
    let agrees = agrees_of (g.D.Dialect.wording d) (laws.is_wording d) in
    let none = unrefused w read leg header order c.message-message.result at agrees made in
    let room = c.args.room in
    let empty = room.frame.ok.0 ∙ ap length room.no_byte in
    let said = c.write_envelope.ensures in
    written_with_room c.message-message.result at room.frame.cap room.frame.len c.write_envelope.result said.refusal said.full none empty room.frame_room

pub returns : goal.returns
returns g c =
    let d = c.args.dialect.now in
    let leg = c.args.leg.now in
    let header = c.args.header in
    let w : Encoding = (g.D.Dialect.wording d).encoding in
    let order : List Tagged = c.write_order.new.fields.items in
    let at : StampParts = c.at-at.result in
    let time : at ≡ header.at = search rules in
    let appended : Appends (w.IsOrder leg at) [] order = search rules in
    let from : IsCompId header.from = search rules in
    let to : IsCompId header.to = search rules in
    let numbered : IsHeader header = search rules in
    let leg_in_range : IsLeg leg = search rules in
    let message : c.message-message.result ≡ order_envelope header order = search rules in
    let made : IsMade w leg header order c.message-message.result at = record {
      in_range = order_in_range leg header from to numbered leg_in_range;
      written = order_at_its_time w leg header order at time appended;
      message = message;
      time = time;
    } in
    let frame : List ℕ = c.write_envelope.new.out.items in
    let is : frame ≡ frame_text (envelope_fields c.message-message.result at) = search rules in
    order_framed w leg header order c.message-message.result at frame made is
