use Rattle.std.proofs.Common.{◌≡◌, Some, Ok, refl, sym, ap, subst, ◌∙◌}
use Rattle.fix_text.specs.Reading.{Stream, next_read}
use Rattle.leg.specs.Numbered.{numbered}
use Rattle.dialect.specs.Wording.{Decoding, Encoding}
use Rattle.dialect.proofs.FrameBack.{agrees_of}
use Rattle.exchange_core.specs.Exchange.{take}
use Rattle.exchange_core.specs.Frames.{TakeGives}
use Rattle.schedule.specs.World.{VenueParts}
use Rattle.venue_replay.specs.Network.{moment, stream_of, message_in, said_by, all_said}
use Rattle.venue_replay.specs.Delivering.{IsFrameOfMessage, taken}
use Rattle.venue_replay.proofs.ExchangeTakes.{written_at, is_frame, delivered_kept, dropped_kept, delivered_said}
use Rattle.venue_replay.proofs.WhetherKept.{lost, not_lost}
use Rattle.venue_replay.proofs.venue.Venue.deliver_to_exchange.Goals as goal

pub take_next-requires : goal.take_next-requires
take_next-requires g c =
    let v = c.self.inside in
    let w : Encoding = (g.D.Dialect.wording v.dialect).encoding in
    let r : Decoding = (g.D.Dialect.wording v.dialect).decoding in
    let laws = g.met.D.Dialect in
    let agrees = agrees_of (g.D.Dialect.wording v.dialect) (laws.is_wording v.dialect) in
    let x = v.exchange in
    let frame = c.in-Some.frame.now in
    let there : numbered c.args.number v.to_exchange.items ≡ Some frame =
    sym (c.in-Some.ensures ∙ ap (numbered c.args.number) c.deref.ensures.value) in
    let written = written_at w c.args.number v.to_exchange.items frame c.self.invariant.to_exchange there in
    let stream : c.in_ok-stream.stream ≡ stream_of frame.bytes.items = c.in_ok-stream.ensures ∙ ap stream_of c.deref-2.ensures.value in
    subst (λ (s : Stream). IsFrameOfMessage (next_read s).frame) (sym stream) (is_frame w r agrees frame written)

pub invariant_of-self : goal.invariant_of-self
invariant_of-self g c =
    let v = c.self.inside in
    let w : Encoding = (g.D.Dialect.wording v.dialect).encoding in
    let r : Decoding = (g.D.Dialect.wording v.dialect).decoding in
    let laws = g.met.D.Dialect in
    let agrees = agrees_of (g.D.Dialect.wording v.dialect) (laws.is_wording v.dialect) in
    let x = v.exchange in
    let frame = c.in-Some.frame.now in
    let there : numbered c.args.number v.to_exchange.items ≡ Some frame =
    sym (c.in-Some.ensures ∙ ap (numbered c.args.number) c.deref.ensures.value) in
    let written = written_at w c.args.number v.to_exchange.items frame c.self.invariant.to_exchange there in
    let stream : c.in_ok-stream.stream ≡ stream_of frame.bytes.items = c.in_ok-stream.ensures ∙ ap stream_of c.deref-2.ensures.value in
    let gives : TakeGives w moment x (take x frame.connection (said_by r frame.bytes.items)) (Ok c.in-Ok.written) c.take_next.new.exchange =
    subst (λ (s : Stream). TakeGives w moment x (take x frame.connection (message_in r (next_read s).frame)) (Ok c.in-Ok.written) c.take_next.new.exchange) stream c.in-Ok.ensures in
    dropped_kept w r agrees v.session x c.take_next.new.exchange c.drop_connection.new.self v.to_exchange.items v.from_exchange.items
    c.keep.new.kept.items frame c.in-Ok.written c.self.invariant written gives c.drop_connection.ensures
    (lost c.keep.result (sym c.is_err.ensures.value ∙ c.if-is_err.true) c.keep.ensures.err)

pub invariant_of-self-else-is_err : goal.invariant_of-self-else-is_err
invariant_of-self-else-is_err g c =
    let v = c.self.inside in
    let w : Encoding = (g.D.Dialect.wording v.dialect).encoding in
    let r : Decoding = (g.D.Dialect.wording v.dialect).decoding in
    let laws = g.met.D.Dialect in
    let agrees = agrees_of (g.D.Dialect.wording v.dialect) (laws.is_wording v.dialect) in
    let x = v.exchange in
    let frame = c.in-Some.frame.now in
    let there : numbered c.args.number v.to_exchange.items ≡ Some frame =
    sym (c.in-Some.ensures ∙ ap (numbered c.args.number) c.deref.ensures.value) in
    let written = written_at w c.args.number v.to_exchange.items frame c.self.invariant.to_exchange there in
    let stream : c.in_ok-stream.stream ≡ stream_of frame.bytes.items = c.in_ok-stream.ensures ∙ ap stream_of c.deref-2.ensures.value in
    let gives : TakeGives w moment x (take x frame.connection (said_by r frame.bytes.items)) (Ok c.in-Ok.written) c.take_next.new.exchange =
    subst (λ (s : Stream). TakeGives w moment x (take x frame.connection (message_in r (next_read s).frame)) (Ok c.in-Ok.written) c.take_next.new.exchange) stream c.in-Ok.ensures in
    delivered_kept w r agrees v.session x c.take_next.new.exchange v.to_exchange.items v.from_exchange.items
    c.keep.new.kept.items frame c.in-Ok.written c.self.invariant written gives
    (not_lost c.keep.result (sym c.is_err.ensures.value ∙ c.if-is_err.false) c.keep.ensures.ok)

pub returns-in-Ok : goal.returns-in-Ok
returns-in-Ok g c =
    let v = c.self.inside in
    let w : Encoding = (g.D.Dialect.wording v.dialect).encoding in
    let r : Decoding = (g.D.Dialect.wording v.dialect).decoding in
    let laws = g.met.D.Dialect in
    let agrees = agrees_of (g.D.Dialect.wording v.dialect) (laws.is_wording v.dialect) in
    let x = v.exchange in
    let frame = c.in-Some.frame.now in
    let there : numbered c.args.number v.to_exchange.items ≡ Some frame =
    sym (c.in-Some.ensures ∙ ap (numbered c.args.number) c.deref.ensures.value) in
    let written = written_at w c.args.number v.to_exchange.items frame c.self.invariant.to_exchange there in
    let stream : c.in_ok-stream.stream ≡ stream_of frame.bytes.items = c.in_ok-stream.ensures ∙ ap stream_of c.deref-2.ensures.value in
    let gives : TakeGives w moment x (take x frame.connection (said_by r frame.bytes.items)) (Ok c.in-Ok.written) c.take_next.new.exchange =
    subst (λ (s : Stream). TakeGives w moment x (take x frame.connection (message_in r (next_read s).frame)) (Ok c.in-Ok.written) c.take_next.new.exchange) stream c.in-Ok.ensures in
    let before : VenueParts = record {
      session = v.session;
      exchange = x;
      to_exchange = all_said r v.to_exchange.items;
      from_exchange = all_said r v.from_exchange.items;
      given = v.given.items;
    } in
    let now : VenueParts = record before { exchange = c.take_next.new.exchange; from_exchange = all_said r c.keep.new.kept.items } in
    subst (λ (venue : VenueParts). now ≡ taken venue (numbered c.args.number venue.to_exchange)) c.self.view_is
    (delivered_said w r agrees before v.to_exchange.items v.from_exchange.items c.keep.new.kept.items c.args.number frame c.in-Ok.written
    c.take_next.new.exchange refl refl there written c.self.invariant.exchange gives
    (not_lost c.keep.result (sym c.is_err.ensures.value ∙ c.if-is_err.false) c.keep.ensures.ok))
