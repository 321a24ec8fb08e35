use Rattle.std.proofs.Common.{◌≡◌, ℕ, refl, subst}
use Rattle.std.specs.Global.{Vec}
use Rattle.dialect.specs.Framed.{IsFramed}
use Rattle.dialect.specs.Wording.{Decoding, Encoding}
use Rattle.dialect.specs.Outgoing.{alone}
use Rattle.dialect.proofs.FrameBack.{agrees_of}
use Rattle.session_core.specs.Calling.{send_leg}
use Rattle.session_core.proofs.Promised.{send_leg_sound, send_leg_writable}
use Rattle.schedule.specs.World.{VenueParts}
use Rattle.venue_replay.specs.Network.{all_said}
use Rattle.venue_replay.specs.AtVenue.{sent}
use Rattle.venue_replay.proofs.SessionCalls.{given_sound, still_kept, message_kept, message_said}
use Rattle.venue_replay.proofs.venue.Venue.send.Goals as goal

pub invariant_of-self : goal.invariant_of-self
invariant_of-self g c =
    let v = c.self.inside in
    let w : Encoding = (g.D.Dialect.wording v.dialect).encoding in
    let s = v.session in
    let sound = given_sound (λ m (frame : Vec ℕ). IsFramed w c.stamp.result (alone m) frame.items) s c.send_leg.new.self (send_leg s c.args.ordinal c.args.leg.now) c.send_leg.result c.send_leg.ensures c.self.invariant.session (send_leg_sound s c.args.ordinal c.args.leg.now c.self.invariant.session) in
    still_kept w s c.send_leg.new.self v.exchange v.to_exchange.items c.push.new.self.items v.from_exchange.items c.self.invariant sound c.in_err-push-in-Ok.ensures.items

pub invariant_of-self-in-Ok : goal.invariant_of-self-in-Ok
invariant_of-self-in-Ok g c =
    let v = c.self.inside in
    let w : Encoding = (g.D.Dialect.wording v.dialect).encoding in
    let s = v.session in
    message_kept w s c.send_leg.new.self v.exchange v.to_exchange.items c.push.new.self.items v.from_exchange.items
    c.stamp.result c.connection-connection.result (send_leg s c.args.ordinal c.args.leg.now) c.in-Ok.bytes c.self.invariant c.stamp.ensures c.in-Ok.ensures
    (send_leg_sound s c.args.ordinal c.args.leg.now c.self.invariant.session) (send_leg_writable s c.args.ordinal c.args.leg.now c.self.invariant.session c.in_range.ensures) c.connection-connection.ensures
    c.in_ok-push-in-Ok.ensures.items

pub invariant_of-self-in-Err : goal.invariant_of-self-in-Err
invariant_of-self-in-Err g c =
    let v = c.self.inside in
    let w : Encoding = (g.D.Dialect.wording v.dialect).encoding in
    let s = v.session in
    let sound = given_sound (λ m (frame : Vec ℕ). IsFramed w c.stamp.result (alone m) frame.items) s c.send_leg.new.self (send_leg s c.args.ordinal c.args.leg.now) c.send_leg.result c.send_leg.ensures c.self.invariant.session (send_leg_sound s c.args.ordinal c.args.leg.now c.self.invariant.session) in
    still_kept w s c.send_leg.new.self v.exchange v.to_exchange.items v.to_exchange.items v.from_exchange.items c.self.invariant sound refl

pub returns-in_ok-push-in-Ok-clause-now : goal.returns-in_ok-push-in-Ok-clause-now
returns-in_ok-push-in-Ok-clause-now g c =
    let v = c.self.inside in
    let w : Encoding = (g.D.Dialect.wording v.dialect).encoding in
    let r : Decoding = (g.D.Dialect.wording v.dialect).decoding in
    let laws = g.met.D.Dialect in
    let agrees = agrees_of (g.D.Dialect.wording v.dialect) (laws.is_wording v.dialect) in
    let before : VenueParts = record {
      session = v.session;
      exchange = v.exchange;
      to_exchange = all_said r v.to_exchange.items;
      from_exchange = all_said r v.from_exchange.items;
      given = v.given.items;
    } in
    let now : VenueParts = record before { session = c.send_leg.new.self; to_exchange = all_said r c.push.new.self.items } in
    subst (λ (venue : VenueParts). now ≡ sent venue (send_leg venue.session c.args.ordinal c.args.leg.now)) c.self.view_is
    (message_said w r agrees before v.to_exchange.items c.push.new.self.items c.stamp.result c.connection-connection.result
    (send_leg v.session c.args.ordinal c.args.leg.now) c.in-Ok.bytes c.send_leg.new.self refl c.stamp.ensures c.in-Ok.ensures
    (send_leg_writable v.session c.args.ordinal c.args.leg.now c.self.invariant.session c.in_range.ensures) c.connection-connection.ensures c.in_ok-push-in-Ok.ensures.items)
