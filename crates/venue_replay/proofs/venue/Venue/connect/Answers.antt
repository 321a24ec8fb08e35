use Rattle.std.proofs.Common.{◌≡◌, ℕ, Some, None, rules, refl, subst}
use Rattle.std.specs.Global.{Vec}
use Rattle.dialect.specs.Framed.{IsFramed}
use Rattle.dialect.specs.Wording.{Decoding, Encoding}
use Rattle.dialect.specs.Outgoing.{alone}
use Rattle.dialect.proofs.FrameBack.{agrees_of}
use Rattle.session_core.specs.declared.session_fault.SessionFault.{SessionFault}
use Rattle.session_core.specs.Calling.{connect}
use Rattle.session_core.proofs.Promised.{connect_sound, connect_writable}
use Rattle.schedule.specs.World.{VenueParts}
use Rattle.venue_replay.specs.Network.{all_said}
use Rattle.venue_replay.specs.AtVenue.{sent}
use Rattle.venue_replay.specs.Ending.{refusal_of}
use Rattle.venue_replay.proofs.Endings.{not_refused, refused_so}
use Rattle.venue_replay.proofs.SessionCalls.{given_sound, still_kept, message_kept, message_said}
use Rattle.venue_replay.proofs.venue.Venue.connect.Goals as goal

pub invariant_of-self : goal.invariant_of-self
invariant_of-self g c =
    let v = c.self.inside in
    let w : Encoding = (g.D.Dialect.wording v.dialect).encoding in
    let s = v.session in
    let sound = given_sound (λ m (frame : Vec ℕ). IsFramed w c.stamp.result (alone m) frame.items) s c.connect.new.self (connect s) c.connect.result c.connect.ensures c.self.invariant.session (connect_sound s c.self.invariant.session) in
    still_kept w s c.connect.new.self v.exchange v.to_exchange.items c.push.new.self.items v.from_exchange.items c.self.invariant sound c.in_err-push-in-Ok.ensures.items

pub invariant_of-self-in-Ok : goal.invariant_of-self-in-Ok
invariant_of-self-in-Ok g c =
    let v = c.self.inside in
    let w : Encoding = (g.D.Dialect.wording v.dialect).encoding in
    let s = v.session in
    message_kept w s c.connect.new.self v.exchange v.to_exchange.items c.push.new.self.items v.from_exchange.items
    c.stamp.result c.connection-connection.result (connect s) c.in-Ok.bytes c.self.invariant c.stamp.ensures c.in-Ok.ensures
    (connect_sound s c.self.invariant.session) (connect_writable s c.self.invariant.session) c.connection-connection.ensures
    c.in_ok-push-in-Ok.ensures.items

pub returns-in_ok-push-in-Ok-clause-now : goal.returns-in_ok-push-in-Ok-clause-now
returns-in_ok-push-in-Ok-clause-now g c =
    let v = c.self.inside in
    let w : Encoding = (g.D.Dialect.wording v.dialect).encoding in
    let r : Decoding = (g.D.Dialect.wording v.dialect).decoding in
    let laws = g.met.D.Dialect in
    let agrees = agrees_of (g.D.Dialect.wording v.dialect) (laws.is_wording v.dialect) in
    let before : VenueParts = record {
      session = v.session;
      exchange = v.exchange;
      to_exchange = all_said r v.to_exchange.items;
      from_exchange = all_said r v.from_exchange.items;
      given = v.given.items;
    } in
    let now : VenueParts = record before { session = c.connect.new.self; to_exchange = all_said r c.push.new.self.items } in
    subst (λ (venue : VenueParts). now ≡ sent venue (connect venue.session)) c.self.view_is
    (message_said w r agrees before v.to_exchange.items c.push.new.self.items c.stamp.result c.connection-connection.result
    (connect v.session) c.in-Ok.bytes c.connect.new.self refl c.stamp.ensures c.in-Ok.ensures
    (connect_writable v.session c.self.invariant.session) c.connection-connection.ensures c.in_ok-push-in-Ok.ensures.items)

pub returns-in_ok-push-in-Ok-clause-refused : goal.returns-in_ok-push-in-Ok-clause-refused
returns-in_ok-push-in-Ok-clause-refused g c =
    let v = c.self.inside in
    let w : Encoding = (g.D.Dialect.wording v.dialect).encoding in
    subst (λ (venue : VenueParts). None ≡ refusal_of (connect venue.session)) c.self.view_is
    (not_refused (λ m (frame : Vec ℕ). IsFramed w c.stamp.result (alone m) frame.items) v.session c.connect.new.self (connect v.session) c.in-Ok.bytes c.in-Ok.ensures)

pub returns-in-Err-clause-refused : goal.returns-in-Err-clause-refused
returns-in-Err-clause-refused g c =
    let v = c.self.inside in
    let w : Encoding = (g.D.Dialect.wording v.dialect).encoding in
    let other : c.in-Err.fault ≡ SessionFault.OutOfMemory → ⊥ = search rules in
    subst (λ (venue : VenueParts). Some c.in-Err.fault ≡ refusal_of (connect venue.session)) c.self.view_is
    (refused_so (λ m (frame : Vec ℕ). IsFramed w c.stamp.result (alone m) frame.items) v.session c.connect.new.self (connect v.session) c.in-Err.fault other c.in-Err.ensures)
