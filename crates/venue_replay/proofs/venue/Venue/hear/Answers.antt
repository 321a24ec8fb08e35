use Rattle.std.proofs.Common.{◌≡◌, Option, Some, None, sym, ap, subst}
use Rattle.std.specs.Option.{option_map}
use Rattle.leg.specs.Numbered.{numbered}
use Rattle.dialect.proofs.FrameBack.{agrees_of}
use Rattle.schedule.specs.World.{VenueParts}
use Rattle.venue_replay.specs.declared.inbound.Inbound.{Inbound}
use Rattle.venue_replay.specs.Hearing.{turn_on, heard, inbound_of}
use Rattle.venue_replay.proofs.SessionHears.{seen, not_heard, comes_as_message, heard_kept, heard_said, heard_told}
use Rattle.venue_replay.proofs.venue.Venue.hear.Goals as goal

pub returns-in_default-clause-now : goal.returns-in_default-clause-now
returns-in_default-clause-now g c =
    let v = c.self.inside in
    subst (λ (venue : VenueParts). venue ≡ heard venue (turn_on venue (numbered c.args.number venue.from_exchange)))
    c.self.view_is
    (sym (ap (heard _) (not_heard (g.D.Dialect.wording v.dialect).decoding v.session v.exchange v.to_exchange.items
    v.from_exchange.items v.given.items c.args.number _ c.deref.ensures.value c.in_default.ensures)))

pub returns-in_default-clause-told : goal.returns-in_default-clause-told
returns-in_default-clause-told g c =
    let v = c.self.inside in
    subst (λ (venue : VenueParts). None ≡ option_map inbound_of (turn_on venue (numbered c.args.number venue.from_exchange)))
    c.self.view_is
    (sym (ap (option_map inbound_of) (not_heard (g.D.Dialect.wording v.dialect).decoding v.session v.exchange
    v.to_exchange.items v.from_exchange.items v.given.items c.args.number _ c.deref.ensures.value c.in_default.ensures)))

pub hear_frame-requires : goal.hear_frame-requires
hear_frame-requires g c =
    let v = c.self.inside in
    let d = g.D.Dialect.wording v.dialect in
    comes_as_message d.encoding d.decoding (agrees_of d (g.met.D.Dialect.is_wording v.dialect)) v.session c.args.number
    v.from_exchange.items _ c.deref.ensures.value c.in-Some.frame.now c.in-Some.ensures c.self.invariant.from_exchange _
    c.deref-2.ensures.value

pub invariant_of-self : goal.invariant_of-self
invariant_of-self g c =
    let v = c.self.inside in
    let d = g.D.Dialect.wording v.dialect in
    heard_kept d.encoding d.decoding (agrees_of d (g.met.D.Dialect.is_wording v.dialect)) v.session c.args.number
    v.from_exchange.items _ c.deref.ensures.value c.in-Some.frame.now c.in-Some.ensures c.self.invariant.from_exchange _
    c.deref-2.ensures.value c.in-Ok.step c.hear_frame.new.session c.in-Ok.ensures v.exchange v.to_exchange.items
    c.keep.new.kept.items c.connection-connection.result c.into_vec.result.items c.keep.result c.self.invariant
    c.into_vec.ensures c.connection-connection.ensures c.keep.ensures.ok c.keep.ensures.err

pub invariant_of-self-in-Ok : goal.invariant_of-self-in-Ok
invariant_of-self-in-Ok g c =
    let v = c.self.inside in
    let d = g.D.Dialect.wording v.dialect in
    heard_kept d.encoding d.decoding (agrees_of d (g.met.D.Dialect.is_wording v.dialect)) v.session c.args.number
    v.from_exchange.items _ c.deref.ensures.value c.in-Some.frame.now c.in-Some.ensures c.self.invariant.from_exchange _
    c.deref-2.ensures.value c.in-Ok.step c.hear_frame.new.session c.in-Ok.ensures v.exchange v.to_exchange.items
    c.keep.new.kept.items c.connection-connection.result c.into_vec.result.items c.keep.result c.self.invariant
    c.into_vec.ensures c.connection-connection.ensures c.keep.ensures.ok c.keep.ensures.err

pub returns-in_ok-keep-in-Ok-clause-now : goal.returns-in_ok-keep-in-Ok-clause-now
returns-in_ok-keep-in-Ok-clause-now g c =
    let v = c.self.inside in
    let d = g.D.Dialect.wording v.dialect in
    subst (λ (venue : VenueParts). seen d.decoding c.hear_frame.new.session v.exchange c.keep.new.kept.items
    v.from_exchange.items v.given.items ≡ heard venue (turn_on venue (numbered c.args.number venue.from_exchange)))
    c.self.view_is
    (heard_said d.encoding d.decoding (agrees_of d (g.met.D.Dialect.is_wording v.dialect)) v.session c.args.number
    v.from_exchange.items _ c.deref.ensures.value c.in-Some.frame.now c.in-Some.ensures c.self.invariant.from_exchange _
    c.deref-2.ensures.value c.in-Ok.step c.hear_frame.new.session c.in-Ok.ensures v.exchange v.to_exchange.items
    c.keep.new.kept.items v.given.items c.connection-connection.result c.into_vec.result.items c.self.invariant.session
    c.into_vec.ensures c.connection-connection.ensures c.in_ok-keep-in-Ok.ensures.ok)

pub returns-in_ok-keep-in-Ok-clause-told : goal.returns-in_ok-keep-in-Ok-clause-told
returns-in_ok-keep-in-Ok-clause-told g c =
    let v = c.self.inside in
    let d = g.D.Dialect.wording v.dialect in
    let told : Option Inbound = Some (record { note = c.in-Ok.step.note; withdrawn = c.in-Ok.step.withdrawn; ended = c.in-Ok.step.ended }) in
    subst (λ (venue : VenueParts). told ≡ option_map inbound_of (turn_on venue (numbered c.args.number venue.from_exchange))) c.self.view_is
    (heard_told d.encoding d.decoding (agrees_of d (g.met.D.Dialect.is_wording v.dialect)) v.session c.args.number
    v.from_exchange.items _ c.deref.ensures.value c.in-Some.frame.now c.in-Some.ensures c.self.invariant.from_exchange _
    c.deref-2.ensures.value c.in-Ok.step c.hear_frame.new.session c.in-Ok.ensures v.exchange v.to_exchange.items v.given.items)
