use Rattle.std.proofs.Common.{◌≡◌, ℕ, Option, Some, None, Ok, rules, refl, ap, subst, ◌∙◌}
use Rattle.std.specs.Global.{Vec}
use Rattle.dialect.specs.Wording.{Decoding, Encoding}
use Rattle.dialect.proofs.FrameBack.{agrees_of}
use Rattle.exchange_core.specs.declared.exchange_fault.ExchangeFault.{ExchangeFault}
use Rattle.exchange_core.specs.Frames.{ActGives}
use Rattle.schedule.specs.World.{VenueParts}
use Rattle.schedule.specs.Happening.{act_of}
use Rattle.venue_replay.specs.Network.{all_said}
use Rattle.venue_replay.specs.AtVenue.{acted}
use Rattle.venue_replay.specs.Ending.{refusal_of}
use Rattle.venue_replay.specs.Kept.{last_connection}
use Rattle.venue_replay.proofs.Endings.{act_not_refused, act_refused_so}
use Rattle.venue_replay.proofs.ExchangeActs.{act_in_live, act_sound, act_said, has_last, act_still, act_kept, acted_silently, acted_said}
use Rattle.venue_replay.proofs.venue.Venue.act.Goals as goal

pub unreachable-requires : goal.unreachable-requires
unreachable-requires g c =
    let v = c.self.inside in
    let w : Encoding = (g.D.Dialect.wording v.dialect).encoding in
    let x = v.exchange in
    let a = c.args.act.now in
    let gives : ActGives w c.stamp.result x (act_of a x) (Ok (Some c.in-Ok-Some.bytes)) c.perform.new.exchange =
    subst (λ (frame : Option (Vec ℕ)). ActGives w c.stamp.result x (act_of a x) (Ok frame) c.perform.new.exchange) c.in-Ok-Some.field-0-is c.in-Ok-Some.ensures.gives in
    has_last w c.stamp.result v.session x c.perform.new.exchange v.to_exchange.items v.from_exchange.items (act_of a x) c.in-Ok-Some.bytes
    c.self.invariant (act_in_live a x) gives (c.in_default.ensures ∙ ap last_connection c.deref.ensures.value)

pub invariant_of-self : goal.invariant_of-self
invariant_of-self g c =
    let v = c.self.inside in
    let w : Encoding = (g.D.Dialect.wording v.dialect).encoding in
    let x = v.exchange in
    let a = c.args.act.now in
    act_still w c.stamp.result v.session x c.perform.new.exchange v.to_exchange.items v.from_exchange.items c.push.new.self.items
    (act_of a x) c.perform.result c.self.invariant c.perform.ensures.gives
    (act_sound a x c.perform.ensures.in_range c.self.invariant.exchange) (act_in_live a x) c.in_err-push-in-Ok-Some.ensures.items

pub invariant_of-self-in-Ok-Some : goal.invariant_of-self-in-Ok-Some
invariant_of-self-in-Ok-Some g c =
    let v = c.self.inside in
    let w : Encoding = (g.D.Dialect.wording v.dialect).encoding in
    let x = v.exchange in
    let a = c.args.act.now in
    let gives : ActGives w c.stamp.result x (act_of a x) (Ok (Some c.in-Ok-Some.bytes)) c.perform.new.exchange =
    subst (λ (frame : Option (Vec ℕ)). ActGives w c.stamp.result x (act_of a x) (Ok frame) c.perform.new.exchange) c.in-Ok-Some.field-0-is c.in-Ok-Some.ensures.gives in
    act_kept w c.stamp.result v.session x c.perform.new.exchange v.to_exchange.items v.from_exchange.items c.push.new.self.items
    c.in-Some.connection (act_of a x) c.in-Ok-Some.bytes c.self.invariant c.stamp.ensures gives
    (act_sound a x c.perform.ensures.in_range c.self.invariant.exchange)
    (act_said a x c.perform.ensures.in_range c.self.invariant.exchange) (act_in_live a x)
    (c.in-Some.ensures ∙ ap last_connection c.deref.ensures.value) c.in_ok-push-in-Ok-Some.ensures.items

pub invariant_of-self-in-Ok-None : goal.invariant_of-self-in-Ok-None
invariant_of-self-in-Ok-None g c =
    let v = c.self.inside in
    let w : Encoding = (g.D.Dialect.wording v.dialect).encoding in
    let x = v.exchange in
    let a = c.args.act.now in
    act_still w c.stamp.result v.session x c.perform.new.exchange v.to_exchange.items v.from_exchange.items v.from_exchange.items
    (act_of a x) c.perform.result c.self.invariant c.perform.ensures.gives
    (act_sound a x c.perform.ensures.in_range c.self.invariant.exchange) (act_in_live a x) refl

pub invariant_of-self-in-Err-OutOfMemory : goal.invariant_of-self-in-Err-OutOfMemory
invariant_of-self-in-Err-OutOfMemory g c =
    let v = c.self.inside in
    let w : Encoding = (g.D.Dialect.wording v.dialect).encoding in
    let x = v.exchange in
    let a = c.args.act.now in
    act_still w c.stamp.result v.session x c.perform.new.exchange v.to_exchange.items v.from_exchange.items v.from_exchange.items
    (act_of a x) c.perform.result c.self.invariant c.perform.ensures.gives
    (act_sound a x c.perform.ensures.in_range c.self.invariant.exchange) (act_in_live a x) refl

pub invariant_of-self-in-Err : goal.invariant_of-self-in-Err
invariant_of-self-in-Err g c =
    let v = c.self.inside in
    let w : Encoding = (g.D.Dialect.wording v.dialect).encoding in
    let x = v.exchange in
    let a = c.args.act.now in
    act_still w c.stamp.result v.session x c.perform.new.exchange v.to_exchange.items v.from_exchange.items v.from_exchange.items
    (act_of a x) c.perform.result c.self.invariant c.perform.ensures.gives
    (act_sound a x c.perform.ensures.in_range c.self.invariant.exchange) (act_in_live a x) refl

pub returns-in_ok-push-in-Ok-Some-clause-now : goal.returns-in_ok-push-in-Ok-Some-clause-now
returns-in_ok-push-in-Ok-Some-clause-now g c =
    let v = c.self.inside in
    let w : Encoding = (g.D.Dialect.wording v.dialect).encoding in
    let x = v.exchange in
    let a = c.args.act.now in
    let gives : ActGives w c.stamp.result x (act_of a x) (Ok (Some c.in-Ok-Some.bytes)) c.perform.new.exchange =
    subst (λ (frame : Option (Vec ℕ)). ActGives w c.stamp.result x (act_of a x) (Ok frame) c.perform.new.exchange) c.in-Ok-Some.field-0-is c.in-Ok-Some.ensures.gives in
    let r : Decoding = (g.D.Dialect.wording v.dialect).decoding in
    let laws = g.met.D.Dialect in
    let agrees = agrees_of (g.D.Dialect.wording v.dialect) (laws.is_wording v.dialect) in
    let before : VenueParts = record {
      session = v.session;
      exchange = x;
      to_exchange = all_said r v.to_exchange.items;
      from_exchange = all_said r v.from_exchange.items;
      given = v.given.items;
    } in
    let now : VenueParts = record before { exchange = c.perform.new.exchange; from_exchange = all_said r c.push.new.self.items } in
    subst (λ (venue : VenueParts). now ≡ acted venue (act_of a venue.exchange)) c.self.view_is
    (acted_said w r agrees c.stamp.result v.session before v.to_exchange.items v.from_exchange.items c.push.new.self.items
    c.in-Some.connection (act_of a x) c.in-Ok-Some.bytes c.perform.new.exchange c.self.invariant refl c.stamp.ensures
    gives (act_said a x c.perform.ensures.in_range c.self.invariant.exchange) (act_in_live a x)
    (c.in-Some.ensures ∙ ap last_connection c.deref.ensures.value) c.in_ok-push-in-Ok-Some.ensures.items)

pub returns-in-Ok-None-clause-now : goal.returns-in-Ok-None-clause-now
returns-in-Ok-None-clause-now g c =
    let v = c.self.inside in
    let w : Encoding = (g.D.Dialect.wording v.dialect).encoding in
    let x = v.exchange in
    let a = c.args.act.now in
    let gives : ActGives w c.stamp.result x (act_of a x) (Ok None) c.perform.new.exchange =
    subst (λ (frame : Option (Vec ℕ)). ActGives w c.stamp.result x (act_of a x) (Ok frame) c.perform.new.exchange) c.in-Ok-None.field-0-is c.in-Ok-None.ensures.gives in
    let r : Decoding = (g.D.Dialect.wording v.dialect).decoding in
    let before : VenueParts = record {
      session = v.session;
      exchange = x;
      to_exchange = all_said r v.to_exchange.items;
      from_exchange = all_said r v.from_exchange.items;
      given = v.given.items;
    } in
    let now : VenueParts = record before { exchange = c.perform.new.exchange } in
    subst (λ (venue : VenueParts). now ≡ acted venue (act_of a venue.exchange)) c.self.view_is
    (acted_silently w c.stamp.result before (act_of a x) c.perform.new.exchange gives)

pub returns-in_ok-push-in-Ok-Some-clause-refused : goal.returns-in_ok-push-in-Ok-Some-clause-refused
returns-in_ok-push-in-Ok-Some-clause-refused g c =
    let v = c.self.inside in
    let w : Encoding = (g.D.Dialect.wording v.dialect).encoding in
    let x = v.exchange in
    let a = c.args.act.now in
    let gives : ActGives w c.stamp.result x (act_of a x) (Ok (Some c.in-Ok-Some.bytes)) c.perform.new.exchange =
    subst (λ (frame : Option (Vec ℕ)). ActGives w c.stamp.result x (act_of a x) (Ok frame) c.perform.new.exchange) c.in-Ok-Some.field-0-is c.in-Ok-Some.ensures.gives in
    subst (λ (venue : VenueParts). None ≡ refusal_of (act_of a venue.exchange)) c.self.view_is
    (act_not_refused w c.stamp.result x c.perform.new.exchange (act_of a x) (Some c.in-Ok-Some.bytes) gives)

pub returns-in-Ok-None-clause-refused : goal.returns-in-Ok-None-clause-refused
returns-in-Ok-None-clause-refused g c =
    let v = c.self.inside in
    let w : Encoding = (g.D.Dialect.wording v.dialect).encoding in
    let x = v.exchange in
    let a = c.args.act.now in
    let gives : ActGives w c.stamp.result x (act_of a x) (Ok None) c.perform.new.exchange =
    subst (λ (frame : Option (Vec ℕ)). ActGives w c.stamp.result x (act_of a x) (Ok frame) c.perform.new.exchange) c.in-Ok-None.field-0-is c.in-Ok-None.ensures.gives in
    subst (λ (venue : VenueParts). None ≡ refusal_of (act_of a venue.exchange)) c.self.view_is
    (act_not_refused w c.stamp.result x c.perform.new.exchange (act_of a x) None gives)

pub returns-in-Err-clause-refused : goal.returns-in-Err-clause-refused
returns-in-Err-clause-refused g c =
    let v = c.self.inside in
    let w : Encoding = (g.D.Dialect.wording v.dialect).encoding in
    let x = v.exchange in
    let a = c.args.act.now in
    let other : c.in-Err.fault ≡ ExchangeFault.OutOfMemory → ⊥ = search rules in
    subst (λ (venue : VenueParts). Some c.in-Err.fault ≡ refusal_of (act_of a venue.exchange)) c.self.view_is
    (act_refused_so w c.stamp.result x c.perform.new.exchange (act_of a x) c.in-Err.fault other c.in-Err.ensures.gives)
