use Rattle.std.proofs.Common.{◌≡◌, Ok, Err, rules, refl, subst}
use Rattle.dialect.specs.Wording.{Decoding, Encoding}
use Rattle.dialect.proofs.FrameBack.{agrees_of}
use Rattle.session_core.specs.declared.session_fault.SessionFault.{SessionFault}
use Rattle.session_core.specs.CallResult.{IsStep}
use Rattle.schedule.specs.World.{VenueParts}
use Rattle.venue_replay.specs.Network.{all_said, moment}
use Rattle.venue_replay.specs.AtVenue.{answer_of, called}
use Rattle.venue_replay.specs.Ending.{ending_of}
use Rattle.venue_replay.proofs.Endings.{said_ending, no_ending}
use Rattle.venue_replay.proofs.StepCalls.{answer_sound, answer_writable}
use Rattle.venue_replay.proofs.SessionCalls.{given_sound, still_kept, step_kept, step_said, called_refused}
use Rattle.venue_replay.proofs.venue.Venue.call.Goals as goal

pub invariant_of-self : goal.invariant_of-self
invariant_of-self g c =
    let v = c.self.inside in
    let w : Encoding = (g.D.Dialect.wording v.dialect).encoding in
    let s = v.session in
    step_kept w s c.call.new.session v.exchange v.to_exchange.items c.keep.new.kept.items v.from_exchange.items
    moment c.connection-connection.result (answer_of c.args.made s) c.in-Ok.step c.into_vec.result.items c.keep.result c.self.invariant refl
    c.in-Ok.ensures (answer_sound c.args.made s c.self.invariant.session) (answer_writable c.args.made s c.self.invariant.session) c.into_vec.ensures
    c.connection-connection.ensures c.keep.ensures.ok c.keep.ensures.err

pub invariant_of-self-in-Ok : goal.invariant_of-self-in-Ok
invariant_of-self-in-Ok g c =
    let v = c.self.inside in
    let w : Encoding = (g.D.Dialect.wording v.dialect).encoding in
    let s = v.session in
    step_kept w s c.call.new.session v.exchange v.to_exchange.items c.keep.new.kept.items v.from_exchange.items
    moment c.connection-connection.result (answer_of c.args.made s) c.in-Ok.step c.into_vec.result.items c.keep.result c.self.invariant refl
    c.in-Ok.ensures (answer_sound c.args.made s c.self.invariant.session) (answer_writable c.args.made s c.self.invariant.session) c.into_vec.ensures
    c.connection-connection.ensures c.keep.ensures.ok c.keep.ensures.err

pub invariant_of-self-in-Err-OutOfMemory : goal.invariant_of-self-in-Err-OutOfMemory
invariant_of-self-in-Err-OutOfMemory g c =
    let v = c.self.inside in
    let w : Encoding = (g.D.Dialect.wording v.dialect).encoding in
    let s = v.session in
    let sound = given_sound (IsStep w moment) s c.call.new.session (answer_of c.args.made s) c.call.result c.call.ensures c.self.invariant.session (answer_sound c.args.made s c.self.invariant.session) in
    still_kept w s c.call.new.session v.exchange v.to_exchange.items v.to_exchange.items v.from_exchange.items c.self.invariant sound refl

pub invariant_of-self-in-Err : goal.invariant_of-self-in-Err
invariant_of-self-in-Err g c =
    let v = c.self.inside in
    let w : Encoding = (g.D.Dialect.wording v.dialect).encoding in
    let s = v.session in
    let sound = given_sound (IsStep w moment) s c.call.new.session (answer_of c.args.made s) c.call.result c.call.ensures c.self.invariant.session (answer_sound c.args.made s c.self.invariant.session) in
    still_kept w s c.call.new.session v.exchange v.to_exchange.items v.to_exchange.items v.from_exchange.items c.self.invariant sound refl

pub returns-in_ok-keep-in-Ok-clause-now : goal.returns-in_ok-keep-in-Ok-clause-now
returns-in_ok-keep-in-Ok-clause-now g c =
    let v = c.self.inside in
    let w : Encoding = (g.D.Dialect.wording v.dialect).encoding in
    let r : Decoding = (g.D.Dialect.wording v.dialect).decoding in
    let laws = g.met.D.Dialect in
    let agrees = agrees_of (g.D.Dialect.wording v.dialect) (laws.is_wording v.dialect) in
    let before : VenueParts = record {
      session = v.session;
      exchange = v.exchange;
      to_exchange = all_said r v.to_exchange.items;
      from_exchange = all_said r v.from_exchange.items;
      given = v.given.items;
    } in
    let now : VenueParts = record before { session = c.call.new.session; to_exchange = all_said r c.keep.new.kept.items } in
    subst (λ (venue : VenueParts). now ≡ called venue (answer_of c.args.made venue.session)) c.self.view_is
    (step_said w r agrees before v.to_exchange.items c.keep.new.kept.items moment c.connection-connection.result
    (answer_of c.args.made v.session) c.in-Ok.step c.into_vec.result.items c.call.new.session refl refl c.in-Ok.ensures
    (answer_writable c.args.made v.session c.self.invariant.session) c.into_vec.ensures c.connection-connection.ensures c.in_ok-keep-in-Ok.ensures.ok)

pub returns-in_ok-keep-in-Ok-clause-ended : goal.returns-in_ok-keep-in-Ok-clause-ended
returns-in_ok-keep-in-Ok-clause-ended g c =
    let v = c.self.inside in
    let w : Encoding = (g.D.Dialect.wording v.dialect).encoding in
    subst (λ (venue : VenueParts). Ok c.in-Ok.step.ended ≡ ending_of (answer_of c.args.made venue.session)) c.self.view_is
    (said_ending w moment v.session c.call.new.session (answer_of c.args.made v.session) c.in-Ok.step c.in-Ok.ensures)

pub returns-in-Err-clause-now : goal.returns-in-Err-clause-now
returns-in-Err-clause-now g c =
    let v = c.self.inside in
    let w : Encoding = (g.D.Dialect.wording v.dialect).encoding in
    let r : Decoding = (g.D.Dialect.wording v.dialect).decoding in
    let before : VenueParts = record {
      session = v.session;
      exchange = v.exchange;
      to_exchange = all_said r v.to_exchange.items;
      from_exchange = all_said r v.from_exchange.items;
      given = v.given.items;
    } in
    let other : c.in-Err.fault ≡ SessionFault.OutOfMemory → ⊥ = search rules in
    let now : VenueParts = record before { session = c.call.new.session } in
    subst (λ (venue : VenueParts). now ≡ called venue (answer_of c.args.made venue.session)) c.self.view_is
    (called_refused w moment before (answer_of c.args.made v.session) c.in-Err.fault c.call.new.session other c.in-Err.ensures)

pub returns-in-Err-clause-ended : goal.returns-in-Err-clause-ended
returns-in-Err-clause-ended g c =
    let v = c.self.inside in
    let w : Encoding = (g.D.Dialect.wording v.dialect).encoding in
    let other : c.in-Err.fault ≡ SessionFault.OutOfMemory → ⊥ = search rules in
    subst (λ (venue : VenueParts). Err c.in-Err.fault ≡ ending_of (answer_of c.args.made venue.session)) c.self.view_is
    (no_ending w moment v.session c.call.new.session (answer_of c.args.made v.session) c.in-Err.fault other c.in-Err.ensures)
