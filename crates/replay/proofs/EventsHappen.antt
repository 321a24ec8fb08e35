-- The calls of a session as events of the world, from what became of the venue.
use Rattle.std.proofs.Common.{◌≡◌, ℕ, ◌<◌, Bool, true, false, length, Some, None, Ok, Err, refl, sym, ap, ◌∙◌, if◌then◌else◌}
use Rattle.std.proofs.Math.ListN.{get_or}
use Rattle.std.specs.Prelude.{OnOk, Result}
use Rattle.std.specs.Result.{is_ok}
use Rattle.session_core.specs.declared.session_fault.SessionFault.{SessionFault}
use Rattle.session_core.specs.Turn.{StepParts}
use Rattle.session_core.specs.Calling.{SessionAnswer, connect, quiet, silent, close}
use Rattle.session_core.specs.Onward.{OrUnchanged, IsCall}
use Rattle.session_core.proofs.Called.{connect_keeps, quiet_keeps, silent_keeps, close_keeps}
use Rattle.schedule.specs.declared.act.Act.{Act}
use Rattle.schedule.specs.declared.event.Event.{Event}
use Rattle.schedule.specs.declared.event.Event.TheVariants as event
use Rattle.schedule.specs.World.{World, VenueParts, venue_in}
use Rattle.schedule.specs.Happening.{with_venue, may_connect, connected_world, called_world, closed_world, connects, act_of, acted_world, happens}
use Rattle.sweep_release.specs.Desk.{shut}
use Rattle.venue_replay.specs.Ending.{refusal_of}
use Rattle.venue_replay.specs.AtVenue.{sent, called, acted}
use Rattle.venue_replay.proofs.ExchangeActs.{act_in_live, acted_is}
use Rattle.venue_replay.proofs.WorldAfter.{at_there, is_there, with_same, connected_is, called_is}

-- what happens at a venue by its index, where that was not for lack of memory
pub at_index : {T E : Type 0} (w : World) (i v : ℕ) (before now : VenueParts) (Now : Type 0) (e : Event)
    (result : Result T E) → i ≡ v → v < length w.venues → before ≡ get_or w.venues i before → OnOk result Now
    → (venue_in w v ≡ Some before → Now → with_venue w v now ≡ happens w e)
    → OnOk result (with_venue w i now ≡ happens w e)
at_index w i v before now Now e (Ok done) same low is becomes so =
    (λ k. with_venue w (same k) now) ∙ so (is_there w.venues i v before same low is) becomes
at_index w i v before now Now e (Err fault) same low is becomes so = tt

-- a test that holds
pub chosen_true : {A : Type 0} (b : Bool) (x y : A) → b ≡ true → (if b then x else y) ≡ x
chosen_true b x y is = ap (λ (t : Bool). if t then x else y) is

-- the session was called
pub quiet_happens : (w : World) (v : ℕ) (before now : VenueParts) → venue_in w v ≡ Some before
    → now ≡ called before (quiet before.session)
    → with_venue w v now ≡ happens w (event.Quiet v)
quiet_happens w v before now there is =
    ap (with_venue w v) is
    ∙ (called_is w v before (IsCall before.session) (quiet before.session) there (quiet_keeps before.session)
    ∙ sym (at_there w v before (λ venue. called_world w v venue (quiet venue.session)) there))

pub silent_happens : (w : World) (v : ℕ) (before now : VenueParts) → venue_in w v ≡ Some before
    → now ≡ called before (silent before.session)
    → with_venue w v now ≡ happens w (event.Silent v)
silent_happens w v before now there is =
    ap (with_venue w v) is
    ∙ (called_is w v before (IsCall before.session) (silent before.session) there (silent_keeps before.session)
    ∙ sym (at_there w v before (λ venue. called_world w v venue (silent venue.session)) there))

-- the session connects, or may not
pub connect_happens : (w : World) (v : ℕ) (before now : VenueParts) → venue_in w v ≡ Some before
    → may_connect w.desk v ≡ true
    → now ≡ sent before (connect before.session)
    → with_venue w v now ≡ happens w (event.Connect v)
connect_happens w v before now there may is =
    ap (with_venue w v) is
    ∙ (connected_is w v before _ (connect before.session) there (connect_keeps before.session)
    ∙ (sym (chosen_true (may_connect w.desk v) (connected_world w v before (connect before.session)) w may)
    ∙ sym (at_there w v before (connects w v) there)))

-- the session's close is refused
closes_not : (w : World) (v : ℕ) (before : VenueParts) (answer : SessionAnswer StepParts) → venue_in w v ≡ Some before
    → OrUnchanged before.session (IsCall before.session) answer
    → is_ok answer.0 ≡ false
    → with_venue w v (called before answer) ≡ closed_world w v before answer
closes_not w v before (Ok step, session) there keeps ok = absurd cc
closes_not w v before (Err fault, session) there keeps ok =
    (λ k. with_venue w v (record before { session = keeps k })) ∙ with_same w v before there

not_ok : {X F After : Type 0} (answer : Result X F × After) (fault : F) → Some fault ≡ refusal_of answer
    → is_ok answer.0 ≡ false
not_ok (Ok said, after) fault is = absurd cc
not_ok (Err refused, after) fault is = refl

pub close_refused : (w : World) (v : ℕ) (before now : VenueParts) (fault : SessionFault) → venue_in w v ≡ Some before
    → Some fault ≡ refusal_of (close before.session)
    → now ≡ called before (close before.session)
    → with_venue w v now ≡ happens w (event.Close v)
close_refused w v before now fault there refused is =
    ap (with_venue w v) is
    ∙ (closes_not w v before (close before.session) there (close_keeps before.session)
    (not_ok (close before.session) fault refused)
    ∙ sym (at_there w v before (λ venue. closed_world w v venue (close venue.session)) there))

-- and where it isn't, the gate is shut
closes : (w : World) (v : ℕ) (before : VenueParts) (answer : SessionAnswer StepParts) → None ≡ refusal_of answer
    → with_venue (record w { desk = shut w.desk v }) v (called before answer) ≡ closed_world w v before answer
closes w v before (Ok step, session) not_refused = refl
closes w v before (Err fault, session) not_refused = absurd cc

pub close_happens : (w : World) (v : ℕ) (before now : VenueParts) → venue_in w v ≡ Some before
    → None ≡ refusal_of (close before.session)
    → now ≡ called before (close before.session)
    → with_venue (record w { desk = shut w.desk v }) v now ≡ happens w (event.Close v)
close_happens w v before now there not_refused is =
    ap (with_venue (record w { desk = shut w.desk v }) v) is
    ∙ (closes w v before (close before.session) not_refused
    ∙ sym (at_there w v before (λ venue. closed_world w v venue (close venue.session)) there))

-- the exchange acts
pub act_happens : (w : World) (v : ℕ) (before now : VenueParts) (a : Act) → venue_in w v ≡ Some before
    → now ≡ acted before (act_of a before.exchange)
    → with_venue w v now ≡ happens w (event.Act v a)
act_happens w v before now a there is =
    ap (with_venue w v) is
    ∙ (acted_is w v before (act_of a before.exchange) there (act_in_live a before.exchange)
    ∙ sym (at_there w v before (λ venue. acted_world w v venue (act_of a venue.exchange)) there))
