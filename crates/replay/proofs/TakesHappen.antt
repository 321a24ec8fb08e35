-- A leg that is taken and sent, as an event of the world.
use Rattle.std.proofs.Common.{◌≡◌, ℕ, Bool, true, false, List, [], ◌∷◌, length, Option, Some, None, Ok, Err, refl, sym, ap, ◌∙◌, if◌then◌else◌}
use Rattle.std.specs.Prelude.{slice_set}
use Rattle.std.specs.Option.{option_map_or}
use Rattle.std.proofs.lemmas.List.{length-set}
use Rattle.leg.specs.LegId.{LegIdParts}
use Rattle.leg.specs.declared.leg.Leg.{Leg}
use Rattle.leg.specs.declared.placed_leg.PlacedLeg.{PlacedLeg}
use Rattle.dialect.specs.declared.message.Message.{Message}
use Rattle.session_core.specs.declared.session_fault.SessionFault.{SessionFault}
use Rattle.session_core.specs.declared.session_fault.SessionFault.TheVariants as fault
use Rattle.session_core.specs.Session.{SessionParts}
use Rattle.session_core.specs.Calling.{SessionAnswer, send_leg}
use Rattle.session_core.specs.Onward.{OrUnchanged, SendsLeg}
use Rattle.session_core.proofs.Called.{send_leg_keeps}
use Rattle.share_ledger.specs.Book.{withdraw}
use Rattle.sweep_release.specs.Desk.{DeskParts, gate_of, is_up, placed_legs, one_left, leave_first, leave}
use Rattle.sweep_release.specs.Desk as desk
use Rattle.schedule.specs.declared.event.Event.TheVariants as event
use Rattle.schedule.specs.World.{World, VenueParts, venue_in}
use Rattle.schedule.specs.Happening.{with_venue, is_session_up, sent_world, taken_world, takes, happens}
use Rattle.venue_replay.specs.declared.sending.Sending.{Sending}
use Rattle.venue_replay.specs.declared.sending.Sending.TheVariants.{Sent, NumbersSpent, Refused}
use Rattle.venue_replay.specs.AtVenue.{sent}
use Rattle.venue_replay.specs.Ending.{refusal_of}
use Rattle.venue_replay.specs.Taking.{leg_to_send, outcome_of}
use Rattle.replay.specs.declared.event_outcome.EventOutcome.{EventOutcome}
use Rattle.replay.specs.Telling.{by_session, nothing_told, told, told_of_leg}
use Rattle.replay.proofs.Tells.{told_here}
use Rattle.venue_replay.proofs.WorldAfter.{at_there, with_same}

-- which leg can be sent at a venue that is there
abbrev to_send : World → ℕ → VenueParts → Option PlacedLeg
to_send w v venue = if is_session_up venue.session.phase then (desk.take w.desk v).0 else None

to_send_there : (w : World) (v : ℕ) (venue : VenueParts) → venue_in w v ≡ Some venue → leg_to_send w v ≡ to_send w v venue
to_send_there w v venue there = ap (λ (o : Option VenueParts). option_map_or (to_send w v) o None) there

takes_some : (w : World) (v : ℕ) (venue : VenueParts) (up : Bool) (left : Option PlacedLeg × DeskParts) (placed : PlacedLeg)
    → (if up then left.0 else None) ≡ Some placed
    → sent_world w left.1 v venue placed.leg.id (send_leg venue.session placed.ordinal placed.leg)
    ≡ (if up then taken_world w v venue left else w)
takes_some w v venue true (None, d) placed is = absurd cc
takes_some w v venue true (Some next, d) placed is =
    let same : placed ≡ next = cc in
    ap (λ (p : PlacedLeg). sent_world w d v venue p.leg.id (send_leg venue.session p.ordinal p.leg)) same
takes_some w v venue false left placed is = absurd cc

-- by what became of the leg
sent_is : (w : World) (d : DeskParts) (v : ℕ) (venue : VenueParts) (id : LegIdParts) (answer : SessionAnswer Message)
    → Sent ≡ outcome_of answer
    → with_venue (record w { desk = d }) v (sent venue answer) ≡ sent_world w d v venue id answer
sent_is w d v venue id (Ok message, session) is = refl
sent_is w d v venue id (Err fault.NotDown, session) is = absurd cc
sent_is w d v venue id (Err fault.Closed, session) is = absurd cc
sent_is w d v venue id (Err fault.NumbersSpent, session) is = absurd cc
sent_is w d v venue id (Err fault.OutOfMemory, session) is = absurd cc
sent_is w d v venue id (Err fault.NotUp, session) is = absurd cc
sent_is w d v venue id (Err fault.OrdinalNotGreater, session) is = absurd cc
sent_is w d v venue id (Err fault.NotConnected, session) is = absurd cc

spent_is : (w : World) (d : DeskParts) (v : ℕ) (venue : VenueParts) (id : LegIdParts) (answer : SessionAnswer Message)
    (Does : Message → SessionParts → Type 0) → NumbersSpent ≡ outcome_of answer → OrUnchanged venue.session Does answer
    → venue_in w v ≡ Some venue
    → with_venue (record w { desk = d; book = (withdraw w.book id).1 }) v (sent venue answer) ≡ sent_world w d v venue id answer
spent_is w d v venue id (Ok message, session) Does is keeps there = absurd cc
spent_is w d v venue id (Err fault.NumbersSpent, session) Does is keeps there =
    let after : World = record w { desk = d; book = (withdraw w.book id).1 } in
    (λ k. with_venue after v (record venue { session = keeps k })) ∙ with_same after v venue there
spent_is w d v venue id (Err fault.NotDown, session) Does is keeps there = absurd cc
spent_is w d v venue id (Err fault.Closed, session) Does is keeps there = absurd cc
spent_is w d v venue id (Err fault.OutOfMemory, session) Does is keeps there = absurd cc
spent_is w d v venue id (Err fault.NotUp, session) Does is keeps there = absurd cc
spent_is w d v venue id (Err fault.OrdinalNotGreater, session) Does is keeps there = absurd cc
spent_is w d v venue id (Err fault.NotConnected, session) Does is keeps there = absurd cc

unsent : (w : World) (v : ℕ) (venue : VenueParts) (session : SessionParts) → session ≡ venue.session → venue_in w v ≡ Some venue
    → with_venue w v (record venue { session = session }) ≡ w
unsent w v venue session same there = (λ k. with_venue w v (record venue { session = same k })) ∙ with_same w v venue there

refused_is : (w : World) (d : DeskParts) (v : ℕ) (venue : VenueParts) (id : LegIdParts) (answer : SessionAnswer Message)
    (Does : Message → SessionParts → Type 0) (why : SessionFault) → Refused why ≡ outcome_of answer → OrUnchanged venue.session Does answer
    → venue_in w v ≡ Some venue
    → with_venue w v (sent venue answer) ≡ sent_world w d v venue id answer
refused_is w d v venue id (Ok message, session) Does why is keeps there = absurd cc
refused_is w d v venue id (Err fault.NumbersSpent, session) Does why is keeps there = absurd cc
refused_is w d v venue id (Err fault.NotDown, session) Does why is keeps there = unsent w v venue session keeps there
refused_is w d v venue id (Err fault.Closed, session) Does why is keeps there = unsent w v venue session keeps there
refused_is w d v venue id (Err fault.OutOfMemory, session) Does why is keeps there = unsent w v venue session keeps there
refused_is w d v venue id (Err fault.NotUp, session) Does why is keeps there = unsent w v venue session keeps there
refused_is w d v venue id (Err fault.OrdinalNotGreater, session) Does why is keeps there = unsent w v venue session keeps there
refused_is w d v venue id (Err fault.NotConnected, session) Does why is keeps there = unsent w v venue session keeps there

-- the desk keeps its venues
one_left_count : (v : ℕ) (d : DeskParts) → length (one_left v d).venues ≡ length d.venues
one_left_count v d = length-set d.venues v _

leave_count : (legs : List Leg) (d : DeskParts) (v : ℕ) → length (leave_first legs d v).1.venues ≡ length d.venues
leave_count [] d v = refl
leave_count (leg ∷ legs) d v = one_left_count v d

take_count : (d : DeskParts) (v : ℕ) (up : Bool)
    → length (if up then leave d v else (None, d)).1.venues ≡ length d.venues
take_count d v true = leave_count (placed_legs d v) d v
take_count d v false = refl

pub taken_apart : (w : World) (d : DeskParts) (i v : ℕ) (now : VenueParts) → length w.desk.venues ≡ length w.venues
    → d ≡ (desk.take w.desk v).1
    → length d.venues ≡ length (slice_set w.venues i now)
taken_apart w d i v now one_each is =
    ap (λ (one : DeskParts). length one.venues) is
    ∙ (take_count w.desk v (is_up (gate_of w.desk v)) ∙ (one_each ∙ sym (length-set w.venues i now)))

-- a leg was to be sent
module _ (w : World) (v : ℕ) (before now : VenueParts) (placed : PlacedLeg) (there : venue_in w v ≡ Some before) (next : leg_to_send w v ≡ Some placed) (is : now ≡ sent before (send_leg before.session placed.ordinal placed.leg)) where
  then_happens : sent_world w (desk.take w.desk v).1 v before placed.leg.id (send_leg before.session placed.ordinal placed.leg) ≡ happens w (event.Take v)
  then_happens =
      takes_some w v before (is_session_up before.session.phase) (desk.take w.desk v) placed (sym (to_send_there w v before there) ∙ next)
      ∙ sym (at_there w v before (takes w v) there)

  pub take_sent : Sent ≡ outcome_of (send_leg before.session placed.ordinal placed.leg)
      → with_venue (record w { desk = (desk.take w.desk v).1 }) v now ≡ happens w (event.Take v)
  take_sent outcome =
      ap (with_venue (record w { desk = (desk.take w.desk v).1 }) v) is
      ∙ (sent_is w (desk.take w.desk v).1 v before placed.leg.id (send_leg before.session placed.ordinal placed.leg) outcome ∙ then_happens)

  pub take_spent : NumbersSpent ≡ outcome_of (send_leg before.session placed.ordinal placed.leg)
      → with_venue (record w { desk = (desk.take w.desk v).1; book = (withdraw w.book placed.leg.id).1 }) v now ≡ happens w (event.Take v)
  take_spent outcome =
      ap (with_venue (record w { desk = (desk.take w.desk v).1; book = (withdraw w.book placed.leg.id).1 }) v) is
      ∙ (spent_is w (desk.take w.desk v).1 v before placed.leg.id (send_leg before.session placed.ordinal placed.leg)
      (SendsLeg before.session placed.ordinal placed.leg) outcome (send_leg_keeps before.session placed.ordinal placed.leg) there
      ∙ then_happens)

  pub take_refused : (why : SessionFault) → Refused why ≡ outcome_of (send_leg before.session placed.ordinal placed.leg)
      → with_venue w v now ≡ happens w (event.Take v)
  take_refused why outcome =
      ap (with_venue w v) is
      ∙ (refused_is w (desk.take w.desk v).1 v before placed.leg.id (send_leg before.session placed.ordinal placed.leg)
      (SendsLeg before.session placed.ordinal placed.leg) why outcome (send_leg_keeps before.session placed.ordinal placed.leg) there
      ∙ then_happens)

-- what is told of it, by what became of it
abbrev refusal_in : Sending → Option SessionFault
refusal_in Sent = None
refusal_in NumbersSpent = Some fault.NumbersSpent
refusal_in (Refused why) = Some why

refused_in : (answer : SessionAnswer Message) → refusal_in (outcome_of answer) ≡ refusal_of answer
refused_in (Ok message, session) = refl
refused_in (Err fault.NotDown, session) = refl
refused_in (Err fault.Closed, session) = refl
refused_in (Err fault.NumbersSpent, session) = refl
refused_in (Err fault.OutOfMemory, session) = refl
refused_in (Err fault.NotUp, session) = refl
refused_in (Err fault.OrdinalNotGreater, session) = refl
refused_in (Err fault.NotConnected, session) = refl

pub told_of_sending : (w : World) (v : ℕ) (before : VenueParts) (placed : PlacedLeg) → venue_in w v ≡ Some before
    → leg_to_send w v ≡ Some placed
    → (outcome : Sending) → outcome ≡ outcome_of (send_leg before.session placed.ordinal placed.leg)
    → by_session (refusal_in outcome) ≡ told w (event.Take v)
told_of_sending w v before placed there next outcome is =
    ap (λ (one : Sending). by_session (refusal_in one)) is
    ∙ (ap by_session (refused_in (send_leg before.session placed.ordinal placed.leg))
    ∙ (sym (ap (told_of_leg before) next)
    ∙ told_here w v before (λ venue. told_of_leg venue (leg_to_send w v)) there))
