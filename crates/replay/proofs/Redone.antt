-- A deed that is done again at a venue: what its call makes of the venue is what the definition says.
use Rattle.std.proofs.Common.{◌≡◌, ◌==◌, ◌&&◌, ◌+◌, ◌<◌, ℕ, suc, Bool, true, false, List, [], ◌∷◌, length, take, get_or, Option, Some, None, Ok, Err, refl, sym, ap, subst, ◌∙◌, if◌then◌else◌, arith}
use Rattle.std.specs.Option.{option_map, is_none}
use Rattle.std.proofs.Math.Seq.{take-suc}
use Rattle.leg.specs.Numbered.{numbered}
use Rattle.leg.specs.declared.placed_leg.PlacedLeg.{PlacedLeg}
use Rattle.dialect.specs.declared.message.Message.{Message}
use Rattle.dialect.specs.declared.note.Note.{Note}
use Rattle.session_core.specs.declared.session_fault.SessionFault.{SessionFault}
use Rattle.session_core.specs.declared.session_fault.SessionFault.TheVariants as fault
use Rattle.session_core.specs.Session.{SessionParts, is_connected}
use Rattle.session_core.specs.Turn.{StepParts, Turn}
use Rattle.session_core.specs.Receiving.{receive}
use Rattle.session_core.specs.Calling.{SessionAnswer, connect, send_leg, quiet, silent, close}
use Rattle.session_core.specs.Onward.{OrUnchanged}
use Rattle.session_core.proofs.Called.{connect_keeps, quiet_keeps, silent_keeps, close_keeps, send_leg_keeps}
use Rattle.schedule.specs.World.{VenueParts, Frame}
use Rattle.venue_replay.specs.declared.inbound.Inbound.{Inbound}
use Rattle.venue_replay.specs.declared.sending.Sending.{Sending}
use Rattle.venue_replay.specs.declared.sending.Sending.TheVariants.{Sent, NumbersSpent, Refused}
use Rattle.venue_replay.specs.AtVenue.{sent, called}
use Rattle.venue_replay.specs.Ending.{refusal_of}
use Rattle.venue_replay.specs.Hearing.{turn_on, heard, inbound_of, confirmed}
use Rattle.venue_replay.specs.Taking.{outcome_of}
use Rattle.world_restart.specs.Journal.{Standing}
use Rattle.world_restart.specs.Deeds.Deed.{Nothing, Received}
use Rattle.world_restart.specs.Deeds.{said_again, called_again, closed_again, sent_again, sent_deed, frame_deed, again}
use Rattle.replay.specs.declared.deed.Deed.{Deed}
use Rattle.replay.specs.declared.mark.Mark.{Mark}
use Rattle.replay.specs.Redoing.{redo, redo_all, standing_by, stood}
use Rattle.replay.proofs.JournalLines.{redo_more}

-- what became of a venue, and of how far the desk is with it
pub record IsRedone (before : VenueParts) (now : VenueParts) (after : Mark) (s : Standing) : Type 0 where
  pub venue : now ≡ stood before s
  pub mark : standing_by after now ≡ s

refused_redone : (venue : VenueParts) (mark : Mark) (session : SessionParts) → session ≡ venue.session
    → IsRedone venue (record venue { session = session }) mark (standing_by mark venue)
refused_redone venue mark session keeps = record {
  venue = λ i. record venue { session = keeps i };
  mark = λ i. record (standing_by mark venue) { session = keeps i };
}

-- the session is called
said_redone : (venue : VenueParts) (mark : Mark) (Does : Message → SessionParts → Type 0)
    (answer : SessionAnswer Message) → OrUnchanged venue.session Does answer
    → IsRedone venue (sent venue answer) mark (said_again (standing_by mark venue) answer)
said_redone venue mark Does (Ok message, session) keeps = record { venue = refl; mark = refl }
said_redone venue mark Does (Err fault, session) keeps = refused_redone venue mark session keeps

called_redone : (venue : VenueParts) (mark : Mark) (Does : StepParts → SessionParts → Type 0)
    (answer : SessionAnswer StepParts) → OrUnchanged venue.session Does answer
    → IsRedone venue (called venue answer) mark (called_again (standing_by mark venue) answer)
called_redone venue mark Does (Ok step, session) keeps = record { venue = refl; mark = refl }
called_redone venue mark Does (Err fault, session) keeps = refused_redone venue mark session keeps

closed_redone : (venue : VenueParts) (mark : Mark) (Does : StepParts → SessionParts → Type 0)
    (answer : SessionAnswer StepParts) → OrUnchanged venue.session Does answer → None ≡ refusal_of answer
    → IsRedone venue (called venue answer) (record mark { is_shut = true })
    (closed_again (standing_by mark venue) answer)
closed_redone venue mark Does (Ok step, session) keeps is = record { venue = refl; mark = refl }
closed_redone venue mark Does (Err fault, session) keeps is = absurd cc

unclosed_redone : (venue : VenueParts) (mark : Mark) (Does : StepParts → SessionParts → Type 0)
    (answer : SessionAnswer StepParts) (why : SessionFault) → OrUnchanged venue.session Does answer
    → Some why ≡ refusal_of answer
    → IsRedone venue (called venue answer) mark (closed_again (standing_by mark venue) answer)
unclosed_redone venue mark Does (Ok step, session) why keeps is = absurd cc
unclosed_redone venue mark Does (Err fault, session) why keeps is = refused_redone venue mark session keeps

module _ (venue now : VenueParts) (mark : Mark) where
  pub connect_redone : now ≡ sent venue (connect venue.session)
      → IsRedone venue now mark (said_again (standing_by mark venue) (connect venue.session))
  connect_redone is =
      subst (λ (at : VenueParts). IsRedone venue at mark (said_again (standing_by mark venue) (connect venue.session)))
      (sym is) (said_redone venue mark _ (connect venue.session) (connect_keeps venue.session))

  pub quiet_redone : now ≡ called venue (quiet venue.session)
      → IsRedone venue now mark (called_again (standing_by mark venue) (quiet venue.session))
  quiet_redone is =
      subst (λ (at : VenueParts). IsRedone venue at mark (called_again (standing_by mark venue) (quiet venue.session)))
      (sym is) (called_redone venue mark _ (quiet venue.session) (quiet_keeps venue.session))

  pub silent_redone : now ≡ called venue (silent venue.session)
      → IsRedone venue now mark (called_again (standing_by mark venue) (silent venue.session))
  silent_redone is =
      subst (λ (at : VenueParts). IsRedone venue at mark (called_again (standing_by mark venue) (silent venue.session)))
      (sym is) (called_redone venue mark _ (silent venue.session) (silent_keeps venue.session))

  pub close_redone : (refused : Option SessionFault) → now ≡ called venue (close venue.session)
      → refused ≡ refusal_of (close venue.session) → is_none refused ≡ true
      → IsRedone venue now (record mark { is_shut = true })
      (closed_again (standing_by mark venue) (close venue.session))
  close_redone None is said none =
      subst (λ (at : VenueParts). IsRedone venue at (record mark { is_shut = true })
      (closed_again (standing_by mark venue) (close venue.session)))
      (sym is) (closed_redone venue mark _ (close venue.session) (close_keeps venue.session) said)
  close_redone (Some why) is said none = absurd cc

  pub close_refused : (refused : Option SessionFault) → now ≡ called venue (close venue.session)
      → refused ≡ refusal_of (close venue.session) → is_none refused ≡ false
      → IsRedone venue now mark (closed_again (standing_by mark venue) (close venue.session))
  close_refused None is said none = absurd cc
  close_refused (Some why) is said none =
      subst (λ (at : VenueParts). IsRedone venue at mark (closed_again (standing_by mark venue) (close venue.session)))
      (sym is) (unclosed_redone venue mark _ (close venue.session) why (close_keeps venue.session) said)

-- a leg is handed to the session
abbrev one_more : Mark → Mark
one_more mark = record mark { since = mark.since + 1 }

plus_one : (mark : Mark) → mark.started + (mark.since + 1) ≡ mark.started + mark.since + 1
plus_one mark = omega arith

module _ (venue : VenueParts) (mark : Mark) (placed : PlacedLeg) (Does : Message → SessionParts → Type 0) where
  abbrev s : Standing
  s = standing_by mark venue

  sent_redone : (answer : SessionAnswer Message) → send_leg venue.session placed.ordinal placed.leg ≡ answer
      → OrUnchanged venue.session Does answer → Sent ≡ outcome_of answer
      → IsRedone venue (sent venue answer) (one_more mark) (again (standing_by mark venue) (sent_deed placed answer))
  sent_redone (Ok message, session) is keeps out =
      let back = sym (ap (sent_again (standing_by mark venue)) is) in
      record {
        venue = ap (stood venue) back;
        mark =
            (λ i. record (standing_by mark (sent venue (Ok message, session))) { left = plus_one mark i }) ∙ back;
      }
  sent_redone (Err fault.NotDown, session) is keeps out = absurd cc
  sent_redone (Err fault.Closed, session) is keeps out = absurd cc
  sent_redone (Err fault.NumbersSpent, session) is keeps out = absurd cc
  sent_redone (Err fault.OutOfMemory, session) is keeps out = absurd cc
  sent_redone (Err fault.NotUp, session) is keeps out = absurd cc
  sent_redone (Err fault.OrdinalNotGreater, session) is keeps out = absurd cc
  sent_redone (Err fault.NotConnected, session) is keeps out = absurd cc

  spent_redone : (answer : SessionAnswer Message) → OrUnchanged venue.session Does answer
      → NumbersSpent ≡ outcome_of answer
      → IsRedone venue (sent venue answer) (one_more mark) (again (standing_by mark venue) (sent_deed placed answer))
  spent_redone (Ok message, session) keeps out = absurd cc
  spent_redone (Err fault.NumbersSpent, session) keeps out = record {
    venue = λ i. record venue { session = keeps i };
    mark = λ i. record (standing_by mark venue) { left = plus_one mark i; session = keeps i };
  }
  spent_redone (Err fault.NotDown, session) keeps out = absurd cc
  spent_redone (Err fault.Closed, session) keeps out = absurd cc
  spent_redone (Err fault.OutOfMemory, session) keeps out = absurd cc
  spent_redone (Err fault.NotUp, session) keeps out = absurd cc
  spent_redone (Err fault.OrdinalNotGreater, session) keeps out = absurd cc
  spent_redone (Err fault.NotConnected, session) keeps out = absurd cc

  unsent_redone : (answer : SessionAnswer Message) (why : SessionFault) → OrUnchanged venue.session Does answer
      → Refused why ≡ outcome_of answer
      → IsRedone venue (sent venue answer) mark (again (standing_by mark venue) (sent_deed placed answer))
  unsent_redone (Ok message, session) why keeps out = absurd cc
  unsent_redone (Err fault.NumbersSpent, session) why keeps out = absurd cc
  unsent_redone (Err fault.NotDown, session) why keeps out = refused_redone venue mark session keeps
  unsent_redone (Err fault.Closed, session) why keeps out = refused_redone venue mark session keeps
  unsent_redone (Err fault.OutOfMemory, session) why keeps out = refused_redone venue mark session keeps
  unsent_redone (Err fault.NotUp, session) why keeps out = refused_redone venue mark session keeps
  unsent_redone (Err fault.OrdinalNotGreater, session) why keeps out = refused_redone venue mark session keeps
  unsent_redone (Err fault.NotConnected, session) why keeps out = refused_redone venue mark session keeps

-- by what became of the leg
abbrev pub mark_after : Sending → Mark → Mark
mark_after Sent mark = record mark { since = mark.since + 1 }
mark_after NumbersSpent mark = record mark { since = mark.since + 1 }
mark_after (Refused why) mark = mark

taken_by : (venue : VenueParts) (mark : Mark) (placed : PlacedLeg) (out : Sending)
    → out ≡ outcome_of (send_leg venue.session placed.ordinal placed.leg)
    → IsRedone venue (sent venue (send_leg venue.session placed.ordinal placed.leg)) (mark_after out mark)
    (again (standing_by mark venue) (sent_deed placed (send_leg venue.session placed.ordinal placed.leg)))
taken_by venue mark placed Sent said =
    sent_redone venue mark placed _ (send_leg venue.session placed.ordinal placed.leg) refl
    (send_leg_keeps venue.session placed.ordinal placed.leg) said
taken_by venue mark placed NumbersSpent said =
    spent_redone venue mark placed _ (send_leg venue.session placed.ordinal placed.leg)
    (send_leg_keeps venue.session placed.ordinal placed.leg) said
taken_by venue mark placed (Refused why) said =
    unsent_redone venue mark placed _ (send_leg venue.session placed.ordinal placed.leg) why
    (send_leg_keeps venue.session placed.ordinal placed.leg) said

pub take_redone : (venue now : VenueParts) (mark : Mark) (placed : PlacedLeg) (out : Sending)
    → now ≡ sent venue (send_leg venue.session placed.ordinal placed.leg)
    → out ≡ outcome_of (send_leg venue.session placed.ordinal placed.leg)
    → IsRedone venue now (mark_after out mark)
    (again (standing_by mark venue) (sent_deed placed (send_leg venue.session placed.ordinal placed.leg)))
take_redone venue now mark placed out is said =
    subst (λ (at : VenueParts). IsRedone venue at (mark_after out mark)
    (again (standing_by mark venue) (sent_deed placed (send_leg venue.session placed.ordinal placed.leg)))) (sym is)
    (taken_by venue mark placed out said)

-- a frame comes to the session
unheard_by : (b : Bool) (venue : VenueParts) (mark : Mark) (message : Message) (turn : Turn)
    → None ≡ option_map inbound_of (if b then Some turn else None)
    → IsRedone venue (heard venue (if b then Some turn else None)) mark
    (again (standing_by mark venue) (if b then Received message else Nothing))
unheard_by true venue mark message turn is = absurd cc
unheard_by false venue mark message turn is = record { venue = refl; mark = refl }

unheard : (venue : VenueParts) (mark : Mark) (frame : Option Frame)
    → None ≡ option_map inbound_of (turn_on venue frame)
    → IsRedone venue (heard venue (turn_on venue frame)) mark
    (again (standing_by mark venue) (frame_deed venue.session frame))
unheard venue mark None is = record { venue = refl; mark = refl }
unheard venue mark (Some frame) is =
    unheard_by (is_connected venue.session.phase && frame.connection == venue.session.connection) venue mark
    frame.message (receive venue.session frame.message) is

noted_by : (b : Bool) (venue : VenueParts) (mark : Mark) (message : Message) (inbound : Inbound)
    → Some inbound ≡ option_map inbound_of (if b then Some (receive venue.session message) else None)
    → IsRedone venue (confirmed (heard venue (if b then Some (receive venue.session message) else None)) inbound.note)
    mark (again (standing_by mark venue) (if b then Received message else Nothing))
noted_by true venue mark message inbound is =
    let turn = receive venue.session message in
    let same : inbound ≡ inbound_of turn = cc in
    subst (λ (i : Inbound). IsRedone venue (confirmed (heard venue (Some turn)) i.note) mark
    (again (standing_by mark venue) (Received message))) (sym same) (record { venue = refl; mark = refl })
noted_by false venue mark message inbound is = absurd cc

heard_noted : (venue : VenueParts) (mark : Mark) (frame : Option Frame) (inbound : Inbound)
    → Some inbound ≡ option_map inbound_of (turn_on venue frame)
    → IsRedone venue (confirmed (heard venue (turn_on venue frame)) inbound.note) mark
    (again (standing_by mark venue) (frame_deed venue.session frame))
heard_noted venue mark None inbound is = absurd cc
heard_noted venue mark (Some frame) inbound is =
    noted_by (is_connected venue.session.phase && frame.connection == venue.session.connection) venue mark
    frame.message inbound is

pub unheard_redone : (venue now : VenueParts) (mark : Mark) (n : ℕ)
    → now ≡ heard venue (turn_on venue (numbered n venue.from_exchange))
    → None ≡ option_map inbound_of (turn_on venue (numbered n venue.from_exchange))
    → IsRedone venue now mark
    (again (standing_by mark venue) (frame_deed venue.session (numbered n venue.from_exchange)))
unheard_redone venue now mark n is said =
    subst (λ (at : VenueParts). IsRedone venue at mark
    (again (standing_by mark venue) (frame_deed venue.session (numbered n venue.from_exchange)))) (sym is)
    (unheard venue mark (numbered n venue.from_exchange) said)

pub heard_redone : (venue mid now : VenueParts) (mark : Mark) (n : ℕ) (inbound : Inbound)
    → mid ≡ heard venue (turn_on venue (numbered n venue.from_exchange))
    → Some inbound ≡ option_map inbound_of (turn_on venue (numbered n venue.from_exchange))
    → now ≡ confirmed mid inbound.note
    → IsRedone venue now mark
    (again (standing_by mark venue) (frame_deed venue.session (numbered n venue.from_exchange)))
heard_redone venue mid now mark n inbound hears said is =
    subst (λ (at : VenueParts). IsRedone venue at mark
    (again (standing_by mark venue) (frame_deed venue.session (numbered n venue.from_exchange))))
    (sym (is ∙ ap (λ (at : VenueParts). confirmed at inbound.note) hears))
    (heard_noted venue mark (numbered n venue.from_exchange) inbound said)

-- one deed more
pub next_redone : (old before now : VenueParts) (mark after : Mark) (start : Standing) (deeds : List Deed) (i : ℕ)
    (d : Deed) → i < length deeds → d ≡ get_or deeds i d
    → before ≡ stood old (redo_all old.from_exchange start (take i deeds))
    → standing_by mark before ≡ redo_all old.from_exchange start (take i deeds)
    → now ≡ stood before (redo before.from_exchange (standing_by mark before) d)
    → standing_by after now ≡ redo before.from_exchange (standing_by mark before) d
    → (now ≡ stood old (redo_all old.from_exchange start (take (i + 1) deeds)))
    × (standing_by after now ≡ redo_all old.from_exchange start (take (i + 1) deeds))
next_redone old before now mark after start deeds i d low is was stands so marks =
    let one : i + 1 ≡ suc i = omega arith in
    let frames : before.from_exchange ≡ old.from_exchange = ap (λ (at : VenueParts). at.from_exchange) was in
    let further : redo_all old.from_exchange start (take (i + 1) deeds)
    ≡ redo old.from_exchange (redo_all old.from_exchange start (take i deeds)) d =
    ap (λ n. redo_all old.from_exchange start (take n deeds)) one
    ∙ (ap (redo_all old.from_exchange start) (take-suc deeds i d low)
    ∙ (redo_more old.from_exchange start (take i deeds) (get_or deeds i d)
    ∙ ap (redo old.from_exchange (redo_all old.from_exchange start (take i deeds))) (sym is))) in
    let made : redo before.from_exchange (standing_by mark before) d
    ≡ redo_all old.from_exchange start (take (i + 1) deeds) =
    (λ k. redo (frames k) (stands k) d) ∙ sym further in (
      so ∙ ((λ k. stood (was k) (made k))),
      marks ∙ made,
    )
