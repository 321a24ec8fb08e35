-- Why the other rules of the journal are there: runs, computed, in each of which a start breaks one of them. The
-- journal has a gap, or hasn't a release; a withdrawal is lost; the book keeps what the journal hasn't; or the session
-- begins anew, counts what isn't in the book, or counts its connections anew.
use Rattle.std.specs.Prelude.{◌≡◌, List, [], ◌∷◌, ◌++◌, Some, None}
use Rattle.leg.specs.declared.leg_state.LegState.TheVariants.{Doubt}
use Rattle.resend.specs.Log.Entry.{Admin, Sent}
use Rattle.session_core.specs.declared.phase.Phase.TheVariants.{Down}
use Rattle.session_core.specs.Session.{new_session, leg_state}
use Rattle.session_core.specs.Calling.{doubted}
use Rattle.session_core.specs.Example.{config}
use Rattle.venue_line.specs.Line.{Line, new_line, AreSteps}
use Rattle.venue_line.specs.LineTheorem.{IsWithdrawnLeg, LineHolds}
use Rattle.venue_line.specs.Worked.{first, second, logon, fence, answer, order, asks, standing, connecting, sending, receiving, exchanging, two, four, till_up}
use Rattle.line_restart.specs.Lives.{restarted, Life, AreLives}
use Rattle.line_restart.specs.OverRestarts.{NeverAccepted, StaysWithdrawn}
use Rattle.line_restart.specs.Example.{connection_of, session_of, legs, up, first_sent, again, booked}
use Rattle.line_restart.specs.UnsafeWire.{IsUnsafe, order_taken, parted, joining, asked_for, settling, withdrawn}

-- a gap: both legs are sent and accepted, and the journal has the call that sent the second one without that of the
-- first
abbrev pub both_sent : Line
both_sent = sending 2 second first_sent

abbrev pub first_taken : Line
first_taken = exchanging (standing 1 4 (first ∷ []) (two ++ None ∷ [])) [] both_sent

abbrev pub both_taken : Line
both_taken = exchanging (standing 1 5 (first ∷ second ∷ []) four) [] first_taken

abbrev pub gap_left : Line
gap_left = restarted (sending 2 second up) both_taken legs 2

pub record IsGapLeft : Type 0 where
  pub steps : AreSteps (new_line config) (till_up legs ++ first_sent ∷ both_sent ∷ first_taken ∷ both_taken ∷ [])
  pub unsafe : LineHolds gap_left → ⊥

-- a release: a leg is sent and accepted, and its release isn't in the journal
abbrev pub release_lost : Line
release_lost = restarted first_sent order_taken [] 1

abbrev pub IsReleaseLost : Type 0
IsReleaseLost = IsUnsafe (till_up legs ++ first_sent ∷ []) (order_taken ∷ []) order_taken release_lost []

-- a drop: the first leg leaves the desk unsent, and so is withdrawn; the dispatcher that is started again sends it, and
-- it is accepted
abbrev pub dropped : Line
dropped = record up { left = 1 }

abbrev pub dropping : Life
dropping = record { start = new_line config; durable = till_up legs; lost = dropped ∷ [] }

abbrev pub drop_lost : Line
drop_lost = record {
  released = legs;
  left = 0;
  session = session_of Down (Admin ∷ Admin ∷ []) 1 (connection_of 1 [] None) 3;
  exchange = standing 1 3 [] two;
  to_exchange = logon 1 1 ∷ fence 1 2 ∷ [];
  from_exchange = logon 1 1 ∷ answer 1 2 2 ∷ [];
  waiting = None;
  given = [];
}

abbrev pub logging_on_again : Line
logging_on_again = connecting drop_lost

abbrev pub logon_taken_again : Line
logon_taken_again = exchanging (standing 2 4 [] (two ++ None ∷ [])) (logon 2 3 ∷ []) logging_on_again

abbrev pub settling_again : Line
settling_again = receiving (logon 2 3) logon_taken_again

abbrev pub fence_taken_again : Line
fence_taken_again = exchanging (standing 2 5 [] four) (answer 2 4 4 ∷ []) settling_again

abbrev pub up_again : Line
up_again = receiving (answer 2 4 4) fence_taken_again

abbrev pub sent_again : Line
sent_again = sending 1 first up_again

abbrev pub accepted_again : Line
accepted_again = exchanging (standing 2 6 (first ∷ []) four) [] sent_again

abbrev pub after_drop : Life
after_drop = record {
  start = drop_lost;
  durable =
      logging_on_again
      ∷ logon_taken_again
      ∷ settling_again
      ∷ fence_taken_again
      ∷ up_again
      ∷ sent_again
      ∷ accepted_again
      ∷ [];
  lost = [];
}

pub record IsDropLost : Type 0 where
  pub lives : AreLives dropping (after_drop ∷ [])
  pub gone : IsWithdrawnLeg dropped 1
  pub unsafe : NeverAccepted dropped accepted_again → ⊥

-- a withdrawal by the session, whose gap fill isn't on the wire: the leg is in doubt again
abbrev pub withdrawal_lost : Line
withdrawal_lost = restarted settling withdrawn legs 1

pub record IsWithdrawalLost : Type 0 where
  pub lives : AreLives
      (record {
        start = new_line config;
        durable = till_up legs ++ first_sent ∷ parted ∷ joining ∷ asked_for ∷ settling ∷ [];
        lost = withdrawn ∷ [];
      })
      (record { start = withdrawal_lost; durable = []; lost = [] } ∷ [])
  pub gone : IsWithdrawnLeg withdrawn 1
  pub doubt : leg_state withdrawal_lost.session 1 ≡ Some Doubt
  pub forgotten : StaysWithdrawn withdrawn withdrawal_lost → ⊥

-- the book: what was booked is kept, though it isn't in the journal, and so would be booked twice
abbrev pub book_ahead : Line
book_ahead = record again { given = booked.given }

abbrev pub IsBookAhead : Type 0
IsBookAhead = LineHolds book_ahead → ⊥

-- the count: the journal's session has counted a report that isn't in its book, and so is never given
abbrev pub count_ahead : Line
count_ahead = record again { session = record again.session { expected = 4 } }

abbrev pub IsCountAhead : Type 0
IsCountAhead = LineHolds count_ahead → ⊥

-- the numbers: the session begins anew, and so takes the leg that it sent, and that was accepted, for one that it never
-- sent
abbrev pub begun_anew : Line
begun_anew = record (restarted order_taken order_taken legs 1) { session = new_session config }

abbrev pub IsBegunAnew : Type 0
IsBegunAnew = LineHolds begun_anew → ⊥

-- the connections: they are counted anew, so that the session's Logon is of a connection which the exchange has had.
-- The exchange doesn't take it, but may write a Logon there, and ask for the order that hasn't come. The session
-- withdraws the leg, and then the order comes
abbrev pub kept_connection : Line
kept_connection = restarted first_sent first_sent legs 1

abbrev pub counted_anew : Line
counted_anew = record {
  released = legs;
  left = 1;
  session = session_of Down (Admin ∷ Admin ∷ Sent (doubted 1 first) ∷ []) 0 (connection_of 1 [] None) 3;
  exchange = standing 1 3 [] two;
  to_exchange = logon 1 1 ∷ fence 1 2 ∷ order 1 3 first ∷ [];
  from_exchange = logon 1 1 ∷ answer 1 2 2 ∷ [];
  waiting = None;
  given = [];
}

abbrev pub counting : Line
counting = connecting counted_anew

abbrev pub asked_early : Line
asked_early = exchanging (standing 1 3 [] four) (logon 1 3 ∷ asks 1 4 3 ∷ []) counting

abbrev pub settling_early : Line
settling_early = receiving (logon 1 3) asked_early

abbrev pub withdrawn_early : Line
withdrawn_early = receiving (asks 1 4 3) settling_early

abbrev pub accepted_late : Line
accepted_late = exchanging (standing 1 4 (first ∷ []) four) [] withdrawn_early

abbrev pub till_late : List Line
till_late = counting ∷ asked_early ∷ settling_early ∷ withdrawn_early ∷ accepted_late ∷ []

pub record IsCountedAnew : Type 0 where
  pub steps : AreSteps (new_line config) (till_up legs ++ first_sent ∷ [])
  pub start : counted_anew ≡ record kept_connection { session = record kept_connection.session { connection = 0 } }
  pub later : AreSteps counted_anew till_late
  pub unsafe : LineHolds accepted_late → ⊥
