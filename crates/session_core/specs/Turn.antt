-- What a call of a session does: the state after it, and what it answers.
use Rattle.std.specs.Prelude.{ℕ, ◌+◌, Bool, true, false, ◌||◌, List, [], ◌∷◌, ◌++◌, codes, decimal, Option, Some, None, if◌then◌else◌}
use Rattle.leg.specs.LegId.{LegIdParts}
use Rattle.dialect.specs.declared.note.Note.{Note}
use Rattle.dialect.specs.Addressed.{message_of}
use Rattle.dialect.specs.declared.content.Content.{Content}
use Rattle.dialect.specs.declared.message.Message.{Message}
use Rattle.dialect.specs.declared.content.Content.TheVariants.{Session}
use Rattle.fix_tags.specs.declared.session_body.SessionBody.TheVariants.{TestRequest, ResendRequest, GapFill, Logout}
use Rattle.resend.specs.Log.{GapFillParts, doubt_from, take_below, give_up_from}
use Rattle.resend.specs.Log.Entry.{Admin}
use Rattle.session_core.specs.declared.phase.Phase.{Phase}
use Rattle.session_core.specs.declared.phase.Phase.TheVariants.{Down, LoggedOut, Closed}
use Rattle.session_core.specs.declared.ended.Ended.{Ended}
use Rattle.session_core.specs.declared.ended.Ended.TheVariants.{PeerLogout}
use Rattle.session_core.specs.Session.{SessionParts, is_logged_out, next_out, may_write}

-- the messages written, in order; the note for the book; the legs that are now withdrawn, in the order of their
-- numbers; why the connection ended, if it did
pub record StepParts : Type 0 where
  pub written : List Message
  pub note : Option Note
  pub withdrawn : List LegIdParts
  pub ended : Option Ended

-- the step, and the state after it
pub record Turn : Type 0 where
  pub step : StepParts
  pub session : SessionParts

-- nothing is written or noted
abbrev pub no_step : StepParts
no_step = record { written = []; note = None; withdrawn = []; ended = None }

abbrev pub quietly : SessionParts → Turn
quietly s = record { step = no_step; session = s }

-- the same step, with another state
abbrev pub with_session : SessionParts → Turn → Turn
with_session s turn = record turn { session = s }

-- a message behind those that are written already
abbrev pub with_message : Message → Turn → Turn
with_message message turn = record turn { step = record turn.step { written = turn.step.written ++ message ∷ [] } }

-- a number is spent on a message of the session
abbrev pub spending : SessionParts → SessionParts
spending s = record s { log = s.log ++ Admin ∷ [] }

-- a message of the session under the next number
abbrev pub puts : Content → Turn → Turn
puts content turn =
    with_message (message_of turn.session.config (next_out turn.session) false content)
    (with_session (spending turn.session) turn)

-- it is written; where no number is left it isn't
abbrev pub writes : Content → Turn → Turn
writes content turn = if may_write turn.session then puts content turn else turn

-- a fence is a TestRequest whose id is `F` and its own number. The exchange answers it once it has taken every message
-- before it
abbrev pub fence_id : ℕ → List ℕ
fence_id number = codes "F" ++ decimal number

abbrev pub fenced : SessionParts → SessionParts
fenced s = record s { current = record s.current { fences = s.current.fences ++ next_out s ∷ [] } }

abbrev pub puts_fence : Turn → Turn
puts_fence turn =
    puts (Session (TestRequest (fence_id (next_out turn.session)))) (with_session (fenced turn.session) turn)

abbrev pub writes_fence : Turn → Turn
writes_fence turn = if may_write turn.session then puts_fence turn else turn

-- what is missing is asked for, from the expected number on
abbrev pub asking : SessionParts → SessionParts
asking s = record s { current = record s.current { requested = Some s.expected } }

abbrev pub asks : Turn → Turn
asks turn =
    if may_write turn.session
    then puts (Session (ResendRequest turn.session.expected 0)) (with_session (asking turn.session) turn)
    else turn

-- a gap fill is written under the first number that it stands for, as a possible duplicate. It spends no number
abbrev pub fills : GapFillParts → Turn → Turn
fills fill turn = with_message (message_of turn.session.config fill.first true (Session (GapFill fill.new_number))) turn

-- the legs in doubt below a number are taken, and those under it or above it withdrawn
abbrev pub settling_at : ℕ → SessionParts → SessionParts
settling_at number s = record s { log = give_up_from number (take_below number s.log) }

abbrev pub settles_at : ℕ → SessionParts → Turn
settles_at number s =
    record { step = record no_step { withdrawn = doubt_from number s.log }; session = settling_at number s }

-- the message received is counted
abbrev pub counting : SessionParts → SessionParts
counting s = record s { expected = s.expected + 1 }

abbrev pub counts : Turn → Turn
counts turn = with_session (counting turn.session) turn

-- a note is pending, or none is
abbrev pub with_pending : Bool → SessionParts → SessionParts
with_pending pending s = record s { current = record s.current { pending = pending } }

-- a note is given. Its message is counted once it is confirmed
abbrev pub notes : Note → SessionParts → Turn
notes note s = record { step = record no_step { note = Some note }; session = with_pending true s }

-- the Logout is written, and from now on nothing but gap fills
abbrev pub logs_out : SessionParts → Turn
logs_out s =
    let turn = writes (Session Logout) (quietly s) in with_session (record turn.session { phase = LoggedOut }) turn

-- the phase after a connection: the session is over where the exchange logged out first, or where its own Logout was
-- written
abbrev pub after_peer_logout : Ended → Bool
after_peer_logout PeerLogout = true
after_peer_logout _ = false

abbrev pub phase_after : Bool → Phase → Phase
phase_after is_over phase = if is_over || is_logged_out phase then Closed else Down

-- the connection is gone. A note that wasn't confirmed is given up, and a leg in doubt stays so
abbrev pub disconnected : Bool → SessionParts → SessionParts
disconnected is_over s = with_pending false (record s { phase = phase_after is_over s.phase })

abbrev pub ends_turn : Ended → Turn → Turn
ends_turn why turn = record {
  step = record turn.step { ended = Some why };
  session = disconnected (after_peer_logout why) turn.session;
}

abbrev pub ends : Ended → SessionParts → Turn
ends why s = ends_turn why (quietly s)

-- what comes next, unless the connection has ended
abbrev pub unless_ended : (Turn → Turn) → Turn → Option Ended → Turn
unless_ended next turn None = next turn
unless_ended next turn (Some why) = turn
