-- The calls of a session beside receiving.
use Rattle.std.specs.Prelude.{ℕ, ◌+◌, true, false, [], ◌∷◌, ◌++◌, Option, Some, None, Result, Ok, Err, nat_lt, not, if◌then◌else◌}
use Rattle.leg.specs.declared.leg.Leg.{Leg}
use Rattle.leg.specs.declared.leg_state.LegState.TheVariants.{Doubt}
use Rattle.dialect.specs.Addressed.{message_of}
use Rattle.dialect.specs.declared.message.Message.{Message}
use Rattle.dialect.specs.declared.content.Content.TheVariants.{Session, Order}
use Rattle.fix_tags.specs.declared.session_body.SessionBody.TheVariants.{Logon, Heartbeat}
use Rattle.resend.specs.Log.{SentLeg, last_ordinal}
use Rattle.resend.specs.Log.Entry.{Sent}
use Rattle.session_core.specs.declared.phase.Phase.{Phase}
use Rattle.session_core.specs.declared.phase.Phase.TheVariants.{Down, LoggingOn, Settling, Up, Closing, Closed}
use Rattle.session_core.specs.declared.ended.Ended.{Ended}
use Rattle.session_core.specs.declared.ended.Ended.TheVariants.{Silent, Malformed}
use Rattle.session_core.specs.declared.session_fault.SessionFault.{SessionFault}
use Rattle.session_core.specs.declared.session_fault.SessionFault.TheVariants as fault
use Rattle.session_core.specs.Session.{SessionParts, new_connection, is_connected, is_still, next_out, may_write}
use Rattle.session_core.specs.Turn.{StepParts, Turn, quietly, spending, puts, puts_fence, ends, with_pending, disconnected}

-- what a call answers, and the state after it
abbrev pub SessionAnswer : Type 0 → Type 0
SessionAnswer X = Result X SessionFault × SessionParts

-- a refusal leaves the session as it was
abbrev pub refuses : {X : Type 0} → SessionFault → SessionParts → SessionAnswer X
refuses fault s = (Err fault, s)

abbrev pub answers : Turn → SessionAnswer StepParts
answers turn = (Ok turn.step, turn.session)

-- a turn in which a message is written under the next number
abbrev pub answers_numbered : SessionParts → Turn → SessionAnswer StepParts
answers_numbered s turn = if may_write s then answers turn else refuses fault.NumbersSpent s

-- connect: a new connection, whose first message is the Logon. What was of the last connection is gone
abbrev pub connecting : SessionParts → SessionParts
connecting s = record (spending s) {
  phase = LoggingOn;
  connection = s.connection + 1;
  current = new_connection (next_out s);
}

-- NextExpectedMsgSeqNum (789), where the venue chose to be told it
abbrev pub own_next : SessionParts → Option ℕ
own_next s = if s.config.has_next then Some s.expected else None

abbrev pub logs_on : SessionParts → SessionAnswer Message
logs_on s =
    if may_write s
    then (Ok (message_of s.config (next_out s) false (Session (Logon s.config.heart false (own_next s)))), connecting s)
    else refuses fault.NumbersSpent s

abbrev pub connect_in : Phase → SessionParts → SessionAnswer Message
connect_in Down s = logs_on s
connect_in Closed s = refuses fault.Closed s
connect_in _ s = refuses fault.NotDown s

abbrev pub connect : SessionParts → SessionAnswer Message
connect s = connect_in s.phase s

-- send a leg: in phase Up alone, under the next number, and each ordinal once. It is then in doubt
abbrev pub doubted : ℕ → Leg → SentLeg
doubted ordinal leg = record { ordinal = ordinal; id = leg.id; state = Doubt }

abbrev pub sending : SessionParts → ℕ → Leg → SessionParts
sending s ordinal leg = record s { log = s.log ++ Sent (doubted ordinal leg) ∷ [] }

abbrev pub send_up : SessionParts → ℕ → Leg → SessionAnswer Message
send_up s ordinal leg =
    if not (nat_lt (last_ordinal s.log) ordinal) then refuses fault.OrdinalNotGreater s
    else (if may_write s
    then (Ok (message_of s.config (next_out s) false (Order (Ok leg))), sending s ordinal leg)
    else refuses fault.NumbersSpent s)

abbrev pub send_in : Phase → SessionParts → ℕ → Leg → SessionAnswer Message
send_in Up s ordinal leg = send_up s ordinal leg
send_in _ s ordinal leg = refuses fault.NotUp s

abbrev pub send_leg : SessionParts → ℕ → Leg → SessionAnswer Message
send_leg s ordinal leg = send_in s.phase s ordinal leg

-- quiet: nothing was written for a while, so a Heartbeat is
abbrev pub quiet : SessionParts → SessionAnswer StepParts
quiet s =
    if not (is_connected s.phase) then refuses fault.NotConnected s
    else (if is_still s.phase then answers (quietly s)
    else answers_numbered s (puts (Session (Heartbeat None)) (quietly s)))

-- silent: nothing was received for a while, so a fence is written; the second time the connection ends
abbrev pub hushed : SessionParts → SessionParts
hushed s = record s { current = record s.current { silent = true } }

abbrev pub silent : SessionParts → SessionAnswer StepParts
silent s =
    if not (is_connected s.phase) then refuses fault.NotConnected s
    else (if s.current.silent then answers (ends Silent s)
    else (if is_still s.phase then answers (quietly (hushed s))
    else answers_numbered s (puts_fence (quietly (hushed s)))))

-- close: in phase Up a fence is written, and the Logout once it is answered; before, the close is remembered
abbrev pub asked_to_close : SessionParts → SessionParts
asked_to_close s = record s { close_asked = true }

abbrev pub closing_up : SessionParts → SessionParts
closing_up s = record (asked_to_close s) {
  phase = Closing;
  current = record s.current { closing_fence = Some (next_out s) };
}

abbrev pub close_in : Phase → SessionParts → SessionAnswer StepParts
close_in Down s = refuses fault.NotConnected s
close_in Closed s = refuses fault.NotConnected s
close_in Up s = answers_numbered s (puts_fence (quietly (closing_up s)))
close_in LoggingOn s = answers (quietly (asked_to_close s))
close_in Settling s = answers (quietly (asked_to_close s))
close_in _ s = answers (quietly s)

abbrev pub close : SessionParts → SessionAnswer StepParts
close s = close_in s.phase s

-- broken: the connection is gone
abbrev pub broken : SessionParts → SessionParts
broken s = if is_connected s.phase then disconnected false s else s

-- malformed: a frame came that is no message
abbrev pub malformed : SessionParts → Option Ended × SessionParts
malformed s = if is_connected s.phase then (Some Malformed, disconnected false s) else (None, s)

-- abandon: the session is over. A leg in doubt stays so
abbrev pub abandon : SessionParts → SessionParts
abandon s = with_pending false (record s { phase = Closed })
