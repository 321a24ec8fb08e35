-- Every call but Connect leaves the session in its connection; and where there is none it writes nothing.
use Rattle.std.proofs.Common.{◌≡◌, ℕ, Bool, true, false, not, nat_lt, nat_le, ◌&&◌, List, [], Option, Some, None, Ok, Err, refl, ◌∙◌, if◌then◌else◌}
use Rattle.fix_tags.specs.Range.{is_range}
use Rattle.leg.specs.LegId.{LegIdParts}
use Rattle.leg.specs.declared.leg.Leg.{Leg}
use Rattle.dialect.specs.Addressed.{is_for}
use Rattle.dialect.specs.Message.{decoded, is_logon}
use Rattle.dialect.specs.Wording.{Decoding}
use Rattle.dialect.specs.declared.content.Content.{Content}
use Rattle.dialect.specs.declared.content.Content.TheVariants.{Session, Order, ExecutionReport, Other}
use Rattle.dialect.specs.declared.message.Message.{Message}
use Rattle.fix_tags.specs.declared.session_body.SessionBody.TheVariants.{Logon, Heartbeat, TestRequest, ResendRequest, Reject, GapFill, Reset, Logout, BusinessReject}
use Rattle.resend.specs.declared.judged.Judged.{Judged}
use Rattle.resend.specs.declared.judged.Judged.TheVariants as judged
use Rattle.resend.specs.Judging.{judged}
use Rattle.resend.specs.Log.{GapFillParts, last_number, last_ordinal, leg_at, fill_for}
use Rattle.std.specs.Option.{option_and_then}
use Rattle.session_core.specs.declared.ended.Ended.{Ended}
use Rattle.session_core.specs.declared.ended.Ended.TheVariants as ended
use Rattle.session_core.specs.declared.phase.Phase.{Phase}
use Rattle.session_core.specs.declared.phase.Phase.TheVariants as phase
use Rattle.session_core.specs.declared.session_call.SessionCall.{SessionCall}
use Rattle.session_core.specs.declared.session_call.SessionCall.TheVariants as call
use Rattle.session_core.specs.declared.session_fault.SessionFault.TheVariants as fault
use Rattle.session_core.specs.Session.{SessionParts, is_connected, is_still, is_logging_on, is_settling, is_logged_out, may_write}
use Rattle.session_core.specs.Turn.{StepParts, Turn, quietly, writes, settles_at, counting, counts, ends, logs_out, with_pending, disconnected, puts_fence, puts}
use Rattle.session_core.specs.Receiving.{counts_if, asks_if, settles_told, told_number, is_too_high, has_passed, is_forgotten, logon_row, filled_if, resend_while_settling, resend_later, resend_row, named_fence, passing, is_closing_fence, passed_in, passes_fence, answers_test, gap_fill_row, refused_leg, logout_row, in_turn, row, by_number, received, hearing, receive, is_reset}
use Rattle.session_core.specs.Calling.{SessionAnswer, refuses, answers, answers_numbered, send_leg, send_in, quiet, silent, hushed, close, close_in, closing_up, broken}
use Rattle.session_core.specs.Trial.{Addition, added, added_message, called}
use Rattle.session_core.proofs.Adding.{chosen, adds-writes, adds-writes_fence, adds-asks_if, adds-filled_if, adds-counts_if, adds-ends_turn, adds-logs_out, adds-asks_missing}
use Rattle.session_worker.specs.Speaking.{messages_in}

-- the turn leaves the session in this connection
abbrev On : SessionParts → Turn → Type 0
On s t = t.session.connection ≡ s.connection

module _ (s : SessionParts) where
  told_on : (next : Option ℕ) → On s (settles_told s next)
  told_on None = refl
  told_on (Some n) = chosen (On s) (nat_le n s.current.logon_number) _ (settles_at n s) (λ below. refl) (λ above. refl)

  logon_on : (due : Bool) (next : Option ℕ) → On s (logon_row due s next)
  logon_on due next =
      let told = settles_told s (told_number s next) in
      let counted = counts_if due told in
      let asked = asks_if (not due) counted in
      chosen (On s) (not (is_logging_on s.phase)) (ends ended.LogonAgain s) _ (λ again. refl)
      (λ first. chosen (On s) (is_too_high s (told_number s next)) (ends ended.BadNextExpected s) _ (λ high. refl)
      (λ low. chosen (On s) (is_forgotten s (told_number s next)) (ends ended.PeerForgot s) _ (λ forgot. refl)
      (λ fine. (adds-writes_fence asked).connection
      ∙ ((adds-asks_if (not due) counted).connection
      ∙ ((adds-counts_if due told).connection ∙ told_on (told_number s next))))))

  later_on : (fill : Option GapFillParts) → On s (resend_later fill s)
  later_on None = refl
  later_on (Some fill) = refl

  resend_on : (due : Bool) (begin last : ℕ) → On s (resend_row due s begin last)
  resend_on due begin last =
      let fill = fill_for begin last (last_number s.log) s.log in
      let later = fill_for begin last s.settled s.log in
      let turn : Turn = if is_settling s.phase then resend_while_settling s begin last else resend_later later s in
      chosen (On s) (not (is_range (last_number s.log) begin last)) (ends ended.BadResend s) _ (λ bad. refl)
      (λ sent. chosen (On s) (is_settling s.phase && has_passed s begin) (ends ended.PeerForgot s) _ (λ forgot. refl)
      (λ good. (adds-counts_if due turn).connection
      ∙ chosen (On s) (is_settling s.phase) (resend_while_settling s begin last) (resend_later later s)
      (λ settling. (adds-writes_fence (filled_if fill (settles_at begin s))).connection
      ∙ (adds-filled_if fill (settles_at begin s)).connection)
      (λ on. later_on later)))

  passed_on : (now : Phase) (fence : ℕ) → On s (passed_in now fence (passing fence s))
  passed_on phase.Settling fence =
      chosen (On s) s.close_asked (logs_out (passing fence s)) _ (λ asked. (adds-logs_out (passing fence s)).connection)
      (λ goes_on. refl)
  passed_on phase.Closing fence =
      chosen (On s) (is_closing_fence s fence) (logs_out (passing fence s)) _
      (λ last. (adds-logs_out (passing fence s)).connection) (λ earlier. refl)
  passed_on phase.Down fence = refl
  passed_on phase.LoggingOn fence = refl
  passed_on phase.Up fence = refl
  passed_on phase.LoggedOut fence = refl
  passed_on phase.Closed fence = refl

  fence_on : (fence : Option ℕ) → On s (passes_fence s fence)
  fence_on None = refl
  fence_on (Some fence) = passed_on s.phase fence

  test_on : (id : List ℕ) → On s (answers_test s id)
  test_on id =
      chosen (On s) (is_logged_out s.phase) (quietly s) (writes (Session (Heartbeat (Some id))) (quietly s))
      (λ over. refl) (λ on. (adds-writes (Session (Heartbeat (Some id))) (quietly s)).connection)

  fill_on : (number new_number : ℕ) → On s (gap_fill_row s number new_number)
  fill_on number new_number =
      chosen (On s) (nat_lt number new_number) _ (ends ended.BadGapFill s) (λ forward. refl) (λ back. refl)

  refused_on : (id : Option LegIdParts) → On s (refused_leg s id)
  refused_on (Some id) = refl
  refused_on None = refl

  logout_on : On s (logout_row s)
  logout_on =
      let wrote = writes (Session Logout) (quietly s) in
      chosen (On s) (is_logged_out s.phase) (ends ended.LogoutDone s) _ (λ over. refl)
      (λ going. (adds-ends_turn ended.PeerLogout wrote).connection
      ∙ (adds-writes (Session Logout) (quietly s)).connection)

  turned_on : (due : Bool) (t : Turn) → On s t → On s (in_turn due s t)
  turned_on true t on = on
  turned_on false t on = refl

  row_on : (due : Bool) (number : ℕ) (content : Content) → On s (row due s number content)
  row_on due number (Session (Logon heart reset next)) = logon_on due next
  row_on due number (Session (ResendRequest begin last)) = resend_on due begin last
  row_on due number (Session (Heartbeat id)) =
      (adds-counts_if due (passes_fence s (named_fence s id))).connection ∙ fence_on (named_fence s id)
  row_on due number (Session (TestRequest id)) = turned_on due (counts (answers_test s id)) (test_on id)
  row_on due number (Session (GapFill new_number)) = turned_on due _ (fill_on number new_number)
  row_on due number (Session (Reject refused)) =
      turned_on due _ (refused_on (option_and_then (λ n. leg_at n s.log) (Some refused)))
  row_on due number (Session (BusinessReject refused)) =
      turned_on due _ (refused_on (option_and_then (λ n. leg_at n s.log) refused))
  row_on due number (Session Logout) = logout_on
  row_on due number (ExecutionReport read) = turned_on due _ refl
  row_on due number (Session (Reset new_number)) = turned_on due _ refl
  row_on due number (Order read) = turned_on due _ refl
  row_on due number Other = turned_on due _ refl

  by_number_on : (m : Message) (how : Judged) → On s (by_number s m how)
  by_number_on m judged.Due = row_on true m.number m.content
  by_number_on m judged.Ahead =
      (adds-asks_missing (row false s m.number m.content)).connection ∙ row_on false m.number m.content
  by_number_on m judged.Repeat = refl
  by_number_on m judged.TooLow = refl

  received_on : (m : Message) → On s (received s m)
  received_on m =
      chosen (On s) (not (is_for s.config m)) (ends ended.WrongComp s) _ (λ wrong. refl)
      (λ ours. chosen (On s) (is_logging_on s.phase && not (is_logon m.content)) (ends ended.FirstNotLogon s) _
      (λ early. refl)
      (λ late. chosen (On s) (is_reset m.content) (ends ended.ResetRefused s) _ (λ reset. refl)
      (λ goes_on. by_number_on m (judged s.expected m.number m.poss_dup))))

receive_on : (s : SessionParts) (m : Message) → On s (receive s m)
receive_on s m =
    chosen (On s) (is_connected s.phase) (received (hearing s) m) (quietly s) (λ on. received_on (hearing s) m)
    (λ off. refl)

-- ---- the other calls

abbrev Stays : SessionParts → SessionParts → Type 0
Stays s t = t.connection ≡ s.connection

abbrev AnswersOn : {X : Type 0} → SessionParts → SessionAnswer X → Type 0
AnswersOn s a = Stays s a.1

added_on : (s : SessionParts) (a : SessionAnswer StepParts) → AnswersOn s a → Stays s (added a).1
added_on s (Ok step, after) on = on
added_on s (Err why, after) on = on

message_on : (s : SessionParts) (a : SessionAnswer Message) → AnswersOn s a → Stays s (added_message a).1
message_on s (Ok message, after) on = on
message_on s (Err why, after) on = on

numbered_on : (s : SessionParts) (turn : Turn) → On s turn → AnswersOn s (answers_numbered s turn)
numbered_on s turn on =
    chosen (λ (a : SessionAnswer StepParts). AnswersOn s a) (may_write s) (answers turn) (refuses fault.NumbersSpent s)
    (λ may. on) (λ spent. refl)

quiet_on : (s : SessionParts) → AnswersOn s (quiet s)
quiet_on s =
    chosen (λ (a : SessionAnswer StepParts). AnswersOn s a) (not (is_connected s.phase))
    (refuses fault.NotConnected s) _ (λ off. refl)
    (λ on. chosen (λ (a : SessionAnswer StepParts). AnswersOn s a) (is_still s.phase) (answers (quietly s)) _
    (λ still. refl) (λ loud. numbered_on s (puts (Session (Heartbeat None)) (quietly s)) refl))

silent_on : (s : SessionParts) → AnswersOn s (silent s)
silent_on s =
    chosen (λ (a : SessionAnswer StepParts). AnswersOn s a) (not (is_connected s.phase))
    (refuses fault.NotConnected s) _ (λ off. refl)
    (λ on. chosen (λ (a : SessionAnswer StepParts). AnswersOn s a) s.current.silent (answers (ends ended.Silent s)) _
    (λ again. refl)
    (λ first.
    chosen (λ (a : SessionAnswer StepParts). AnswersOn s a) (is_still s.phase) (answers (quietly (hushed s))) _
    (λ still. refl) (λ loud. numbered_on s (puts_fence (quietly (hushed s))) refl)))

close_in_on : (s : SessionParts) (now : Phase) → AnswersOn s (close_in now s)
close_in_on s phase.Down = refl
close_in_on s phase.Closed = refl
close_in_on s phase.Up = numbered_on s (puts_fence (quietly (closing_up s))) refl
close_in_on s phase.LoggingOn = refl
close_in_on s phase.Settling = refl
close_in_on s phase.Closing = refl
close_in_on s phase.LoggedOut = refl

send_in_on : (s : SessionParts) (ordinal : ℕ) (leg : Leg) (now : Phase) → AnswersOn s (send_in now s ordinal leg)
send_in_on s ordinal leg phase.Down = refl
send_in_on s ordinal leg phase.Closed = refl
send_in_on s ordinal leg phase.Up =
    chosen (λ (a : SessionAnswer Message). AnswersOn s a) (not (nat_lt (last_ordinal s.log) ordinal))
    (refuses fault.OrdinalNotGreater s) _ (λ low. refl)
    (λ high. chosen (λ (a : SessionAnswer Message). AnswersOn s a) (may_write s) _ (refuses fault.NumbersSpent s)
    (λ may. refl) (λ spent. refl))
send_in_on s ordinal leg phase.LoggingOn = refl
send_in_on s ordinal leg phase.Settling = refl
send_in_on s ordinal leg phase.Closing = refl
send_in_on s ordinal leg phase.LoggedOut = refl

-- a call that is no Connect
abbrev pub IsWithin : SessionCall → Type 0
IsWithin call.Connect = ⊥
IsWithin _ = Unit {0}

pub called_on : (read : Decoding) (s : SessionParts) (made : SessionCall) → IsWithin made
    → (called read s made).1.connection ≡ s.connection
called_on read s call.Connect within = absurd within
called_on read s (call.SendLeg ordinal leg) within =
    message_on s (send_leg s ordinal leg) (send_in_on s ordinal leg s.phase)
called_on read s (call.Receive envelope) within = receive_on s (decoded read envelope)
called_on read s call.Confirm within =
    chosen (Stays s) s.current.pending (with_pending false (counting s)) s (λ noted. refl) (λ none. refl)
called_on read s call.Quiet within = added_on s (quiet s) (quiet_on s)
called_on read s call.Silent within = added_on s (silent s) (silent_on s)
called_on read s call.Close within = added_on s (close s) (close_in_on s s.phase)
called_on read s call.Malformed within =
    chosen (λ (r : Option Ended × SessionParts). Stays s r.1) (is_connected s.phase)
    (Some ended.Malformed, disconnected false s) (None, s) (λ on. refl) (λ off. refl)
called_on read s call.Broken within =
    chosen (Stays s) (is_connected s.phase) (disconnected false s) s (λ on. refl) (λ off. refl)
called_on read s call.Abandon within = refl

-- ---- without a connection

-- nothing is written, and there is no connection afterwards
pub record WritesNone (a : Addition) : Type 0 where
  pub none : messages_in a.0 ≡ []
  pub off : is_connected a.1.phase ≡ false

refused_off : (s : SessionParts) → is_connected s.phase ≡ false → WritesNone (None, s)
refused_off s off = record { none = refl; off = off }

not_off : (b : Bool) → b ≡ false → not b ≡ false → ⊥
not_off true off on = absurd cc
not_off false off on = absurd cc

both : (b : Bool) → b ≡ false → b ≡ true → ⊥
both true off on = absurd cc
both false off on = absurd cc

close_in_off : (s : SessionParts) (now : Phase) → is_connected s.phase ≡ false → is_connected now ≡ false
    → WritesNone (added (close_in now s))
close_in_off s phase.Down off now = refused_off s off
close_in_off s phase.Closed off now = refused_off s off
close_in_off s phase.Up off now = absurd cc
close_in_off s phase.LoggingOn off now = absurd cc
close_in_off s phase.Settling off now = absurd cc
close_in_off s phase.Closing off now = absurd cc
close_in_off s phase.LoggedOut off now = absurd cc

send_in_off : (s : SessionParts) (ordinal : ℕ) (leg : Leg) (now : Phase) → is_connected s.phase ≡ false
    → is_connected now ≡ false → WritesNone (added_message (send_in now s ordinal leg))
send_in_off s ordinal leg phase.Down off now = refused_off s off
send_in_off s ordinal leg phase.Closed off now = refused_off s off
send_in_off s ordinal leg phase.Up off now = absurd cc
send_in_off s ordinal leg phase.LoggingOn off now = absurd cc
send_in_off s ordinal leg phase.Settling off now = absurd cc
send_in_off s ordinal leg phase.Closing off now = absurd cc
send_in_off s ordinal leg phase.LoggedOut off now = absurd cc

gone : (out : Bool) → is_connected (if out then phase.Closed else phase.Down) ≡ false
gone true = refl
gone false = refl

-- once it is broken there is none
pub broken_off : (s : SessionParts) → is_connected (broken s).phase ≡ false
broken_off s =
    chosen (λ (t : SessionParts). is_connected t.phase ≡ false) (is_connected s.phase) (disconnected false s) s
    (λ on. gone (is_logged_out s.phase)) (λ off. off)

pub called_off : (read : Decoding) (s : SessionParts) (made : SessionCall) → IsWithin made
    → is_connected s.phase ≡ false → WritesNone (called read s made)
called_off read s call.Connect within off = absurd within
called_off read s (call.SendLeg ordinal leg) within off = send_in_off s ordinal leg s.phase off off
called_off read s (call.Receive envelope) within off =
    chosen (λ (t : Turn). WritesNone (added (answers t))) (is_connected s.phase)
    (received (hearing s) (decoded read envelope)) (quietly s) (λ on. absurd (both (is_connected s.phase) off on))
    (λ none. record { none = refl; off = off })
called_off read s call.Confirm within off =
    chosen (λ (t : SessionParts). WritesNone (None, t)) s.current.pending (with_pending false (counting s)) s
    (λ noted. record { none = refl; off = off }) (λ none. record { none = refl; off = off })
called_off read s call.Quiet within off =
    chosen (λ (a : SessionAnswer StepParts). WritesNone (added a)) (not (is_connected s.phase))
    (refuses fault.NotConnected s) _ (λ none. refused_off s off) (λ on. absurd (not_off (is_connected s.phase) off on))
called_off read s call.Silent within off =
    chosen (λ (a : SessionAnswer StepParts). WritesNone (added a)) (not (is_connected s.phase))
    (refuses fault.NotConnected s) _ (λ none. refused_off s off) (λ on. absurd (not_off (is_connected s.phase) off on))
called_off read s call.Close within off = close_in_off s s.phase off off
called_off read s call.Malformed within off =
    chosen (λ (r : Option Ended × SessionParts). WritesNone (None, r.1)) (is_connected s.phase)
    (Some ended.Malformed, disconnected false s) (None, s) (λ on. absurd (both (is_connected s.phase) off on))
    (λ none. record { none = refl; off = off })
called_off read s call.Broken within off = record { none = refl; off = broken_off s }
called_off read s call.Abandon within off = record { none = refl; off = refl }
