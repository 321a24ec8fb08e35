-- What a session does with a message that it receives: one case a row of the table of `docs/session.md` (FIX 4.4
-- Volume 2).
use Rattle.std.specs.Prelude.{ℕ, ◌+◌, Bool, true, false, ◌&&◌, ◌||◌, not, List, [], ◌∷◌, filter, ◌==◌, nat_lt, nat_le, Option, Some, None, Result, Ok, Err, if◌then◌else◌}
use Rattle.std.specs.Option.{option_map_or, option_and_then}
use Rattle.std.specs.Str.{bytes_eq}
use Rattle.fix_tags.specs.Range.{is_range}
use Rattle.leg.specs.LegId.{LegIdParts}
use Rattle.dialect.specs.declared.fault.DialectFault.{DialectFault}
use Rattle.dialect.specs.declared.note.Note.{Note}
use Rattle.dialect.specs.declared.note.Note.TheVariants as note
use Rattle.dialect.specs.declared.report.Report.{Report}
use Rattle.dialect.specs.Addressed.{is_for}
use Rattle.dialect.specs.declared.content.Content.{Content}
use Rattle.dialect.specs.declared.message.Message.{Message}
use Rattle.dialect.specs.Message.{is_logon}
use Rattle.dialect.specs.declared.content.Content.TheVariants.{Session, ExecutionReport}
use Rattle.fix_tags.specs.declared.session_body.SessionBody.TheVariants.{Logon, Heartbeat, TestRequest, ResendRequest, Reject, GapFill, Reset, Logout, BusinessReject}
use Rattle.resend.specs.declared.judged.Judged.{Judged}
use Rattle.resend.specs.declared.judged.Judged.TheVariants as judged
use Rattle.resend.specs.Judging.{judged}
use Rattle.resend.specs.Log.{GapFillParts, last_number, take_below, leg_at, fill_for}
use Rattle.session_core.specs.declared.phase.Phase.{Phase}
use Rattle.session_core.specs.declared.phase.Phase.TheVariants.{Settling, Up, Closing}
use Rattle.session_core.specs.declared.ended.Ended.TheVariants.{FirstNotLogon, TooLow, WrongComp, ResetRefused, ResendInDoubt, BadResend, PeerLogout, LogonAgain, BadGapFill, LogoutDone, BadNextExpected, PeerForgot}
use Rattle.session_core.specs.Session.{SessionParts, is_connected, is_logging_on, is_settling, is_logged_out}
use Rattle.session_core.specs.Turn.{Turn, quietly, with_session, writes, writes_fence, fence_id, asks, fills, settles_at, counting, counts, with_pending, notes, logs_out, ends, ends_turn, unless_ended}

-- the exchange wants to begin its numbers anew: SequenceReset in reset mode, or ResetSeqNumFlag (141) of a Logon
abbrev pub is_reset : Content → Bool
is_reset (Session (Logon heart reset next)) = reset
is_reset (Session (Reset new_number)) = true
is_reset _ = false

-- the message is counted where it is due and the connection goes on
abbrev pub counts_if : Bool → Turn → Turn
counts_if due turn = if due then unless_ended counts turn turn.step.ended else turn

-- Logon: the number that the exchange expects next (789), where the venue chose to be told it, settles every leg in
-- doubt
abbrev pub told_number : SessionParts → Option ℕ → Option ℕ
told_number s next = if s.config.has_next then next else None

-- it may be at most the number after this connection's own Logon
abbrev pub is_too_high : SessionParts → Option ℕ → Bool
is_too_high s next = option_map_or (λ n. nat_lt (s.current.logon_number + 1) n) next false

-- whoever answered the settled fence had passed every number up to it: to expect one of them again is to forget it
abbrev pub has_passed : SessionParts → ℕ → Bool
has_passed s number = nat_le number s.settled

abbrev pub is_forgotten : SessionParts → Option ℕ → Bool
is_forgotten s next = option_map_or (λ n. has_passed s n) next false

-- what lies between it and the session's own Logon is filled
abbrev pub settles_told : SessionParts → Option ℕ → Turn
settles_told s None = quietly s
settles_told s (Some n) =
    if nat_le n s.current.logon_number
    then fills (record { first = n; new_number = s.current.logon_number + 1 }) (settles_at n s)
    else settles_at n s

abbrev pub asks_if : Bool → Turn → Turn
asks_if wanted turn = if wanted then asks turn else turn

abbrev pub in_phase : Phase → Turn → Turn
in_phase phase turn = with_session (record turn.session { phase = phase }) turn

abbrev pub logon_row : Bool → SessionParts → Option ℕ → Turn
logon_row due s next =
    if not (is_logging_on s.phase) then ends LogonAgain s
    else (if is_too_high s (told_number s next) then ends BadNextExpected s
    else (if is_forgotten s (told_number s next) then ends PeerForgot s
    else in_phase Settling (writes_fence (asks_if (not due) (counts_if due (settles_told s (told_number s next)))))))

-- ResendRequest, while settling: what was lost is known, so every leg in doubt is settled, the range is filled, and a
-- new fence is written
abbrev pub filled_if : Option GapFillParts → Turn → Turn
filled_if None turn = turn
filled_if (Some fill) turn = fills fill turn

abbrev pub resend_while_settling : SessionParts → ℕ → ℕ → Turn
resend_while_settling s begin last =
    writes_fence (filled_if (fill_for begin last (last_number s.log) s.log) (settles_at begin s))

-- later: what was settled is filled, and no more than that
abbrev pub resend_later : Option GapFillParts → SessionParts → Turn
resend_later None s = ends ResendInDoubt s
resend_later (Some fill) s = fills fill (quietly s)

abbrev pub resend_row : Bool → SessionParts → ℕ → ℕ → Turn
resend_row due s begin last =
    if not (is_range (last_number s.log) begin last) then ends BadResend s
    else (if is_settling s.phase && has_passed s begin then ends PeerForgot s
    else counts_if due
    (if is_settling s.phase then resend_while_settling s begin last
    else resend_later (fill_for begin last s.settled s.log) s))

-- Heartbeat: the fence of this connection that an id names
abbrev pub fence_in : List ℕ → List ℕ → Option ℕ
fence_in id [] = None
fence_in id (fence ∷ fences) = if bytes_eq id (fence_id fence) then Some fence else fence_in id fences

abbrev pub named_fence : SessionParts → Option (List ℕ) → Option ℕ
named_fence s id = option_and_then (λ text. fence_in text s.current.fences) id

-- an answered fence says that every message before it was taken. It is done with, and so are the fences below it
abbrev pub above : ℕ → List ℕ → List ℕ
above number fences = filter (λ fence. nat_lt number fence) fences

abbrev pub passing : ℕ → SessionParts → SessionParts
passing fence s = record s {
  log = take_below fence s.log;
  settled = fence;
  current = record s.current { fences = above fence s.current.fences };
}

-- whether a fence is the one that was written at the close, or a later one
abbrev pub is_closing_fence : SessionParts → ℕ → Bool
is_closing_fence s fence = option_map_or (λ closing. nat_le closing fence) s.current.closing_fence false

abbrev pub passed_in : Phase → ℕ → SessionParts → Turn
passed_in Settling fence s = if s.close_asked then logs_out s else quietly (record s { phase = Up })
passed_in Closing fence s = if is_closing_fence s fence then logs_out s else quietly s
passed_in _ fence s = quietly s

abbrev pub passes_fence : SessionParts → Option ℕ → Turn
passes_fence s None = quietly s
passes_fence s (Some fence) = passed_in s.phase fence (passing fence s)

-- TestRequest: answered with its id
abbrev pub answers_test : SessionParts → List ℕ → Turn
answers_test s id = if is_logged_out s.phase then quietly s else writes (Session (Heartbeat (Some id))) (quietly s)

-- GapFill: the numbers up to its new one are passed over, which is all its counting
abbrev pub gap_fill_row : SessionParts → ℕ → ℕ → Turn
gap_fill_row s number new_number =
    if nat_lt number new_number then quietly (record s { expected = new_number }) else ends BadGapFill s

-- Reject and BusinessReject: the leg that was sent under the number was refused
abbrev pub refused_leg : SessionParts → Option LegIdParts → Turn
refused_leg s (Some id) = notes (note.Refused id) s
refused_leg s None = counts (quietly s)

abbrev pub refused_row : SessionParts → Option ℕ → Turn
refused_row s number = refused_leg s (option_and_then (λ n. leg_at n s.log) number)

-- Logout: the answer to the session's own, or the exchange's first
abbrev pub logout_row : SessionParts → Turn
logout_row s =
    if is_logged_out s.phase then ends LogoutDone s else ends_turn PeerLogout (writes (Session Logout) (quietly s))

abbrev pub report_note : Result Report DialectFault → Note
report_note (Ok report) = note.Report report
report_note (Err fault) = note.Unread fault

-- what is only done in its turn: ahead of it nothing is, since the message comes again once it was asked for
abbrev pub in_turn : Bool → SessionParts → Turn → Turn
in_turn due s turn = if due then turn else quietly s

-- a message under the number that is expected, which is due, or ahead of it
abbrev pub row : Bool → SessionParts → ℕ → Content → Turn
row due s number (Session (Logon heart reset next)) = logon_row due s next
row due s number (Session (ResendRequest begin last)) = resend_row due s begin last
row due s number (Session (Heartbeat id)) = counts_if due (passes_fence s (named_fence s id))
row due s number (Session (TestRequest id)) = in_turn due s (counts (answers_test s id))
row due s number (Session (GapFill new_number)) = in_turn due s (gap_fill_row s number new_number)
row due s number (Session (Reject refused)) = in_turn due s (refused_row s (Some refused))
row due s number (Session (BusinessReject refused)) = in_turn due s (refused_row s refused)
row due s number (Session Logout) = logout_row s
row due s number (ExecutionReport read) = in_turn due s (notes (report_note read) s)
row due s number _ = in_turn due s (counts (quietly s))

-- whether a resend request was written in this connection for the number that is still expected
abbrev pub was_requested : SessionParts → Bool
was_requested s = option_map_or (λ number. number == s.expected) s.current.requested false

-- what is missing is asked for, last: unless it was in this connection, or the connection has ended, or nothing may be
-- written any more
abbrev pub asks_anew : Turn → Turn
asks_anew turn = if is_logged_out turn.session.phase || was_requested turn.session then turn else asks turn

abbrev pub asks_missing : Turn → Turn
asks_missing turn = unless_ended asks_anew turn turn.step.ended

-- by how the message's number stands to the expected one
abbrev pub by_number : SessionParts → Message → Judged → Turn
by_number s m judged.Due = row true s m.number m.content
by_number s m judged.Ahead = asks_missing (row false s m.number m.content)
by_number s m judged.Repeat = quietly s
by_number s m judged.TooLow = ends TooLow s

-- each check before the number's, in order
abbrev pub received : SessionParts → Message → Turn
received s m =
    if not (is_for s.config m) then ends WrongComp s
    else (if is_logging_on s.phase && not (is_logon m.content) then ends FirstNotLogon s
    else (if is_reset m.content then ends ResetRefused s
    else by_number s m (judged s.expected m.number m.poss_dup)))

-- something was received: a note that wasn't confirmed is given up
abbrev pub hearing : SessionParts → SessionParts
hearing s = record s { current = record s.current { pending = false; silent = false } }

abbrev pub receive : SessionParts → Message → Turn
receive s m = if is_connected s.phase then received (hearing s) m else quietly s

-- the note was taken, and its message is counted
abbrev pub confirm : SessionParts → SessionParts
confirm s = if s.current.pending then with_pending false (counting s) else s
