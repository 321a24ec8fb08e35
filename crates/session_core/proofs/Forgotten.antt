-- An exchange that expects a number again which it had passed settles nothing, and only such a one ends a connection so.
use Rattle.std.proofs.Common.{◌≡◌, ℕ, Bool, true, false, ◌&&◌, ◌||◌, not, nat_lt, nat_le, List, Option, Some, None, refl, sym, ◌∙◌}
use Rattle.std.specs.Option.{option_and_then}
use Rattle.fix_tags.specs.Range.{is_range}
use Rattle.leg.specs.LegId.{LegIdParts}
use Rattle.dialect.specs.Addressed.{is_for}
use Rattle.dialect.specs.declared.content.Content.{Content}
use Rattle.dialect.specs.declared.message.Message.{Message}
use Rattle.dialect.specs.Message.{is_logon}
use Rattle.dialect.specs.declared.content.Content.TheVariants.{Session, Order, ExecutionReport, Other}
use Rattle.fix_tags.specs.declared.session_body.SessionBody.TheVariants.{Logon, Heartbeat, TestRequest, ResendRequest, Reject, GapFill, Reset, Logout, BusinessReject}
use Rattle.resend.specs.declared.judged.Judged.{Judged}
use Rattle.resend.specs.declared.judged.Judged.TheVariants as judged
use Rattle.resend.specs.Judging.{judged}
use Rattle.resend.specs.Log.{GapFillParts, last_number, leg_at, fill_for}
use Rattle.session_core.specs.declared.phase.Phase.{Phase}
use Rattle.session_core.specs.declared.phase.Phase.TheVariants as phase
use Rattle.session_core.specs.declared.ended.Ended.{Ended}
use Rattle.session_core.specs.declared.ended.Ended.TheVariants as ended
use Rattle.session_core.specs.Session.{SessionParts, is_connected, is_logging_on, is_settling, is_logged_out, may_write}
use Rattle.session_core.specs.Turn.{Turn, quietly, writes, writes_fence, asks, settles_at, counts, notes, logs_out, ends, unless_ended}
use Rattle.session_core.specs.Receiving.{is_reset, counts_if, told_number, is_too_high, has_passed, is_forgotten, settles_told, asks_if, logon_row, filled_if, resend_while_settling, resend_later, resend_row, named_fence, passing, is_closing_fence, passed_in, passes_fence, answers_test, gap_fill_row, refused_leg, logout_row, report_note, in_turn, row, was_requested, asks_missing, asks_anew, by_number, received, hearing, receive}
use Rattle.session_core.specs.Onward.{forgets, SettlesNothing}
use Rattle.session_core.proofs.Adding.{chosen}

both_second : (a b : Bool) → (a && b) ≡ true → b ≡ true
both_second true b is = is
both_second false b is = absurd cc

both_hold : (a b : Bool) → not a ≡ false → b ≡ true → (a && b) ≡ true
both_hold true b first second = second
both_hold false b first second = absurd cc

heard : (s : SessionParts) (content : Content) → forgets (hearing s) content ≡ forgets s content
heard s (Session (Logon heart reset next)) = refl
heard s (Session (ResendRequest begin last)) = refl
heard s (Session (Heartbeat id)) = refl
heard s (Session (TestRequest id)) = refl
heard s (Session (Reject refused)) = refl
heard s (Session (GapFill new_number)) = refl
heard s (Session (Reset new_number)) = refl
heard s (Session Logout) = refl
heard s (Session (BusinessReject refused)) = refl
heard s (Order read) = refl
heard s (ExecutionReport read) = refl
heard s Other = refl

-- nothing is settled, whether or not what is missing is asked for
abbrev Stops : SessionParts → Turn → Type 0
Stops s turn = SettlesNothing s turn × SettlesNothing s (asks_missing turn)

module _ (s : SessionParts) where
  quiet_so : SettlesNothing s (quietly s)
  quiet_so = record { written = refl; named = refl; log = refl; settled = refl }

  ends_so : (why : Ended) → SettlesNothing s (ends why s)
  ends_so why = record { written = refl; named = refl; log = refl; settled = refl }

  over : (why : Ended) → Stops s (ends why s)
  over why = (ends_so why, ends_so why)

  stops_row : (due : Bool) (number : ℕ) (content : Content) → forgets s content ≡ true → Stops s (row due s number content)
  stops_row due number (Session (Logon heart reset next)) is =
      chosen (Stops s) (not (is_logging_on s.phase)) (ends ended.LogonAgain s) _ (λ again. over ended.LogonAgain)
      (λ first. chosen (Stops s) (is_too_high s (told_number s next)) (ends ended.BadNextExpected s) _
      (λ high. over ended.BadNextExpected)
      (λ low. chosen (Stops s) (is_forgotten s (told_number s next)) (ends ended.PeerForgot s) _
      (λ forgot. over ended.PeerForgot)
      (λ passed. absurd (let e = sym passed ∙ both_second (is_logging_on s.phase) (is_forgotten s (told_number s next)) is in cc))))
  stops_row due number (Session (ResendRequest begin last)) is =
      chosen (Stops s) (not (is_range (last_number s.log) begin last)) (ends ended.BadResend s) _
      (λ bad. over ended.BadResend)
      (λ sent. chosen (Stops s) (is_settling s.phase && has_passed s begin) (ends ended.PeerForgot s) _
      (λ forgot. over ended.PeerForgot)
      (λ passed. absurd (let e = sym passed ∙ is in cc)))
  stops_row due number (Session (Heartbeat id)) is = absurd cc
  stops_row due number (Session (TestRequest id)) is = absurd cc
  stops_row due number (Session (Reject refused)) is = absurd cc
  stops_row due number (Session (GapFill new_number)) is = absurd cc
  stops_row due number (Session (Reset new_number)) is = absurd cc
  stops_row due number (Session Logout) is = absurd cc
  stops_row due number (Session (BusinessReject refused)) is = absurd cc
  stops_row due number (Order read) is = absurd cc
  stops_row due number (ExecutionReport read) is = absurd cc
  stops_row due number Other is = absurd cc

  stops_judged : (m : Message) (how : Judged) → forgets s m.content ≡ true → SettlesNothing s (by_number s m how)
  stops_judged m judged.Due is = (stops_row true m.number m.content is).0
  stops_judged m judged.Ahead is = (stops_row false m.number m.content is).1
  stops_judged m judged.Repeat is = quiet_so
  stops_judged m judged.TooLow is = ends_so ended.TooLow

  stops_received : (m : Message) → forgets s m.content ≡ true → SettlesNothing s (received s m)
  stops_received m is =
      chosen (SettlesNothing s) (not (is_for s.config m)) (ends ended.WrongComp s) _ (λ wrong. ends_so ended.WrongComp)
      (λ ours. chosen (SettlesNothing s) (is_logging_on s.phase && not (is_logon m.content)) (ends ended.FirstNotLogon s) _
      (λ early. ends_so ended.FirstNotLogon)
      (λ on. chosen (SettlesNothing s) (is_reset m.content) (ends ended.ResetRefused s) _
      (λ reset. ends_so ended.ResetRefused)
      (λ goes_on. stops_judged m (judged s.expected m.number m.poss_dup) is)))

pub forgetting_settles_nothing : (s : SessionParts) (m : Message) → forgets s m.content ≡ true
    → SettlesNothing s (receive s m)
forgetting_settles_nothing s m is =
    chosen (SettlesNothing s) (is_connected s.phase) (received (hearing s) m) (quietly s)
    (λ on. (let stops = stops_received (hearing s) m (heard s m.content ∙ is) in
    record { written = stops.written; named = stops.named; log = stops.log; settled = stops.settled }))
    (λ off. quiet_so s)

-- what holds where a connection ends so
module _ (F : Type 0) where
  abbrev Only : Turn → Type 0
  Only t = t.step.ended ≡ Some ended.PeerForgot → F

  only_quiet : (s : SessionParts) → Only (quietly s)
  only_quiet s e = absurd cc

  only_unless : (next : Turn → Turn) (t : Turn) (stopped : Option Ended) → Only t → Only (next t)
      → Only (unless_ended next t stopped)
  only_unless next t None here then = then
  only_unless next t (Some why) here then = here

  only_counts_if : (due : Bool) (t : Turn) → Only t → Only (counts_if due t)
  only_counts_if true t here = only_unless counts t t.step.ended here here
  only_counts_if false t here = here

  only_writes : (content : Content) (t : Turn) → Only t → Only (writes content t)
  only_writes content t here = chosen Only (may_write t.session) _ t (λ may. here) (λ spent. here)

  only_fence : (t : Turn) → Only t → Only (writes_fence t)
  only_fence t here = chosen Only (may_write t.session) _ t (λ may. here) (λ spent. here)

  only_asks : (t : Turn) → Only t → Only (asks t)
  only_asks t here = chosen Only (may_write t.session) _ t (λ may. here) (λ spent. here)

  only_asks_if : (wanted : Bool) (t : Turn) → Only t → Only (asks_if wanted t)
  only_asks_if true t here = only_asks t here
  only_asks_if false t here = here

  only_missing : (t : Turn) → Only t → Only (asks_missing t)
  only_missing t here =
      only_unless asks_anew t t.step.ended here
      (chosen Only (is_logged_out t.session.phase || was_requested t.session) t (asks t) (λ over. here)
      (λ on. only_asks t here))

  only_told : (s : SessionParts) (next : Option ℕ) → Only (settles_told s next)
  only_told s None = only_quiet s
  only_told s (Some n) =
      chosen Only (nat_le n s.current.logon_number) _ (settles_at n s) (λ below. λ e. absurd cc) (λ above. λ e. absurd cc)

  only_filled_if : (fill : Option GapFillParts) (t : Turn) → Only t → Only (filled_if fill t)
  only_filled_if None t here = here
  only_filled_if (Some fill) t here = here

  only_later : (s : SessionParts) (fill : Option GapFillParts) → Only (resend_later fill s)
  only_later s None e = absurd cc
  only_later s (Some fill) e = absurd cc

  only_logs_out : (s : SessionParts) → Only (logs_out s)
  only_logs_out s = only_writes (Session Logout) (quietly s) (only_quiet s)

  only_passed_in : (now : Phase) (fence : ℕ) (s : SessionParts) → Only (passed_in now fence s)
  only_passed_in phase.Settling fence s =
      chosen Only s.close_asked (logs_out s) _ (λ asked. only_logs_out s) (λ open_still. λ e. absurd cc)
  only_passed_in phase.Closing fence s =
      chosen Only (is_closing_fence s fence) (logs_out s) (quietly s) (λ done. only_logs_out s)
      (λ early. only_quiet s)
  only_passed_in phase.Down fence s = only_quiet s
  only_passed_in phase.LoggingOn fence s = only_quiet s
  only_passed_in phase.Up fence s = only_quiet s
  only_passed_in phase.LoggedOut fence s = only_quiet s
  only_passed_in phase.Closed fence s = only_quiet s

  only_fence_answered : (s : SessionParts) (fence : Option ℕ) → Only (passes_fence s fence)
  only_fence_answered s None = only_quiet s
  only_fence_answered s (Some fence) = only_passed_in s.phase fence (passing fence s)

  only_in_turn : (due : Bool) (s : SessionParts) (t : Turn) → Only t → Only (in_turn due s t)
  only_in_turn due s t here = chosen Only due t (quietly s) (λ now. here) (λ ahead. only_quiet s)

  only_test : (s : SessionParts) (id : List ℕ) → Only (counts (answers_test s id))
  only_test s id =
      chosen (λ t. Only (counts t)) (is_logged_out s.phase) (quietly s) _ (λ out. λ e. absurd cc)
      (λ on. only_writes (Session (Heartbeat (Some id))) (quietly s) (only_quiet s))

  only_gap_fill : (s : SessionParts) (number new_number : ℕ) → Only (gap_fill_row s number new_number)
  only_gap_fill s number new_number =
      chosen Only (nat_lt number new_number) _ (ends ended.BadGapFill s) (λ forward. λ e. absurd cc) (λ back. λ e. absurd cc)

  only_refused : (s : SessionParts) (id : Option LegIdParts) → Only (refused_leg s id)
  only_refused s None e = absurd cc
  only_refused s (Some id) e = absurd cc

  only_logout : (s : SessionParts) → Only (logout_row s)
  only_logout s =
      chosen Only (is_logged_out s.phase) (ends ended.LogoutDone s) _ (λ done. λ e. absurd cc) (λ first. λ e. absurd cc)

  only_logon : (due : Bool) (s : SessionParts) (next : Option ℕ)
      → ((is_logging_on s.phase && is_forgotten s (told_number s next)) ≡ true → F) → Only (logon_row due s next)
  only_logon due s next so =
      chosen Only (not (is_logging_on s.phase)) (ends ended.LogonAgain s) _ (λ again. λ e. absurd cc)
      (λ first. chosen Only (is_too_high s (told_number s next)) (ends ended.BadNextExpected s) _
      (λ high. λ e. absurd cc)
      (λ low. chosen Only (is_forgotten s (told_number s next)) (ends ended.PeerForgot s) _
      (λ forgot. λ e. so (both_hold (is_logging_on s.phase) (is_forgotten s (told_number s next)) first forgot))
      (λ fine.
      let told = settles_told s (told_number s next) in
      let counted = counts_if due told in
      only_fence (asks_if (not due) counted)
      (only_asks_if (not due) counted (only_counts_if due told (only_told s (told_number s next)))))))

  only_resend : (due : Bool) (s : SessionParts) (begin last : ℕ)
      → ((is_settling s.phase && has_passed s begin) ≡ true → F) → Only (resend_row due s begin last)
  only_resend due s begin last so =
      chosen Only (not (is_range (last_number s.log) begin last)) (ends ended.BadResend s) _ (λ bad. λ e. absurd cc)
      (λ sent. chosen Only (is_settling s.phase && has_passed s begin) (ends ended.PeerForgot s) _
      (λ forgot. λ e. so forgot)
      (λ fine.
      only_counts_if due _
      (chosen Only (is_settling s.phase) (resend_while_settling s begin last)
      (resend_later (fill_for begin last s.settled s.log) s)
      (λ settling.
      only_fence _
      (only_filled_if (fill_for begin last (last_number s.log) s.log) (settles_at begin s) (λ e. absurd cc)))
      (λ later. only_later s (fill_for begin last s.settled s.log)))))

  only_row : (due : Bool) (s : SessionParts) (number : ℕ) (content : Content) → (forgets s content ≡ true → F)
      → Only (row due s number content)
  only_row due s number (Session (Logon heart reset next)) so = only_logon due s next so
  only_row due s number (Session (ResendRequest begin last)) so = only_resend due s begin last so
  only_row due s number (Session (Heartbeat id)) so =
      only_counts_if due (passes_fence s (named_fence s id)) (only_fence_answered s (named_fence s id))
  only_row due s number (Session (TestRequest id)) so = only_in_turn due s _ (only_test s id)
  only_row due s number (Session (GapFill new_number)) so = only_in_turn due s _ (only_gap_fill s number new_number)
  only_row due s number (Session (Reject refused)) so = only_in_turn due s _ (only_refused s (leg_at refused s.log))
  only_row due s number (Session (BusinessReject refused)) so =
      only_in_turn due s _ (only_refused s (option_and_then (λ n. leg_at n s.log) refused))
  only_row due s number (Session Logout) so = only_logout s
  only_row due s number (ExecutionReport read) so =
      only_in_turn due s (notes (report_note read) s) (λ e. absurd cc)
  only_row due s number (Session (Reset new_number)) so = only_in_turn due s (counts (quietly s)) (only_quiet s)
  only_row due s number (Order read) so = only_in_turn due s (counts (quietly s)) (only_quiet s)
  only_row due s number Other so = only_in_turn due s (counts (quietly s)) (only_quiet s)

  only_judged : (s : SessionParts) (m : Message) (how : Judged) → (forgets s m.content ≡ true → F)
      → Only (by_number s m how)
  only_judged s m judged.Due so = only_row true s m.number m.content so
  only_judged s m judged.Ahead so =
      only_missing (row false s m.number m.content) (only_row false s m.number m.content so)
  only_judged s m judged.Repeat so = only_quiet s
  only_judged s m judged.TooLow so = λ e. absurd cc

  only_received : (s : SessionParts) (m : Message) → (forgets s m.content ≡ true → F) → Only (received s m)
  only_received s m so =
      chosen Only (not (is_for s.config m)) (ends ended.WrongComp s) _ (λ wrong. λ e. absurd cc)
      (λ ours. chosen Only (is_logging_on s.phase && not (is_logon m.content)) (ends ended.FirstNotLogon s) _
      (λ early. λ e. absurd cc)
      (λ on. chosen Only (is_reset m.content) (ends ended.ResetRefused s) _ (λ reset. λ e. absurd cc)
      (λ goes_on. only_judged s m (judged s.expected m.number m.poss_dup) so)))

pub only_forgetting_ends_so : (s : SessionParts) (m : Message) → (receive s m).step.ended ≡ Some ended.PeerForgot
    → forgets s m.content ≡ true
only_forgetting_ends_so s m =
    chosen (Only (forgets s m.content ≡ true)) (is_connected s.phase) (received (hearing s) m) (quietly s)
    (λ on.
    only_received (forgets s m.content ≡ true) (hearing s) m (λ forgot. sym (heard s m.content) ∙ forgot))
    (λ off. only_quiet (forgets s m.content ≡ true) s)
