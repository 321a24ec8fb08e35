-- How a message that is received is counted: row by row, the expected number, the note and whether it is pending.
use Rattle.std.proofs.Common.{◌≡◌, ◌⊎◌, ◌&&◌, ◌||◌, ℕ, suc, Bool, true, false, not, nat_lt, nat_le, List, Option, Some, None, refl, inl, inr, arith}
use Rattle.std.proofs.lemmas.Bool.Decides.{nat_tests}
use Rattle.fix_tags.specs.Range.{is_range}
use Rattle.leg.specs.LegId.{LegIdParts}
use Rattle.dialect.specs.declared.note.Note.{Note}
use Rattle.dialect.specs.declared.note.Note.TheVariants as note
use Rattle.dialect.specs.Addressed.{is_for}
use Rattle.dialect.specs.declared.content.Content.{Content}
use Rattle.dialect.specs.declared.message.Message.{Message}
use Rattle.dialect.specs.Message.{is_logon}
use Rattle.dialect.specs.declared.content.Content.TheVariants.{Session, Order, ExecutionReport, Other}
use Rattle.fix_tags.specs.declared.session_body.SessionBody.TheVariants.{Logon, Heartbeat, TestRequest, ResendRequest, Reject, GapFill, Reset, Logout, BusinessReject}
use Rattle.resend.specs.declared.judged.Judged.{Judged}
use Rattle.resend.specs.declared.judged.Judged.TheVariants as judged
use Rattle.resend.specs.Judging.{judged}
use Rattle.resend.specs.Log.{GapFillParts, last_number, leg_at, fill_for}
use Rattle.resend.proofs.Due.{due_is_expected}
use Rattle.session_core.specs.declared.phase.Phase.{Phase}
use Rattle.session_core.specs.declared.phase.Phase.TheVariants as phase
use Rattle.session_core.specs.declared.ended.Ended.{Ended}
use Rattle.session_core.specs.declared.ended.Ended.TheVariants as ended
use Rattle.session_core.specs.Session.{SessionParts, is_connected, is_logging_on, is_settling, is_logged_out, may_write}
use Rattle.session_core.specs.Turn.{Turn, quietly, with_session, puts, puts_fence, writes, writes_fence, asks, asking, fills, settles_at, counts, notes, logs_out, ends, ends_turn, unless_ended}
use Rattle.session_core.specs.Receiving.{counts_if, asks_if, asks_missing, asks_anew, settles_told, told_number, is_too_high, has_passed, is_forgotten, in_phase, logon_row, filled_if, resend_while_settling, resend_later, resend_row, named_fence, passing, passed_in, passes_fence, answers_test, refused_leg, logout_row, report_note, row, was_requested, is_closing_fence, by_number, received, hearing, receive, is_reset}
use Rattle.session_core.proofs.Adding.{chosen}
use Rattle.session_core.specs.Counting.{note_for, refusal_note, Quiet, Counted, stays, counted, passed, gives}

pub q_puts : (e : ℕ) (content : Content) (t : Turn) → Quiet e t → Quiet e (puts content t)
q_puts e content t q = record { expected = q.expected; pending = q.pending; note = q.note }

pub q_puts_fence : (e : ℕ) (t : Turn) → Quiet e t → Quiet e (puts_fence t)
q_puts_fence e t q = record { expected = q.expected; pending = q.pending; note = q.note }

q_writes : (e : ℕ) (content : Content) (t : Turn) → Quiet e t → Quiet e (writes content t)
q_writes e content t q = chosen (Quiet e) (may_write t.session) _ t (λ may. q_puts e content t q) (λ spent. q)

q_fence : (e : ℕ) (t : Turn) → Quiet e t → Quiet e (writes_fence t)
q_fence e t q = chosen (Quiet e) (may_write t.session) _ t (λ may. q_puts_fence e t q) (λ spent. q)

q_asks : (e : ℕ) (t : Turn) → Quiet e t → Quiet e (asks t)
q_asks e t q =
    chosen (Quiet e) (may_write t.session)
    (puts (Session (ResendRequest t.session.expected 0)) (with_session (asking t.session) t)) t
    (λ may. record { expected = q.expected; pending = q.pending; note = q.note })
    (λ spent. q)

q_asks_if : (e : ℕ) (wanted : Bool) (t : Turn) → Quiet e t → Quiet e (asks_if wanted t)
q_asks_if e true t q = q_asks e t q
q_asks_if e false t q = q

q_fills : (e : ℕ) (fill : GapFillParts) (t : Turn) → Quiet e t → Quiet e (fills fill t)
q_fills e fill t q = record { expected = q.expected; pending = q.pending; note = q.note }

q_filled_if : (e : ℕ) (fill : Option GapFillParts) (t : Turn) → Quiet e t → Quiet e (filled_if fill t)
q_filled_if e None t q = q
q_filled_if e (Some fill) t q = q_fills e fill t q

pub q_ends : (e : ℕ) (why : Ended) (t : Turn) → Quiet e t → Quiet e (ends_turn why t)
q_ends e why t q = record { expected = q.expected; pending = refl; note = q.note }

q_counts : (e : ℕ) (t : Turn) → Quiet e t → Quiet (suc e) (counts t)
q_counts e t q = record { expected = (let h = q.expected in omega arith); pending = q.pending; note = q.note }

q_unless : (e : ℕ) (next : Turn → Turn) (t : Turn) (stopped : Option Ended) → Quiet e t → Quiet e (next t)
    → Quiet e (unless_ended next t stopped)
q_unless e next t None q goes = goes
q_unless e next t (Some why) q goes = q

q_asks_missing : (e : ℕ) (t : Turn) → Quiet e t → Quiet e (asks_missing t)
q_asks_missing e t q =
    q_unless e asks_anew t t.step.ended q
    (chosen (Quiet e) (is_logged_out t.session.phase || was_requested t.session) t (asks t) (λ over. q)
    (λ on. q_asks e t q))

-- counted or not, where the message may be counted
abbrev pub Row : Bool → ℕ → Turn → Type 0
Row due e t = Quiet e t ⊎ ((due ≡ true) × Quiet (suc e) t)

row_unless : (e : ℕ) (t : Turn) (stopped : Option Ended) → Quiet e t → Row true e (unless_ended counts t stopped)
row_unless e t None q = inr (refl, q_counts e t q)
row_unless e t (Some why) q = inl q

row_counts_if : (due : Bool) (e : ℕ) (t : Turn) → Quiet e t → Row due e (counts_if due t)
row_counts_if true e t q = row_unless e t t.step.ended q
row_counts_if false e t q = inl q

row_map : (due : Bool) (e : ℕ) (f : Turn → Turn) (t : Turn) → ((n : ℕ) → Quiet n t → Quiet n (f t)) → Row due e t
    → Row due e (f t)
row_map due e f t goes (inl q) = inl (goes e q)
row_map due e f t goes (inr more) = inr (more.0, goes (suc e) more.1)

module _ (s : SessionParts) (still : s.current.pending ≡ false) where
  start : Quiet s.expected (quietly s)
  start = record { expected = refl; pending = still; note = refl }

  over : (why : Ended) → Quiet s.expected (ends why s)
  over why = q_ends s.expected why (quietly s) start

  q_settles : (n : ℕ) → Quiet s.expected (settles_at n s)
  q_settles n = record { expected = refl; pending = still; note = refl }

  q_told : (next : Option ℕ) → Quiet s.expected (settles_told s next)
  q_told None = start
  q_told (Some n) =
      chosen (Quiet s.expected) (nat_le n s.current.logon_number) _ (settles_at n s)
      (λ below. q_fills s.expected _ (settles_at n s) (q_settles n)) (λ above. q_settles n)

  row_logon : (due : Bool) (next : Option ℕ) → Row due s.expected (logon_row due s next)
  row_logon due next =
      chosen (Row due s.expected) (not (is_logging_on s.phase)) (ends ended.LogonAgain s) _
      (λ again. inl (over ended.LogonAgain))
      (λ first. chosen (Row due s.expected) (is_too_high s (told_number s next)) (ends ended.BadNextExpected s) _
      (λ high. inl (over ended.BadNextExpected))
      (λ low. chosen (Row due s.expected) (is_forgotten s (told_number s next)) (ends ended.PeerForgot s) _
      (λ forgot. inl (over ended.PeerForgot))
      (λ fine.
      let told = settles_told s (told_number s next) in
      let counted = counts_if due told in
      row_map due s.expected (λ t. in_phase phase.Settling (writes_fence (asks_if (not due) t))) counted
      (λ n q.
      (let x = q_fence n (asks_if (not due) counted) (q_asks_if n (not due) counted q) in
      record { expected = x.expected; pending = x.pending; note = x.note }))
      (row_counts_if due s.expected told (q_told (told_number s next))))))

  q_later : (fill : Option GapFillParts) → Quiet s.expected (resend_later fill s)
  q_later None = over ended.ResendInDoubt
  q_later (Some fill) = q_fills s.expected fill (quietly s) start

  row_resend : (due : Bool) (begin last : ℕ) → Row due s.expected (resend_row due s begin last)
  row_resend due begin last =
      chosen (Row due s.expected) (not (is_range (last_number s.log) begin last)) (ends ended.BadResend s) _
      (λ bad. inl (over ended.BadResend))
      (λ sent. chosen (Row due s.expected) (is_settling s.phase && has_passed s begin) (ends ended.PeerForgot s) _
      (λ forgot. inl (over ended.PeerForgot))
      (λ good.
      row_counts_if due s.expected _
      (chosen (Quiet s.expected) (is_settling s.phase) (resend_while_settling s begin last)
      (resend_later (fill_for begin last s.settled s.log) s)
      (λ settling.
      q_fence s.expected _
      (q_filled_if s.expected (fill_for begin last (last_number s.log) s.log) (settles_at begin s) (q_settles begin)))
      (λ later. q_later (fill_for begin last s.settled s.log)))))

  q_passing : (fence : ℕ) → Quiet s.expected (quietly (passing fence s))
  q_passing fence = record { expected = refl; pending = still; note = refl }

  q_out : (fence : ℕ) → Quiet s.expected (logs_out (passing fence s))
  q_out fence =
      (let x = q_writes s.expected (Session Logout) (quietly (passing fence s)) (q_passing fence) in
      record { expected = x.expected; pending = x.pending; note = x.note })

  q_passed : (now : Phase) (fence : ℕ) → Quiet s.expected (passed_in now fence (passing fence s))
  q_passed phase.Settling fence =
      chosen (Quiet s.expected) s.close_asked (logs_out (passing fence s)) _
      (λ closes. q_out fence) (λ goes_on. record { expected = refl; pending = still; note = refl })
  q_passed phase.Closing fence =
      chosen (Quiet s.expected) (is_closing_fence s fence) (logs_out (passing fence s)) _
      (λ last. q_out fence) (λ earlier. q_passing fence)
  q_passed phase.Down fence = q_passing fence
  q_passed phase.LoggingOn fence = q_passing fence
  q_passed phase.Up fence = q_passing fence
  q_passed phase.LoggedOut fence = q_passing fence
  q_passed phase.Closed fence = q_passing fence

  q_passes : (fence : Option ℕ) → Quiet s.expected (passes_fence s fence)
  q_passes None = start
  q_passes (Some fence) = q_passed s.phase fence

  q_test : (id : List ℕ) → Quiet s.expected (answers_test s id)
  q_test id =
      chosen (Quiet s.expected) (is_logged_out s.phase) (quietly s) (writes (Session (Heartbeat (Some id))) (quietly s))
      (λ out. start) (λ on. q_writes s.expected _ (quietly s) start)

  q_logout : Quiet s.expected (logout_row s)
  q_logout =
      chosen (Quiet s.expected) (is_logged_out s.phase) (ends ended.LogoutDone s) _ (λ out. over ended.LogoutDone)
      (λ on.
      q_ends s.expected ended.PeerLogout (writes (Session Logout) (quietly s)) (q_writes s.expected (Session Logout) (quietly s) start))

  module _ (number : ℕ) (due : number ≡ s.expected) where
    by_row : (content : Content) (t : Turn) → note_for s.log content ≡ None → Row true s.expected t
        → Counted s number content t
    by_row content t none (inl q) = stays q
    by_row content t none (inr q) = counted due none q.1

    gives_note : (content : Content) (given : Note) → note_for s.log content ≡ Some given
        → Counted s number content (notes given s)
    gives_note content given is = gives due given is refl refl refl

    by_refusal : (content : Content) (id : Option LegIdParts) → note_for s.log content ≡ refusal_note id
        → Counted s number content (refused_leg s id)
    by_refusal content (Some id) is = gives_note content (note.Refused id) is
    by_refusal content None is = counted due is (q_counts s.expected (quietly s) start)

    counts_on : (content : Content) (t : Turn) → note_for s.log content ≡ None → Quiet s.expected t
        → Counted s number content (counts t)
    counts_on content t none q = counted due none (q_counts s.expected t q)

    due_counted : (content : Content) → Counted s number content (row true s number content)
    due_counted (Session (Logon heart reset next)) =
        by_row (Session (Logon heart reset next)) (logon_row true s next) refl (row_logon true next)
    due_counted (Session (ResendRequest begin last)) =
        by_row (Session (ResendRequest begin last)) (resend_row true s begin last) refl (row_resend true begin last)
    due_counted (Session (Heartbeat id)) =
        by_row (Session (Heartbeat id)) (counts_if true (passes_fence s (named_fence s id))) refl
        (row_counts_if true s.expected (passes_fence s (named_fence s id)) (q_passes (named_fence s id)))
    due_counted (Session (TestRequest id)) = counts_on (Session (TestRequest id)) (answers_test s id) refl (q_test id)
    due_counted (Session (GapFill new_number)) =
        chosen (Counted s number (Session (GapFill new_number))) (nat_lt number new_number)
        (quietly (record s { expected = new_number })) (ends ended.BadGapFill s)
        (λ forward.
        passed due new_number refl (grind (arith, nat_tests, forward))
        (record { expected = refl; pending = still; note = refl }))
        (λ back. stays (over ended.BadGapFill))
    due_counted (Session (Reject refused)) = by_refusal (Session (Reject refused)) (leg_at refused s.log) refl
    due_counted (Session (BusinessReject None)) = counts_on (Session (BusinessReject None)) (quietly s) refl start
    due_counted (Session (BusinessReject (Some refused))) = by_refusal (Session (BusinessReject (Some refused))) (leg_at refused s.log) refl
    due_counted (Session Logout) = stays q_logout
    due_counted (ExecutionReport read) = gives_note (ExecutionReport read) (report_note read) refl
    due_counted (Session (Reset new_number)) = counts_on (Session (Reset new_number)) (quietly s) refl start
    due_counted (Order read) = counts_on (Order read) (quietly s) refl start
    due_counted Other = counts_on Other (quietly s) refl start

  q_row : (t : Turn) → Row false s.expected t → Quiet s.expected t
  q_row t (inl q) = q
  q_row t (inr is) = absurd (let e = is.0 in cc)

  q_ahead : (number : ℕ) (content : Content) → Quiet s.expected (row false s number content)
  q_ahead number (Session (Logon heart reset next)) = q_row (logon_row false s next) (row_logon false next)
  q_ahead number (Session (ResendRequest begin last)) = q_row (resend_row false s begin last) (row_resend false begin last)
  q_ahead number (Session (Heartbeat id)) = q_passes (named_fence s id)
  q_ahead number (Session Logout) = q_logout
  q_ahead number (Session (Reset new_number)) = start
  q_ahead number (Session (TestRequest id)) = start
  q_ahead number (Session (GapFill new_number)) = start
  q_ahead number (Session (Reject refused)) = start
  q_ahead number (Session (BusinessReject refused)) = start
  q_ahead number (ExecutionReport read) = start
  q_ahead number (Order read) = start
  q_ahead number Other = start

  number_counted : (m : Message) (how : Judged) → judged s.expected m.number m.poss_dup ≡ how
      → Counted s m.number m.content (by_number s m how)
  number_counted m judged.Due is =
      due_counted m.number ((due_is_expected s.expected m.number m.poss_dup).0 is) m.content
  number_counted m judged.Ahead is =
      stays (q_asks_missing s.expected (row false s m.number m.content) (q_ahead m.number m.content))
  number_counted m judged.Repeat is = stays start
  number_counted m judged.TooLow is = stays (over ended.TooLow)

  received_counted : (m : Message) → Counted s m.number m.content (received s m)
  received_counted m =
      chosen (Counted s m.number m.content) (not (is_for s.config m)) (ends ended.WrongComp s) _
      (λ wrong. stays (over ended.WrongComp))
      (λ ours.
      chosen (Counted s m.number m.content) (is_logging_on s.phase && not (is_logon m.content))
      (ends ended.FirstNotLogon s) _
      (λ early. stays (over ended.FirstNotLogon))
      (λ late. chosen (Counted s m.number m.content) (is_reset m.content) (ends ended.ResetRefused s) _
      (λ reset. stays (over ended.ResetRefused))
      (λ goes_on. number_counted m (judged s.expected m.number m.poss_dup) refl)))

pub receive_counted : (s : SessionParts) (m : Message) → s.current.pending ≡ false
    → Counted (hearing s) m.number m.content (receive s m)
receive_counted s m still =
    chosen (Counted (hearing s) m.number m.content) (is_connected s.phase) (received (hearing s) m) (quietly s)
    (λ on. received_counted (hearing s) refl m)
    (λ off. stays (record { expected = refl; pending = still; note = refl }))

-- a session that has a connection
pub connected_counted : (s : SessionParts) (m : Message) → is_connected s.phase ≡ true
    → Counted (hearing s) m.number m.content (receive s m)
connected_counted s m on = rw on (received_counted (hearing s) refl m)
