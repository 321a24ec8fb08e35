-- A message that is received takes the session onward, and withdraws legs while logging on and while settling alone.
use Rattle.std.proofs.Common.{◌≡◌, ◌≤◌, ℕ, Bool, true, false, ◌&&◌, not, nat_lt, nat_le, List, [], Option, Some, None, refl, sym, subst, ◌∙◌, arith, length, ◌+◌, ap}
use Rattle.std.proofs.lemmas.Bool.Decides.{nat_tests}
use Rattle.std.specs.Option.{is_some, option_and_then}
use Rattle.fix_tags.specs.Range.{is_range}
use Rattle.leg.specs.LegId.{LegIdParts}
use Rattle.leg.specs.declared.leg_state.LegState.TheVariants.{Taken, Withdrawn}
use Rattle.dialect.specs.declared.note.Note.{Note}
use Rattle.dialect.specs.Addressed.{is_for}
use Rattle.dialect.specs.declared.content.Content.{Content}
use Rattle.dialect.specs.declared.message.Message.{Message}
use Rattle.dialect.specs.Message.{is_logon}
use Rattle.dialect.specs.declared.content.Content.TheVariants.{Session, Order, ExecutionReport, Other}
use Rattle.fix_tags.specs.declared.session_body.SessionBody.TheVariants.{Logon, Heartbeat, TestRequest, ResendRequest, Reject, GapFill, Reset, Logout, BusinessReject}
use Rattle.resend.specs.declared.judged.Judged.{Judged}
use Rattle.resend.specs.declared.judged.Judged.TheVariants as judged
use Rattle.resend.specs.Judging.{judged}
use Rattle.resend.specs.Log.{Entry, GapFillParts, last_number, last_ordinal, take_below, give_up_from, leg_at, fill_for}
use Rattle.resend.specs.Later.{withdrawn_since}
use Rattle.resend.proofs.Later.{length-settled_where, later-refl, later-trans, later-take_below, later-give_up_from, withdraws_none-take_below}
use Rattle.resend.proofs.Settled.{since-refl, since-settled, since-take_below}
use Rattle.resend.proofs.Due.{due_is_expected}
use Rattle.session_core.specs.declared.phase.Phase.{Phase}
use Rattle.session_core.specs.declared.phase.Phase.TheVariants.{Down, LoggingOn, Settling, Up, Closing, LoggedOut, Closed}
use Rattle.session_core.specs.declared.ended.Ended.{Ended}
use Rattle.session_core.specs.declared.ended.Ended.TheVariants as ended
use Rattle.session_core.specs.Session.{SessionParts, is_connected, is_logging_on, is_settling, is_logged_out}
use Rattle.session_core.specs.Turn.{Turn, quietly, writes, writes_fence, fills, settles_at, counts, notes, logs_out, ends, ends_turn}
use Rattle.session_core.specs.Receiving.{is_reset, counts_if, told_number, is_too_high, has_passed, is_forgotten, settles_told, asks_if, in_phase, logon_row, filled_if, resend_while_settling, resend_later, resend_row, named_fence, passing, is_closing_fence, passed_in, passes_fence, answers_test, gap_fill_row, refused_leg, refused_row, logout_row, report_note, in_turn, row, by_number, received, hearing, receive}
use Rattle.session_core.specs.Onward.{IsOnward, IsReceived, SettlesAsTold, may_withdraw, told_taken}
use Rattle.session_core.proofs.Ordinals.{last-settled_where}
use Rattle.session_core.proofs.Told.{passed-told, settled-told, same-told}
use Rattle.session_core.proofs.Adding.{Goes, chosen, adds-writes, adds-writes_fence, adds-asks_if, adds-fills, adds-filled_if, adds-counts, adds-in_phase, adds-ends_turn, adds-logs_out, adds-counts_if, adds-asks_missing, received_by}

-- the same log, and an expected number that is no lower
onward_with : (s t : SessionParts) → t.config ≡ s.config → t.log ≡ s.log → t.connection ≡ s.connection
    → s.expected ≤ t.expected → t.close_asked ≡ s.close_asked → IsOnward s t
onward_with s t config log connection expected close_asked = record {
  config = config;
  log = rw log (later-refl s.log);
  connection = omega arith;
  expected = expected;
  close_asked = λ asked. close_asked ∙ asked;
}

told_may : {may : Bool} (on told : Bool) → not on ≡ false → told ≡ true → (on && told) ≡ may → may ≡ true
told_may true true first told_so is = sym is
told_may true false first told_so is = absurd cc
told_may false told first told_so is = absurd cc

module _ (may : Bool) (told : Option ℕ) where
  received_with : (s : SessionParts) (turn : Turn) → turn.session.config ≡ s.config → turn.session.log ≡ s.log
      → turn.session.connection ≡ s.connection → s.expected ≤ turn.session.expected
      → turn.session.close_asked ≡ s.close_asked → turn.step.withdrawn ≡ [] → turn.step.written ≡ [] → Goes may told s turn
  received_with s turn config log connection expected close_asked withdrawn written = record {
    onward = onward_with s turn.session config log connection expected close_asked;
    last = ap last_ordinal log;
    spends = rw written (ap (λ (l : List Entry). length l + 1) log);
    named = withdrawn ∙ sym (rw log (since-refl s.log));
    spares = λ not_now. record { named = withdrawn; settled = rw log (λ number leg is gone. is) };
    settles = same-told told s.log turn.session.log log;
  }

  received_quietly : (s : SessionParts) → Goes may told s (quietly s)
  received_quietly s = received_with s (quietly s) refl refl refl (omega arith) refl refl refl

  received_ends : (why : Ended) (s : SessionParts) → Goes may told s (ends why s)
  received_ends why s = received_by may told s (quietly s) (ends why s) (received_quietly s) (adds-ends_turn why (quietly s))

  received_notes : (note : Note) (s : SessionParts) → Goes may told s (notes note s)
  received_notes note s = received_with s (notes note s) refl refl refl (omega arith) refl refl refl

  received_counts : (s : SessionParts) (turn : Turn) → Goes may told s turn → Goes may told s (counts turn)
  received_counts s turn goes = received_by may told s turn (counts turn) goes (adds-counts turn)

  -- settling, in a phase in which the exchange says what it got
  received_settles : (n : ℕ) (s : SessionParts) → may ≡ true → Some n ≡ told → Goes may told s (settles_at n s)
  received_settles n s now says = record {
    onward = record {
      config = refl;
      log =
          later-trans s.log (take_below n s.log) (give_up_from n (take_below n s.log)) (later-take_below n s.log)
          (later-give_up_from n (take_below n s.log));
      connection = omega arith;
      expected = omega arith;
      close_asked = λ asked. asked;
    };
    last =
        last-settled_where (λ k. nat_le n k) Withdrawn 0 1 (take_below n s.log)
        ∙ last-settled_where (λ k. nat_lt k n) Taken 0 1 s.log;
    spends =
        ap (λ (n : ℕ). n + 1)
        (length-settled_where (λ k. nat_le n k) Withdrawn 1 (take_below n s.log)
        ∙ length-settled_where (λ k. nat_lt k n) Taken 1 s.log);
    named = sym (since-settled n s.log);
    spares = λ not_now. absurd (let e = sym now ∙ not_now in cc);
    settles =
        subst (λ (o : Option ℕ). SettlesAsTold o s.log (give_up_from n (take_below n s.log))) says
        (settled-told n s.log);
  }

  received_told : (s : SessionParts) (next : Option ℕ) → (is_some next ≡ true → may ≡ true) → next ≡ told
      → Goes may told s (settles_told s next)
  received_told s None now says = received_quietly s
  received_told s (Some n) now says =
      chosen (Goes may told s) (nat_le n s.current.logon_number) _ (settles_at n s)
      (λ lower.
      received_by may told s (settles_at n s) _ (received_settles n s (now refl) says) (adds-fills _ (settles_at n s)))
      (λ higher. received_settles n s (now refl) says)

  received_logon : (due : Bool) (s : SessionParts) (next : Option ℕ)
      → (is_logging_on s.phase && is_some (told_number s next)) ≡ may → told_number s next ≡ told
      → Goes may told s (logon_row due s next)
  received_logon due s next is says =
      chosen (Goes may told s) (not (is_logging_on s.phase)) (ends ended.LogonAgain s) _
      (λ again. received_ends ended.LogonAgain s)
      (λ first. chosen (Goes may told s) (is_too_high s (told_number s next)) (ends ended.BadNextExpected s) _
      (λ high. received_ends ended.BadNextExpected s)
      (λ low. chosen (Goes may told s) (is_forgotten s (told_number s next)) (ends ended.PeerForgot s) _
      (λ forgot. received_ends ended.PeerForgot s)
      (λ good.
      (let settled = settles_told s (told_number s next) in
      let counted = counts_if due settled in
      let asked = asks_if (not due) counted in
      let fenced = writes_fence asked in
      received_by may told s fenced (in_phase Settling fenced)
      (received_by may told s asked fenced
      (received_by may told s counted asked
      (received_by may told s settled counted
      (received_told s (told_number s next)
      (λ told_so. told_may (is_logging_on s.phase) (is_some (told_number s next)) first told_so is) says)
      (adds-counts_if due settled))
      (adds-asks_if (not due) counted))
      (adds-writes_fence asked))
      (adds-in_phase Settling fenced)))))

  received_resend_settling : (s : SessionParts) (begin last : ℕ) → may ≡ true → Some begin ≡ told
      → Goes may told s (resend_while_settling s begin last)
  received_resend_settling s begin last now says =
      let settled = settles_at begin s in
      let filled = filled_if (fill_for begin last (last_number s.log) s.log) settled in
      received_by may told s filled (writes_fence filled)
      (received_by may told s settled filled (received_settles begin s now says)
      (adds-filled_if (fill_for begin last (last_number s.log) s.log) settled))
      (adds-writes_fence filled)

  received_resend_later : (s : SessionParts) (fill : Option GapFillParts) → Goes may told s (resend_later fill s)
  received_resend_later s None = received_ends ended.ResendInDoubt s
  received_resend_later s (Some fill) =
      received_by may told s (quietly s) (fills fill (quietly s)) (received_quietly s) (adds-fills fill (quietly s))

  received_resend : (due : Bool) (s : SessionParts) (begin last : ℕ) → is_settling s.phase ≡ may → Some begin ≡ told
      → Goes may told s (resend_row due s begin last)
  received_resend due s begin last is says =
      chosen (Goes may told s) (not (is_range (last_number s.log) begin last)) (ends ended.BadResend s) _
      (λ bad. received_ends ended.BadResend s)
      (λ sent. chosen (Goes may told s) (is_settling s.phase && has_passed s begin) (ends ended.PeerForgot s) _
      (λ forgot. received_ends ended.PeerForgot s)
      (λ good.
      received_by may told s _ _
      (chosen (Goes may told s) (is_settling s.phase) (resend_while_settling s begin last)
      (resend_later (fill_for begin last s.settled s.log) s)
      (λ settling. received_resend_settling s begin last (sym is ∙ settling) says)
      (λ later. received_resend_later s (fill_for begin last s.settled s.log)))
      (adds-counts_if due _)))

  -- legs below a fence are taken
  received_passing : (s t : SessionParts) (fence : ℕ) → t.config ≡ s.config → t.log ≡ take_below fence s.log
      → t.connection ≡ s.connection → t.expected ≡ s.expected → t.close_asked ≡ s.close_asked → Some fence ≡ told
      → Goes may told s (quietly t)
  received_passing s t fence config log connection expected close_asked says = record {
    onward = record {
      config = config;
      log = rw log (later-take_below fence s.log);
      connection = omega arith;
      expected = omega arith;
      close_asked = λ asked. close_asked ∙ asked;
    };
    last = ap last_ordinal log ∙ last-settled_where (λ k. nat_lt k fence) Taken 0 1 s.log;
    spends =
        ap (λ (l : List Entry). length l + 1) log ∙ ap (λ (n : ℕ). n + 1)
        (length-settled_where (λ k. nat_lt k fence) Taken 1 s.log);
    named = sym (ap (withdrawn_since s.log) log ∙ since-take_below fence s.log);
    spares = λ not_now. record { named = refl; settled = rw log (withdraws_none-take_below fence s.log) };
    settles =
        rw log (subst (λ (o : Option ℕ). SettlesAsTold o s.log (take_below fence s.log)) says
        (passed-told fence s.log));
  }

  received_quietly_passing : (s : SessionParts) (fence : ℕ) → Some fence ≡ told
      → Goes may told s (quietly (passing fence s))
  received_quietly_passing s fence = received_passing s (passing fence s) fence refl refl refl refl refl

  received_logs_out : (s : SessionParts) (fence : ℕ) → Some fence ≡ told → Goes may told s (logs_out (passing fence s))
  received_logs_out s fence says =
      received_by may told s (quietly (passing fence s)) (logs_out (passing fence s))
      (received_quietly_passing s fence says)
      (adds-logs_out (passing fence s))

  received_passed_in : (s : SessionParts) (fence : ℕ) (phase : Phase) → Some fence ≡ told
      → Goes may told s (passed_in phase fence (passing fence s))
  received_passed_in s fence Settling says =
      chosen (Goes may told s) s.close_asked (logs_out (passing fence s)) (quietly (record (passing fence s) { phase = Up }))
      (λ asked. received_logs_out s fence says)
      (λ open_still. received_passing s (record (passing fence s) { phase = Up }) fence refl refl refl refl refl says)
  received_passed_in s fence Closing says =
      chosen (Goes may told s) (is_closing_fence s fence) (logs_out (passing fence s)) (quietly (passing fence s))
      (λ done. received_logs_out s fence says)
      (λ early. received_quietly_passing s fence says)
  received_passed_in s fence Down says = received_quietly_passing s fence says
  received_passed_in s fence LoggingOn says = received_quietly_passing s fence says
  received_passed_in s fence Up says = received_quietly_passing s fence says
  received_passed_in s fence LoggedOut says = received_quietly_passing s fence says
  received_passed_in s fence Closed says = received_quietly_passing s fence says

  received_fence : (s : SessionParts) (fence : Option ℕ) → fence ≡ told → Goes may told s (passes_fence s fence)
  received_fence s None says = received_quietly s
  received_fence s (Some fence) says = received_passed_in s fence s.phase says

  received_test : (s : SessionParts) (id : List ℕ) → Goes may told s (answers_test s id)
  received_test s id =
      chosen (Goes may told s) (is_logged_out s.phase) (quietly s) _
      (λ over. received_quietly s)
      (λ going. received_by may told s (quietly s) _ (received_quietly s) (adds-writes (Session (Heartbeat (Some id))) (quietly s)))

  received_gap_fill : (s : SessionParts) (number new_number : ℕ) → number ≡ s.expected
      → Goes may told s (gap_fill_row s number new_number)
  received_gap_fill s number new_number due =
      chosen (Goes may told s) (nat_lt number new_number) (quietly (record s { expected = new_number }))
      (ends ended.BadGapFill s)
      (λ forward.
      (let above : s.expected ≤ new_number = grind (arith, nat_tests, forward, due) in
      received_with s (quietly (record s { expected = new_number })) refl refl refl above refl refl refl))
      (λ back. received_ends ended.BadGapFill s)

  received_refused_leg : (s : SessionParts) (id : Option LegIdParts) → Goes may told s (refused_leg s id)
  received_refused_leg s (Some id) = received_notes _ s
  received_refused_leg s None = received_counts s (quietly s) (received_quietly s)

  received_refused : (s : SessionParts) (number : Option ℕ) → Goes may told s (refused_row s number)
  received_refused s number = received_refused_leg s (option_and_then (λ n. leg_at n s.log) number)

  received_logout : (s : SessionParts) → Goes may told s (logout_row s)
  received_logout s =
      chosen (Goes may told s) (is_logged_out s.phase) (ends ended.LogoutDone s) _
      (λ done. received_ends ended.LogoutDone s)
      (λ first.
      (let wrote = writes (Session Logout) (quietly s) in
      received_by may told s wrote (ends_turn ended.PeerLogout wrote)
      (received_by may told s (quietly s) wrote (received_quietly s) (adds-writes (Session Logout) (quietly s)))
      (adds-ends_turn ended.PeerLogout wrote)))

  received_in_turn : (due : Bool) (s : SessionParts) (turn : Turn) → (due ≡ true → Goes may told s turn)
      → Goes may told s (in_turn due s turn)
  received_in_turn due s turn goes = chosen (Goes may told s) due turn (quietly s) goes (λ ahead. received_quietly s)

  received_counted : (due : Bool) (s : SessionParts) → Goes may told s (in_turn due s (counts (quietly s)))
  received_counted due s = received_in_turn due s _ (λ now. received_counts s (quietly s) (received_quietly s))

  received_row : (due : Bool) (s : SessionParts) (number : ℕ) (content : Content) → may_withdraw s content ≡ may
      → told_taken s content ≡ told → (due ≡ true → number ≡ s.expected)
      → Goes may told s (row due s number content)
  received_row due s number (Session (Logon heart reset next)) is says at = received_logon due s next is says
  received_row due s number (Session (ResendRequest begin last)) is says at = received_resend due s begin last is says
  received_row due s number (Session (Heartbeat id)) is says at =
      received_by may told s _ _ (received_fence s (named_fence s id) says)
      (adds-counts_if due (passes_fence s (named_fence s id)))
  received_row due s number (Session (TestRequest id)) is says at =
      received_in_turn due s _ (λ now. received_counts s (answers_test s id) (received_test s id))
  received_row due s number (Session (GapFill new_number)) is says at =
      received_in_turn due s _ (λ now. received_gap_fill s number new_number (at now))
  received_row due s number (Session (Reject refused)) is says at = received_in_turn due s _ (λ now. received_refused s (Some refused))
  received_row due s number (Session (BusinessReject refused)) is says at =
      received_in_turn due s _ (λ now. received_refused s refused)
  received_row due s number (Session Logout) is says at = received_logout s
  received_row due s number (ExecutionReport read) is says at =
      received_in_turn due s _ (λ now. received_notes (report_note read) s)
  received_row due s number (Session (Reset new_number)) is says at = received_counted due s
  received_row due s number (Order read) is says at = received_counted due s
  received_row due s number Other is says at = received_counted due s

  received_by_number : (s : SessionParts) (m : Message) (how : Judged) → may_withdraw s m.content ≡ may
      → told_taken s m.content ≡ told → judged s.expected m.number m.poss_dup ≡ how → Goes may told s (by_number s m how)
  received_by_number s m judged.Due may_is says is =
      received_row true s m.number m.content may_is says (λ now. (due_is_expected s.expected m.number m.poss_dup).0 is)
  received_by_number s m judged.Ahead may_is says is =
      received_by may told s _ _ (received_row false s m.number m.content may_is says (λ now. absurd cc))
      (adds-asks_missing (row false s m.number m.content))
  received_by_number s m judged.Repeat may_is says is = received_quietly s
  received_by_number s m judged.TooLow may_is says is = received_ends ended.TooLow s

  received_checked : (s : SessionParts) (m : Message) → may_withdraw s m.content ≡ may → told_taken s m.content ≡ told
      → Goes may told s (received s m)
  received_checked s m may_is says =
      chosen (Goes may told s) (not (is_for s.config m)) (ends ended.WrongComp s) _
      (λ wrong. received_ends ended.WrongComp s)
      (λ ours. chosen (Goes may told s) (is_logging_on s.phase && not (is_logon m.content)) (ends ended.FirstNotLogon s) _
      (λ early. received_ends ended.FirstNotLogon s)
      (λ on. chosen (Goes may told s) (is_reset m.content) (ends ended.ResetRefused s) _
      (λ reset. received_ends ended.ResetRefused s)
      (λ goes_on. received_by_number s m (judged s.expected m.number m.poss_dup) may_is says refl)))

  received_hearing : (s : SessionParts) (turn : Turn) → Goes may told (hearing s) turn → Goes may told s turn
  received_hearing s turn goes = record {
    onward = record {
      config = goes.onward.config;
      log = goes.onward.log;
      connection = goes.onward.connection;
      expected = goes.onward.expected;
      close_asked = goes.onward.close_asked;
    };
    last = goes.last;
    spends = goes.spends;
    named = goes.named;
    spares = λ not_now. (let spared = goes.spares not_now in record { named = spared.named; settled = spared.settled });
    settles = goes.settles;
  }

  receive_goes : (s : SessionParts) (m : Message) → may_withdraw s m.content ≡ may → told_taken s m.content ≡ told
      → Goes may told s (receive s m)
  receive_goes s m may_is says =
      chosen (Goes may told s) (is_connected s.phase) (received (hearing s) m) (quietly s)
      (λ connected. received_hearing s (received (hearing s) m) (received_checked (hearing s) m may_is says))
      (λ gone. received_quietly s)

pub receive_is_received : (s : SessionParts) (m : Message) → IsReceived s m (receive s m)
receive_is_received s m =
    (let goes = receive_goes (may_withdraw s m.content) (told_taken s m.content) s m refl refl in
    record {
      onward = goes.onward;
      spends = goes.spends;
      named = goes.named;
      spares = goes.spares;
      settles = goes.settles;
    })

-- no leg is sent by it
pub receive-last : (s : SessionParts) (m : Message) → last_ordinal (receive s m).session.log ≡ last_ordinal s.log
receive-last s m = (receive_goes (may_withdraw s m.content) (told_taken s m.content) s m refl refl).last
