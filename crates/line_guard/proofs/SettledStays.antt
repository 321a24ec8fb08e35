-- A session's settled number changes only where a fence of the present connection is answered, and never before the
-- session is up.
use Rattle.std.proofs.Common.{◌≡◌, ◌⊎◌, ◌&&◌, ◌||◌, ℕ, Bool, true, false, not, nat_lt, nat_le, List, [], ◌∷◌, Option, Some, None, Ok, Err, refl, subst, inl, inr, if◌then◌else◌}
use Rattle.std.specs.Prelude.{IfSome}
use Rattle.std.specs.Option.{option_and_then}
use Rattle.std.specs.List.{Contains}
use Rattle.std.specs.Str.{bytes_eq}
use Rattle.std.proofs.lemmas.Option.{IfSome_then}
use Rattle.std.proofs.lemmas.Slice.Eq.{bytes_eq-Decides}
use Rattle.std.proofs.lemmas.List.Elements.{Contains-append_left, Contains-append_right, Contains-push}
use Rattle.fix_tags.specs.Range.{is_range}
use Rattle.leg.specs.LegId.{LegIdParts}
use Rattle.dialect.specs.Addressed.{is_for}
use Rattle.dialect.specs.declared.content.Content.{Content}
use Rattle.dialect.specs.declared.message.Message.{Message}
use Rattle.dialect.specs.Message.{is_logon}
use Rattle.dialect.specs.declared.content.Content.TheVariants.{Session, Order, ExecutionReport, Other}
use Rattle.fix_tags.specs.declared.session_body.SessionBody.TheVariants.{Logon, Heartbeat, TestRequest, ResendRequest, Reject, GapFill, Reset, Logout, BusinessReject}
use Rattle.resend.specs.declared.judged.Judged.{Judged}
use Rattle.resend.specs.declared.judged.Judged.TheVariants as judged
use Rattle.resend.specs.Judging.{judged}
use Rattle.resend.specs.Log.{GapFillParts, last_number, leg_at, fill_for}
use Rattle.session_core.specs.declared.phase.Phase.{Phase}
use Rattle.session_core.specs.declared.phase.Phase.TheVariants as phase
use Rattle.session_core.specs.declared.ended.Ended.{Ended}
use Rattle.session_core.specs.declared.ended.Ended.TheVariants as ended
use Rattle.session_core.specs.declared.session_fault.SessionFault.TheVariants as fault
use Rattle.session_core.specs.Session.{SessionParts, is_connected, is_still, is_logging_on, is_settling, is_logged_out, may_write}
use Rattle.session_core.specs.Turn.{Turn, quietly, puts, puts_fence, writes, writes_fence, fence_id, asks, settles_at, counting, counts, with_pending, notes, logs_out, ends, ends_turn, unless_ended, after_peer_logout, phase_after, disconnected}
use Rattle.session_core.specs.Receiving.{is_reset, counts_if, told_number, is_too_high, has_passed, is_forgotten, settles_told, asks_if, logon_row, filled_if, resend_while_settling, resend_later, resend_row, fence_in, named_fence, passing, is_closing_fence, passed_in, passes_fence, answers_test, gap_fill_row, refused_leg, refused_row, logout_row, report_note, in_turn, row, was_requested, asks_anew, asks_missing, by_number, received, hearing, receive, confirm}
use Rattle.session_core.specs.Calling.{SessionAnswer, refuses, answers, quiet, silent, hushed, close_in, closing_up, broken, abandon}
use Rattle.session_core.proofs.Adding.{chosen}
use Rattle.venue_line.specs.Line.{IsCallOf}
use Rattle.venue_line.specs.Copies.{IsBeforeUp}

not_after : (is_over : Bool) (now : Phase) → IsBeforeUp (phase_after is_over now) → ⊥
not_after is_over now =
    chosen (λ p. IsBeforeUp p → ⊥) (is_over || is_logged_out now) phase.Closed phase.Down (λ on e. e) (λ off e. e)

on_early : (now : Phase) → not (is_logging_on now) ≡ false → IsBeforeUp now
on_early phase.LoggingOn is = tt
on_early phase.Down is = absurd cc
on_early phase.Settling is = absurd cc
on_early phase.Up is = absurd cc
on_early phase.Closing is = absurd cc
on_early phase.LoggedOut is = absurd cc
on_early phase.Closed is = absurd cc

first_of : (b : Bool) → (b && true) ≡ false → b ≡ false
first_of true is = is
first_of false is = refl

-- a fence that an id names
record Names (id : List ℕ) (fences : List ℕ) (fence : ℕ) : Type 0 where
  written : Contains fences fence
  named : id ≡ fence_id fence

names_more : (id : List ℕ) (first : ℕ) (fences : List ℕ) (found : Option ℕ) → IfSome found (Names id fences)
    → IfSome found (Names id (first ∷ fences))
names_more id first fences None is = tt
names_more id first fences (Some fence) is =
    record { written = Contains-append_right (first ∷ []) fences fence is.written; named = is.named }

fence_named : (id : List ℕ) (fences : List ℕ) → IfSome (fence_in id fences) (Names id fences)
fence_named id [] = tt
fence_named id (first ∷ fences) =
    chosen (λ (o : Option ℕ). IfSome o (Names id (first ∷ fences))) (bytes_eq id (fence_id first)) (Some first)
    (fence_in id fences)
    (λ same. record {
      written = Contains-append_left (first ∷ []) fences first (Contains-push [] first);
      named = (bytes_eq-Decides id (fence_id first)).0 same;
    })
    (λ other. names_more id first fences (fence_in id fences) (fence_named id fences))

-- the settled number is that of a fence of the connection, which this answers
pub record IsPassedBy (s : SessionParts) (content : Content) (settled : ℕ) : Type 0 where
  pub fence : ℕ
  pub there : Contains s.current.fences fence
  pub says : content ≡ Session (Heartbeat (Some (fence_id fence)))
  pub same : settled ≡ fence

module _ (s : SessionParts) where
  -- the settled number stays
  abbrev pub Plain : SessionParts → Type 0
  Plain t = (t.connection ≡ s.connection) × (t.settled ≡ s.settled) × (IsBeforeUp t.phase → IsBeforeUp s.phase)

  pub plain : Plain s
  plain = (refl, refl, λ e. e)

  -- or it is passed by an answered fence, and then the session is not before up
  abbrev pub Goes : Content → SessionParts → Type 0
  Goes content t = (t.connection ≡ s.connection)
      × (IsBeforeUp t.phase → IsBeforeUp s.phase × (t.settled ≡ s.settled))
      × ((t.settled ≡ s.settled) ⊎ IsPassedBy s content t.settled)

  pub plainly : (content : Content) (t : SessionParts) → Plain t → Goes content t
  plainly content t is = (is.0, λ e. (is.2 e, is.1), inl is.1)

  abbrev P : Turn → Type 0
  P t = Plain t.session

  p_writes : (content : Content) (t : Turn) → P t → P (writes content t)
  p_writes content t h = chosen P (may_write t.session) (puts content t) t (λ on. h) (λ off. h)

  p_fence : (t : Turn) → P t → P (writes_fence t)
  p_fence t h = chosen P (may_write t.session) (puts_fence t) t (λ on. h) (λ off. h)

  p_asks : (t : Turn) → P t → P (asks t)
  p_asks t h = chosen P (may_write t.session) _ t (λ on. h) (λ off. h)

  p_asks_if : (wanted : Bool) (t : Turn) → P t → P (asks_if wanted t)
  p_asks_if true t h = p_asks t h
  p_asks_if false t h = h

  p_unless : (t : Turn) (o : Option Ended) → P t → P (unless_ended counts t o)
  p_unless t None h = h
  p_unless t (Some why) h = h

  p_counts_if : (due : Bool) (t : Turn) → P t → P (counts_if due t)
  p_counts_if true t h = p_unless t t.step.ended h
  p_counts_if false t h = h

  p_ends_turn : (why : Ended) (t : Turn) → P t → P (ends_turn why t)
  p_ends_turn why t h = (h.0, h.1, λ e. absurd (not_after (after_peer_logout why) t.session.phase e))

  p_ends : (why : Ended) → P (ends why s)
  p_ends why = p_ends_turn why (quietly s) plain

  p_told : (o : Option ℕ) → P (settles_told s o)
  p_told None = plain
  p_told (Some n) =
      chosen P (nat_le n s.current.logon_number) _ (settles_at n s) (λ below. (refl, refl, λ e. e))
      (λ above. (refl, refl, λ e. e))

  p_logon : (due : Bool) (next : Option ℕ) → P (logon_row due s next)
  p_logon due next =
      chosen P (not (is_logging_on s.phase)) (ends ended.LogonAgain s) _ (λ again. p_ends ended.LogonAgain)
      (λ first. chosen P (is_too_high s (told_number s next)) (ends ended.BadNextExpected s) _
      (λ high. p_ends ended.BadNextExpected)
      (λ low. chosen P (is_forgotten s (told_number s next)) (ends ended.PeerForgot s) _
      (λ forgot. p_ends ended.PeerForgot)
      (λ fine.
      let told = settles_told s (told_number s next) in
      let h = p_fence (asks_if (not due) (counts_if due told))
      (p_asks_if (not due) (counts_if due told) (p_counts_if due told (p_told (told_number s next)))) in
      (h.0, h.1, λ e. on_early s.phase first))))

  p_filled : (begin : ℕ) (o : Option GapFillParts) → P (filled_if o (settles_at begin s))
  p_filled begin None = (refl, refl, λ e. e)
  p_filled begin (Some fill) = (refl, refl, λ e. e)

  p_later : (o : Option GapFillParts) → P (resend_later o s)
  p_later None = p_ends ended.ResendInDoubt
  p_later (Some fill) = plain

  p_resend : (due : Bool) (begin last : ℕ) → P (resend_row due s begin last)
  p_resend due begin last =
      chosen P (not (is_range (last_number s.log) begin last)) (ends ended.BadResend s) _
      (λ bad. p_ends ended.BadResend)
      (λ sent. chosen P (is_settling s.phase && has_passed s begin) (ends ended.PeerForgot s) _
      (λ forgot. p_ends ended.PeerForgot)
      (λ good. p_counts_if due
      (if is_settling s.phase then resend_while_settling s begin last
      else resend_later (fill_for begin last s.settled s.log) s)
      (chosen P (is_settling s.phase) (resend_while_settling s begin last)
      (resend_later (fill_for begin last s.settled s.log) s)
      (λ on. p_fence (filled_if (fill_for begin last (last_number s.log) s.log) (settles_at begin s))
      (p_filled begin (fill_for begin last (last_number s.log) s.log)))
      (λ off. p_later (fill_for begin last s.settled s.log)))))

  p_test : (id : List ℕ) → P (answers_test s id)
  p_test id =
      chosen P (is_logged_out s.phase) (quietly s) (writes (Session (Heartbeat (Some id))) (quietly s)) (λ over. plain)
      (λ on. p_writes (Session (Heartbeat (Some id))) (quietly s) plain)

  p_gap_fill : (number new_number : ℕ) → P (gap_fill_row s number new_number)
  p_gap_fill number new_number =
      chosen P (nat_lt number new_number) _ (ends ended.BadGapFill s) (λ forward. (refl, refl, λ e. e))
      (λ back. p_ends ended.BadGapFill)

  p_refused : (id : Option LegIdParts) → P (refused_leg s id)
  p_refused None = (refl, refl, λ e. e)
  p_refused (Some id) = (refl, refl, λ e. e)

  p_logout : P (logout_row s)
  p_logout =
      chosen P (is_logged_out s.phase) (ends ended.LogoutDone s) _ (λ over. p_ends ended.LogoutDone)
      (λ going.
      p_ends_turn ended.PeerLogout (writes (Session Logout) (quietly s)) (p_writes (Session Logout) (quietly s) plain))

  p_turn : (due : Bool) (t : Turn) → P t → P (in_turn due s t)
  p_turn true t h = h
  p_turn false t h = plain

  -- an answered fence
  module _ (content : Content) where
    abbrev G : Turn → Type 0
    G t = Goes content t.session

    g_unless : (t : Turn) (o : Option Ended) → G t → G (unless_ended counts t o)
    g_unless t None h = h
    g_unless t (Some why) h = h

    g_counts_if : (due : Bool) (t : Turn) → G t → G (counts_if due t)
    g_counts_if true t h = g_unless t t.step.ended h
    g_counts_if false t h = h

    g_asks : (t : Turn) → G t → G (asks t)
    g_asks t h = chosen G (may_write t.session) _ t (λ on. h) (λ off. h)

    g_missing_if : (t : Turn) (o : Option Ended) → G t → G (unless_ended asks_anew t o)
    g_missing_if t None h =
        chosen G (is_logged_out t.session.phase || was_requested t.session) t (asks t) (λ over. h) (λ on. g_asks t h)
    g_missing_if t (Some why) h = h

    g_missing : (t : Turn) → G t → G (asks_missing t)
    g_missing t h = g_missing_if t t.step.ended h

    module _ (fence : ℕ) (by : IsPassedBy s content fence) where
      up_after : (now : Phase) → (IsBeforeUp now → ⊥) → Goes content (record (passing fence s) { phase = now })
      up_after now over = (refl, λ e. absurd (over e), inr by)

      g_logs_out : G (logs_out (passing fence s))
      g_logs_out =
          chosen (λ (u : Turn). Goes content (record u.session { phase = phase.LoggedOut }))
          (may_write (passing fence s)) (puts (Session Logout) (quietly (passing fence s))) (quietly (passing fence s))
          (λ on. (refl, λ e. absurd e, inr by)) (λ off. (refl, λ e. absurd e, inr by))

      still_after : (IsBeforeUp s.phase → ⊥) → G (quietly (passing fence s))
      still_after over = (refl, λ e. absurd (over e), inr by)

      g_passed : (now : Phase) → s.phase ≡ now → is_logging_on now ≡ false → G (passed_in now fence (passing fence s))
      g_passed phase.Settling now late =
          chosen G s.close_asked (logs_out (passing fence s)) _ (λ closes. g_logs_out)
          (λ goes_on. up_after phase.Up (λ e. e))
      g_passed phase.Closing now late =
          chosen G (is_closing_fence s fence) (logs_out (passing fence s)) _ (λ last. g_logs_out)
          (λ earlier. still_after (λ e. subst IsBeforeUp now e))
      g_passed phase.LoggingOn now late = absurd cc
      g_passed phase.Down now late = still_after (λ e. subst IsBeforeUp now e)
      g_passed phase.Up now late = still_after (λ e. subst IsBeforeUp now e)
      g_passed phase.LoggedOut now late = still_after (λ e. subst IsBeforeUp now e)
      g_passed phase.Closed now late = still_after (λ e. subst IsBeforeUp now e)

  passed_by : (id : List ℕ) → IfSome (fence_in id s.current.fences)
      (λ fence. IsPassedBy s (Session (Heartbeat (Some id))) fence)
  passed_by id =
      IfSome_then (fence_in id s.current.fences) (fence_named id s.current.fences)
      (λ fence names. record {
        fence = fence;
        there = names.written;
        says = ap_heart names.named;
        same = refl;
      })
    where
      ap_heart : {x y : List ℕ} → x ≡ y → Session (Heartbeat (Some x)) ≡ Session (Heartbeat (Some y))
      ap_heart is = cc

  g_fence : (content : Content) (o : Option ℕ) → IfSome o (λ fence. IsPassedBy s content fence)
      → is_logging_on s.phase ≡ false → Goes content (passes_fence s o).session
  g_fence content None is late = plainly content s plain
  g_fence content (Some fence) is late = g_passed content fence is s.phase refl late

  g_heartbeat : (id : Option (List ℕ)) → is_logging_on s.phase ≡ false
      → Goes (Session (Heartbeat id)) (passes_fence s (named_fence s id)).session
  g_heartbeat None late = plainly (Session (Heartbeat None)) s plain
  g_heartbeat (Some id) late = g_fence (Session (Heartbeat (Some id))) (fence_in id s.current.fences) (passed_by id) late

  row_goes : (due : Bool) (number : ℕ) (content : Content) → (is_logging_on s.phase && not (is_logon content)) ≡ false
      → Goes content (row due s number content).session
  row_goes due number (Session (Logon heart reset next)) late =
      plainly (Session (Logon heart reset next)) (logon_row due s next).session (p_logon due next)
  row_goes due number (Session (ResendRequest begin last)) late =
      plainly (Session (ResendRequest begin last)) (resend_row due s begin last).session (p_resend due begin last)
  row_goes due number (Session (Heartbeat id)) late =
      g_counts_if (Session (Heartbeat id)) due (passes_fence s (named_fence s id))
      (g_heartbeat id (first_of (is_logging_on s.phase) late))
  row_goes due number (Session (TestRequest id)) late =
      plainly (Session (TestRequest id)) (in_turn due s (counts (answers_test s id))).session
      (p_turn due (counts (answers_test s id)) (p_test id))
  row_goes due number (Session (GapFill new_number)) late =
      plainly (Session (GapFill new_number)) (in_turn due s (gap_fill_row s number new_number)).session
      (p_turn due (gap_fill_row s number new_number) (p_gap_fill number new_number))
  row_goes due number (Session (Reject refused)) late =
      plainly (Session (Reject refused)) (in_turn due s (refused_row s (Some refused))).session
      (p_turn due (refused_row s (Some refused)) (p_refused (option_and_then (λ n. leg_at n s.log) (Some refused))))
  row_goes due number (Session (BusinessReject refused)) late =
      plainly (Session (BusinessReject refused)) (in_turn due s (refused_row s refused)).session
      (p_turn due (refused_row s refused) (p_refused (option_and_then (λ n. leg_at n s.log) refused)))
  row_goes due number (Session Logout) late = plainly (Session Logout) (logout_row s).session p_logout
  row_goes due number (ExecutionReport read) late =
      plainly (ExecutionReport read) (in_turn due s (notes (report_note read) s)).session
      (p_turn due (notes (report_note read) s) (refl, refl, λ e. e))
  row_goes due number (Session (Reset new_number)) late =
      plainly (Session (Reset new_number)) (in_turn due s (counts (quietly s))).session
      (p_turn due (counts (quietly s)) (refl, refl, λ e. e))
  row_goes due number (Order read) late =
      plainly (Order read) (in_turn due s (counts (quietly s))).session
      (p_turn due (counts (quietly s)) (refl, refl, λ e. e))
  row_goes due number Other late =
      plainly Other (in_turn due s (counts (quietly s))).session (p_turn due (counts (quietly s)) (refl, refl, λ e. e))

  by_number_goes : (m : Message) (how : Judged) → (is_logging_on s.phase && not (is_logon m.content)) ≡ false
      → Goes m.content (by_number s m how).session
  by_number_goes m judged.Due late = row_goes true m.number m.content late
  by_number_goes m judged.Ahead late =
      g_missing m.content (row false s m.number m.content) (row_goes false m.number m.content late)
  by_number_goes m judged.Repeat late = plainly m.content s plain
  by_number_goes m judged.TooLow late = plainly m.content (ends ended.TooLow s).session (p_ends ended.TooLow)

  received_goes : (m : Message) → Goes m.content (received s m).session
  received_goes m =
      let goes : (t : Turn) → Plain t.session → Goes m.content t.session = λ t h. plainly m.content t.session h in
      chosen (λ (t : Turn). Goes m.content t.session) (not (is_for s.config m)) (ends ended.WrongComp s) _
      (λ wrong. goes (ends ended.WrongComp s) (p_ends ended.WrongComp))
      (λ ours. chosen (λ (t : Turn). Goes m.content t.session) (is_logging_on s.phase && not (is_logon m.content))
      (ends ended.FirstNotLogon s) _
      (λ early. goes (ends ended.FirstNotLogon s) (p_ends ended.FirstNotLogon))
      (λ late. chosen (λ (t : Turn). Goes m.content t.session) (is_reset m.content) (ends ended.ResetRefused s) _
      (λ reset. goes (ends ended.ResetRefused s) (p_ends ended.ResetRefused))
      (λ onward. by_number_goes m (judged s.expected m.number m.poss_dup) late)))

  -- the calls
  abbrev Calls : {X : Type 0} → SessionAnswer X → Type 0
  Calls (Ok said, t) = Plain t
  Calls (Err fault, t) = Unit {0}

  c_quiet : Calls (quiet s)
  c_quiet =
      chosen Calls (not (is_connected s.phase)) (refuses fault.NotConnected s) _ (λ off. tt)
      (λ on. chosen Calls (is_still s.phase) (answers (quietly s)) _ (λ still. plain)
      (λ going.
      chosen Calls (may_write s) (answers (puts (Session (Heartbeat None)) (quietly s))) (refuses fault.NumbersSpent s)
      (λ may. plain) (λ spent. tt)))

  c_silent : Calls (silent s)
  c_silent =
      chosen Calls (not (is_connected s.phase)) (refuses fault.NotConnected s) _ (λ off. tt)
      (λ on. chosen Calls s.current.silent (answers (ends ended.Silent s)) _ (λ again. p_ends ended.Silent)
      (λ first. chosen Calls (is_still s.phase) (answers (quietly (hushed s))) _ (λ still. plain)
      (λ going.
      chosen Calls (may_write s) (answers (puts_fence (quietly (hushed s)))) (refuses fault.NumbersSpent s)
      (λ may. plain) (λ spent. tt))))

  c_close : (now : Phase) → Calls (close_in now s)
  c_close phase.Down = tt
  c_close phase.Closed = tt
  c_close phase.LoggingOn = plain
  c_close phase.Settling = plain
  c_close phase.Up =
      chosen Calls (may_write s) (answers (puts_fence (quietly (closing_up s)))) (refuses fault.NumbersSpent s)
      (λ may. (refl, refl, λ e. absurd e)) (λ spent. tt)
  c_close phase.Closing = plain
  c_close phase.LoggedOut = plain

  pub call_plain : (turn : Turn) → IsCallOf s turn → Plain turn.session
  call_plain turn (inl is) = subst Calls is c_quiet
  call_plain turn (inr (inl is)) = subst Calls is c_silent
  call_plain turn (inr (inr is)) = subst Calls is (c_close s.phase)

  pub broken_plain : Plain (broken s)
  broken_plain =
      chosen Plain (is_connected s.phase) (disconnected false s) s
      (λ on. (refl, refl, λ e. absurd (not_after false s.phase e))) (λ off. plain)

  pub abandon_plain : Plain (abandon s)
  abandon_plain = (refl, refl, λ e. absurd e)

  pub confirm_plain : Plain (confirm s)
  confirm_plain = chosen Plain s.current.pending (with_pending false (counting s)) s (λ on. plain) (λ off. plain)

-- a message that is received
pub receive_goes : (s : SessionParts) (m : Message) → Goes s m.content (receive s m).session
receive_goes s m =
    chosen (λ (t : Turn). Goes s m.content t.session) (is_connected s.phase) (received (hearing s) m) (quietly s)
    (λ on. (let h = received_goes (hearing s) m in (h.0, h.1, to_s h.2))) (λ off. plainly s m.content s (plain s))
  where
    to_s : {settled : ℕ} → (settled ≡ s.settled) ⊎ IsPassedBy (hearing s) m.content settled
        → (settled ≡ s.settled) ⊎ IsPassedBy s m.content settled
    to_s (inl same) = inl same
    to_s (inr by) = inr (record { fence = by.fence; there = by.there; says = by.says; same = by.same })
