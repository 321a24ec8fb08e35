-- After the session's Logout nothing but a gap fill is written.
use Rattle.std.proofs.Common.{◌≡◌, ℕ, Bool, true, false, ◌||◌, not, nat_lt, Option, Some, None, refl, sym, ap, subst, ◌∙◌, inl, inr}
use Rattle.std.specs.Option.{option_and_then}
use Rattle.fix_tags.specs.Range.{is_range}
use Rattle.leg.specs.LegId.{LegIdParts}
use Rattle.dialect.specs.declared.note.Note.{Note}
use Rattle.dialect.specs.Addressed.{is_for}
use Rattle.dialect.specs.declared.content.Content.{Content}
use Rattle.dialect.specs.declared.message.Message.{Message}
use Rattle.dialect.specs.declared.content.Content.TheVariants.{Session, Order, ExecutionReport, Other}
use Rattle.fix_tags.specs.declared.session_body.SessionBody.TheVariants.{Logon, Heartbeat, TestRequest, ResendRequest, Reject, GapFill, Reset, Logout, BusinessReject}
use Rattle.resend.specs.declared.judged.Judged.{Judged}
use Rattle.resend.specs.declared.judged.Judged.TheVariants as judged
use Rattle.resend.specs.Judging.{judged}
use Rattle.resend.specs.Log.{GapFillParts, last_number, leg_at, fill_for}
use Rattle.session_core.specs.declared.phase.Phase.TheVariants.{LoggedOut}
use Rattle.session_core.specs.declared.ended.Ended.{Ended}
use Rattle.session_core.specs.declared.ended.Ended.TheVariants as ended
use Rattle.session_core.specs.Session.{SessionParts, is_logged_out}
use Rattle.session_core.specs.Turn.{Turn, quietly, counts, notes, asks, ends, unless_ended}
use Rattle.session_core.specs.Receiving.{is_reset, counts_if, resend_later, resend_row, named_fence, passing, passes_fence, gap_fill_row, refused_leg, refused_row, report_note, in_turn, row, was_requested, asks_missing, asks_anew, by_number, received, hearing, receive}
use Rattle.session_core.specs.Onward.{WritesFillAlone}
use Rattle.session_core.proofs.Adding.{chosen}

-- a fill alone is written, and the session stays logged out unless the connection ends
record IsOut (s : SessionParts) (turn : Turn) : Type 0 where
  written : WritesFillAlone s turn.step.written
  phase : turn.step.ended ≡ None → turn.session.phase ≡ LoggedOut

-- the session, logged out
abbrev out : SessionParts → SessionParts
out s = record s { phase = LoggedOut }

out_quietly : (s t : SessionParts) → t.phase ≡ LoggedOut → IsOut s (quietly t)
out_quietly s t phase = record { written = inl refl; phase = λ going. phase }

out_ends : (s t : SessionParts) (why : Ended) → IsOut s (ends why t)
out_ends s t why = record { written = inl refl; phase = λ going. absurd cc }

out_notes : (s t : SessionParts) (note : Note) → t.phase ≡ LoggedOut → IsOut s (notes note t)
out_notes s t note phase = record { written = inl refl; phase = λ going. phase }

out_counts : (s : SessionParts) (turn : Turn) → IsOut s turn → IsOut s (counts turn)
out_counts s turn is = record { written = is.written; phase = is.phase }

out_unless : (s : SessionParts) (next : Turn → Turn) (turn : Turn) (ended : Option Ended) → turn.step.ended ≡ ended
    → IsOut s turn → (turn.step.ended ≡ None → IsOut s (next turn)) → IsOut s (unless_ended next turn ended)
out_unless s next turn None is out on = on is
out_unless s next turn (Some why) is out on = out

out_counts_if : (s : SessionParts) (due : Bool) (turn : Turn) → IsOut s turn → IsOut s (counts_if due turn)
out_counts_if s true turn is = out_unless s counts turn turn.step.ended refl is (λ going. out_counts s turn is)
out_counts_if s false turn is = is

out_asks_anew : (s : SessionParts) (turn : Turn) → IsOut s turn → turn.step.ended ≡ None → IsOut s (asks_anew turn)
out_asks_anew s turn is going =
    chosen (IsOut s) (is_logged_out turn.session.phase || was_requested turn.session) turn (asks turn)
    (λ stays. is)
    (λ asks_so.
    (let over : (is_logged_out turn.session.phase || was_requested turn.session) ≡ true =
    ap (λ phase. is_logged_out phase || was_requested turn.session) (is.phase going) in
    absurd (let e = sym over ∙ asks_so in cc)))

out_asks_missing : (s : SessionParts) (turn : Turn) → IsOut s turn → IsOut s (asks_missing turn)
out_asks_missing s turn is = out_unless s asks_anew turn turn.step.ended refl is (out_asks_anew s turn is)

out_later : (s : SessionParts) (fill : Option GapFillParts) → IsOut s (resend_later fill (out s))
out_later s None = out_ends s (out s) ended.ResendInDoubt
out_later s (Some fill) = record { written = inr (fill, refl); phase = λ going. refl }

out_resend : (s : SessionParts) (due : Bool) (begin last : ℕ) → IsOut s (resend_row due (out s) begin last)
out_resend s due begin last =
    chosen (IsOut s) (not (is_range (last_number s.log) begin last)) (ends ended.BadResend (out s)) _
    (λ bad. out_ends s (out s) ended.BadResend)
    (λ good. out_counts_if s due _ (out_later s (fill_for begin last s.settled s.log)))

out_fence : (s : SessionParts) (fence : Option ℕ) → IsOut s (passes_fence (out s) fence)
out_fence s None = out_quietly s (out s) refl
out_fence s (Some fence) = out_quietly s (passing fence (out s)) refl

out_gap_fill : (s : SessionParts) (number new_number : ℕ) → IsOut s (gap_fill_row (out s) number new_number)
out_gap_fill s number new_number =
    chosen (IsOut s) (nat_lt number new_number) (quietly (record (out s) { expected = new_number }))
    (ends ended.BadGapFill (out s))
    (λ forward. out_quietly s (record (out s) { expected = new_number }) refl)
    (λ back. out_ends s (out s) ended.BadGapFill)

out_refused_leg : (s : SessionParts) (id : Option LegIdParts) → IsOut s (refused_leg (out s) id)
out_refused_leg s (Some id) = out_notes s (out s) _ refl
out_refused_leg s None = out_counts s (quietly (out s)) (out_quietly s (out s) refl)

out_refused : (s : SessionParts) (number : Option ℕ) → IsOut s (refused_row (out s) number)
out_refused s number = out_refused_leg s (option_and_then (λ n. leg_at n s.log) number)

out_in_turn : (s : SessionParts) (due : Bool) (turn : Turn) → IsOut s turn → IsOut s (in_turn due (out s) turn)
out_in_turn s due turn is =
    chosen (IsOut s) due turn (quietly (out s)) (λ now. is) (λ ahead. out_quietly s (out s) refl)

out_counted : (s : SessionParts) → IsOut s (counts (quietly (out s)))
out_counted s = out_counts s (quietly (out s)) (out_quietly s (out s) refl)

out_row : (s : SessionParts) (due : Bool) (number : ℕ) (content : Content) → IsOut s (row due (out s) number content)
out_row s due number (Session (Logon heart reset next)) = out_ends s (out s) ended.LogonAgain
out_row s due number (Session (ResendRequest begin last)) = out_resend s due begin last
out_row s due number (Session (Heartbeat id)) = out_counts_if s due _ (out_fence s (named_fence (out s) id))
out_row s due number (Session (TestRequest id)) = out_in_turn s due _ (out_counted s)
out_row s due number (Session (GapFill new_number)) = out_in_turn s due _ (out_gap_fill s number new_number)
out_row s due number (Session (Reject refused)) = out_in_turn s due _ (out_refused s (Some refused))
out_row s due number (Session (BusinessReject refused)) = out_in_turn s due _ (out_refused s refused)
out_row s due number (Session Logout) = out_ends s (out s) ended.LogoutDone
out_row s due number (ExecutionReport read) = out_in_turn s due _ (out_notes s (out s) (report_note read) refl)
out_row s due number (Session (Reset new_number)) = out_in_turn s due _ (out_counted s)
out_row s due number (Order read) = out_in_turn s due _ (out_counted s)
out_row s due number Other = out_in_turn s due _ (out_counted s)

out_by_number : (s : SessionParts) (m : Message) (how : Judged) → IsOut s (by_number (out s) m how)
out_by_number s m judged.Due = out_row s true m.number m.content
out_by_number s m judged.Ahead =
    out_asks_missing s (row false (out s) m.number m.content) (out_row s false m.number m.content)
out_by_number s m judged.Repeat = out_quietly s (out s) refl
out_by_number s m judged.TooLow = out_ends s (out s) ended.TooLow

out_received : (s : SessionParts) (m : Message) → IsOut s (received (out s) m)
out_received s m =
    chosen (IsOut s) (not (is_for s.config m)) (ends ended.WrongComp (out s)) _
    (λ wrong. out_ends s (out s) ended.WrongComp)
    (λ ours. chosen (IsOut s) (is_reset m.content) (ends ended.ResetRefused (out s)) _
    (λ reset. out_ends s (out s) ended.ResetRefused)
    (λ goes_on. out_by_number s m (judged s.expected m.number m.poss_dup)))

pub out_writes_fills : (s : SessionParts) (m : Message) → s.phase ≡ LoggedOut
    → WritesFillAlone s (receive s m).step.written
out_writes_fills s m is =
    let same : s ≡ out s = ap (λ phase. let t : SessionParts = record s { phase = phase } in t) is in
    let written : WritesFillAlone s (receive (out s) m).step.written = (out_received (hearing s) m).written in
    subst (λ (t : SessionParts). WritesFillAlone s (receive t m).step.written) (sym same) written
