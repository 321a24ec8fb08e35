-- Which notes calls book, one after the other, and that a call's own note is the one that waits.
use Rattle.std.proofs.Common.{◌≡◌, true, List, [], ◌∷◌, ◌++◌, refl, sym, ap, subst, ◌∙◌, append_assoc, if◌then◌else◌}
use Rattle.std.specs.Prelude.{not, option_to_list, Option, Some, None}
use Rattle.std.specs.Option.{option_or}
use Rattle.fix_tags.specs.declared.session_body.SessionBody.TheVariants.{Heartbeat}
use Rattle.dialect.specs.declared.note.Note.{Note}
use Rattle.dialect.specs.declared.message.Message.{Message}
use Rattle.dialect.specs.declared.content.Content.TheVariants.{Session}
use Rattle.dialect.specs.Message.{decoded}
use Rattle.dialect.specs.Wording.{Decoding}
use Rattle.session_core.specs.declared.phase.Phase.{Phase}
use Rattle.session_core.specs.declared.phase.Phase.TheVariants.{Down, LoggingOn, Settling, Up, Closing, LoggedOut, Closed}
use Rattle.session_core.specs.declared.ended.Ended.TheVariants.{Silent}
use Rattle.session_core.specs.declared.session_call.SessionCall.{SessionCall}
use Rattle.session_core.specs.declared.session_call.SessionCall.TheVariants as call
use Rattle.session_core.specs.declared.session_fault.SessionFault.TheVariants as fault
use Rattle.session_core.specs.Session.{SessionParts, is_connected, is_still, may_write}
use Rattle.session_core.specs.Turn.{StepParts, Turn, quietly, puts, puts_fence, ends}
use Rattle.session_core.specs.Receiving.{hearing, received, receive}
use Rattle.session_core.specs.Calling.{SessionAnswer, refuses, answers, hushed, quiet, silent, close_in, closing_up}
use Rattle.session_core.specs.Trial.{Addition, added, called, after_calls}
use Rattle.session_core.specs.Counting.{Counted, stays, counted, passed, gives}
use Rattle.session_core.proofs.Adding.{chosen}
use Rattle.session_core.proofs.Counted.{connected_counted}
use Rattle.session_worker.specs.Booking.{waiting_in, waiting_after, booked_in, booked_by}
use Rattle.session_worker.specs.Linking.{IsPlain}

pub booked-append : (read : Decoding) (s : SessionParts) (waiting : Option Note) (first more : List SessionCall)
    → booked_by read s waiting (first ++ more)
    ≡ booked_by read s waiting first ++ booked_by read (after_calls read s first) (waiting_after read s waiting first) more
booked-append read s waiting [] more = refl
booked-append read s waiting (made ∷ first) more =
    let t = (called read s made).1 in
    let later = waiting_in read s waiting made in
    ap (λ l. booked_in s waiting made ++ l) (booked-append read t later first more)
    ∙ sym (append_assoc (booked_in s waiting made) (booked_by read t later first)
    (booked_by read (after_calls read t first) (waiting_after read t later first) more))

-- a call that books none
pub plain_books : (s : SessionParts) (waiting : Option Note) (made : SessionCall) → IsPlain made
    → booked_in s waiting made ≡ []
plain_books s waiting call.Connect plain = absurd plain
plain_books s waiting (call.SendLeg ordinal leg) plain = absurd plain
plain_books s waiting call.Broken plain = absurd plain
plain_books s waiting call.Confirm plain = absurd plain
plain_books s waiting (call.Receive envelope) plain = refl
plain_books s waiting call.Quiet plain = refl
plain_books s waiting call.Silent plain = refl
plain_books s waiting call.Close plain = refl
plain_books s waiting call.Malformed plain = refl
plain_books s waiting call.Abandon plain = refl

-- ---- the note of a step

abbrev note_in : Option StepParts → Option Note
note_in None = None
note_in (Some step) = step.note

abbrev GivesNone : SessionAnswer StepParts → Type 0
GivesNone answer = note_in (added answer).0 ≡ None

quiet_none : (s : SessionParts) → GivesNone (quiet s)
quiet_none s =
    chosen GivesNone (not (is_connected s.phase)) (refuses fault.NotConnected s) _ (λ off. refl)
    (λ on. chosen GivesNone (is_still s.phase) (answers (quietly s)) _ (λ still. refl)
    (λ goes. chosen GivesNone (may_write s) (answers (puts (Session (Heartbeat None)) (quietly s))) (refuses fault.NumbersSpent s)
    (λ may. refl) (λ spent. refl)))

silent_none : (s : SessionParts) → GivesNone (silent s)
silent_none s =
    chosen GivesNone (not (is_connected s.phase)) (refuses fault.NotConnected s) _ (λ off. refl)
    (λ on. chosen GivesNone s.current.silent (answers (ends Silent s)) _ (λ again. refl)
    (λ first. chosen GivesNone (is_still s.phase) (answers (quietly (hushed s))) _ (λ still. refl)
    (λ goes. chosen GivesNone (may_write s) (answers (puts_fence (quietly (hushed s)))) (refuses fault.NumbersSpent s)
    (λ may. refl) (λ spent. refl))))

close_none : (s : SessionParts) (phase : Phase) → GivesNone (close_in phase s)
close_none s Down = refl
close_none s Closed = refl
close_none s Up =
    chosen GivesNone (may_write s) (answers (puts_fence (quietly (closing_up s)))) (refuses fault.NumbersSpent s)
    (λ may. refl) (λ spent. refl)
close_none s LoggingOn = refl
close_none s Settling = refl
close_none s Closing = refl
close_none s LoggedOut = refl

-- a note that a message gives is pending
counted_pending : (s : SessionParts) (m : Message) (turn : Turn) (note : Note) → Counted s m.number m.content turn
    → turn.step.note ≡ Some note → turn.session.current.pending ≡ true
counted_pending s m turn note (stays quiet) e = absurd (let none = sym quiet.note ∙ e in cc)
counted_pending s m turn note (counted due none_for quiet) e = absurd (let none = sym quiet.note ∙ e in cc)
counted_pending s m turn note (passed due new_number is above quiet) e = absurd (let none = sym quiet.note ∙ e in cc)
counted_pending s m turn note (gives due given is same pending noted) e = pending

abbrev PendsIfGiven : Note → Turn → Type 0
PendsIfGiven note turn = turn.step.note ≡ Some note → turn.session.current.pending ≡ true

received_pending : (s : SessionParts) (m : Message) (note : Note) → PendsIfGiven note (receive s m)
received_pending s m note =
    chosen (PendsIfGiven note) (is_connected s.phase) (received (hearing s) m) (quietly s)
    (λ on.
    let is : receive s m ≡ received (hearing s) m =
    ap (λ connected. if connected then received (hearing s) m else quietly s) on in
    counted_pending (hearing s) m (received (hearing s) m) note
    (subst (Counted (hearing s) m.number m.content) is (connected_counted s m on)))
    (λ off. λ e. absurd cc)

-- where a call gives a note it is pending, and it is the one that waits
pub record NoteWaits (read : Decoding) (s t : SessionParts) (waiting : Option Note) (made : SessionCall) (note : Note)
    : Type 0 where
  pub pending : t.current.pending ≡ true
  pub waits : waiting_in read s waiting made ≡ Some note

pub note_waits : (read : Decoding) (s t : SessionParts) (waiting : Option Note) (made : SessionCall) (said : StepParts)
    (note : Note) → IsPlain made → called read s made ≡ (Some said, t) → said.note ≡ Some note
    → NoteWaits read s t waiting made note
note_waits read s t waiting call.Connect said note plain adds is = absurd plain
note_waits read s t waiting (call.SendLeg ordinal leg) said note plain adds is = absurd plain
note_waits read s t waiting call.Broken said note plain adds is = absurd plain
note_waits read s t waiting call.Confirm said note plain adds is = absurd plain
note_waits read s t waiting (call.Receive envelope) said note plain adds is =
    let m : Message = decoded read envelope in
    let gave : (receive s m).step.note ≡ Some note = ap (λ (a : Addition). note_in a.0) adds ∙ is in
    record {
      pending = subst (λ (u : SessionParts). u.current.pending ≡ true) (ap (λ (a : Addition). a.1) adds)
          (received_pending s m note gave);
      waits = ap (λ (given : Option Note). option_or given waiting) gave;
    }
note_waits read s t waiting call.Quiet said note plain adds is =
    absurd (let e = sym (quiet_none s) ∙ (ap (λ (a : Addition). note_in a.0) adds ∙ is) in cc)
note_waits read s t waiting call.Silent said note plain adds is =
    absurd (let e = sym (silent_none s) ∙ (ap (λ (a : Addition). note_in a.0) adds ∙ is) in cc)
note_waits read s t waiting call.Close said note plain adds is =
    absurd (let e = sym (close_none s s.phase) ∙ (ap (λ (a : Addition). note_in a.0) adds ∙ is) in cc)
note_waits read s t waiting call.Malformed said note plain adds is =
    absurd (let e = ap (λ (a : Addition). a.0) adds in cc)
note_waits read s t waiting call.Abandon said note plain adds is =
    absurd (let e = ap (λ (a : Addition). a.0) adds in cc)

-- so it is the one that is booked at a Confirm
pub waiting_booked : (read : Decoding) (s t : SessionParts) (waiting : Option Note) (made : SessionCall) (note : Note)
    → NoteWaits read s t waiting made note → booked_in t (waiting_in read s waiting made) call.Confirm ≡ note ∷ []
waiting_booked read s t waiting made note it =
    ap (λ pending. if pending then option_to_list (waiting_in read s waiting made) else []) it.pending
    ∙ ap option_to_list it.waits
