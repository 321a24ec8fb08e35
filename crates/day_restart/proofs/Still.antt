-- Which notes are booked by calls one after the other, and that none hangs on what waited before a note was pending.
use Rattle.std.proofs.Common.{◌≡◌, ℕ, Bool, true, false, not, nat_lt, List, [], ◌∷◌, ◌++◌, Option, Some, None, refl, ap, sym, subst, ◌∙◌, append_assoc, if◌then◌else◌}
use Rattle.std.specs.Prelude.{option_to_list}
use Rattle.std.specs.Option.{option_or}
use Rattle.leg.specs.declared.leg.Leg.{Leg}
use Rattle.dialect.specs.declared.note.Note.{Note}
use Rattle.dialect.specs.declared.message.Message.{Message}
use Rattle.dialect.specs.Message.{decoded}
use Rattle.dialect.specs.Wording.{Decoding}
use Rattle.resend.specs.Log.{last_ordinal}
use Rattle.session_core.specs.declared.ended.Ended.{Ended}
use Rattle.session_core.specs.declared.phase.Phase.{Phase}
use Rattle.session_core.specs.declared.phase.Phase.TheVariants.{Down, LoggingOn, Settling, Up, Closing, LoggedOut, Closed}
use Rattle.session_core.specs.declared.session_call.SessionCall.{SessionCall}
use Rattle.session_core.specs.declared.session_call.SessionCall.TheVariants as call
use Rattle.session_core.specs.Session.{SessionParts, is_connected, is_still, may_write}
use Rattle.session_core.specs.Turn.{Turn, disconnected, quietly}
use Rattle.session_core.specs.Receiving.{hearing, received, receive}
use Rattle.session_core.specs.Calling.{close_in, connect_in, malformed, quiet, send_in, silent}
use Rattle.session_core.specs.Trial.{added, added_message, after_calls, called}
use Rattle.session_core.specs.Counting.{Counted, stays, counted, passed, gives}
use Rattle.session_core.proofs.Adding.{chosen}
use Rattle.session_core.proofs.Counted.{connected_counted}
use Rattle.session_worker.specs.Booking.{booked_by, booked_in, waiting_after, waiting_in}

pub booked-append : (read : Decoding) (s : SessionParts) (waiting : Option Note) (first more : List SessionCall)
    → booked_by read s waiting (first ++ more)
    ≡ booked_by read s waiting first ++ booked_by read (after_calls read s first) (waiting_after read s waiting first) more
booked-append read s waiting [] more = refl
booked-append read s waiting (made ∷ first) more =
    let t = (called read s made).1 in
    let later = waiting_in read s waiting made in
    ap (λ l. booked_in s waiting made ++ l) (booked-append read t later first more)
    ∙ sym (append_assoc (booked_in s waiting made) (booked_by read t later first)
    (booked_by read (after_calls read t first) (waiting_after read t later first) more))

pub waiting-append : (read : Decoding) (s : SessionParts) (waiting : Option Note) (first more : List SessionCall)
    → waiting_after read s waiting (first ++ more)
    ≡ waiting_after read (after_calls read s first) (waiting_after read s waiting first) more
waiting-append read s waiting [] more = refl
waiting-append read s waiting (made ∷ first) more =
    waiting-append read (called read s made).1 (waiting_in read s waiting made) first more

-- ---- which note waits doesn't matter to a session that has none pending

abbrev pub Still : SessionParts → Type 0
Still s = s.current.pending ≡ false

connect_still : (s : SessionParts) (phase : Phase) → Still s → Still (added_message (connect_in phase s)).1
connect_still s Down still = chosen (λ a. Still (added_message a).1) (may_write s) _ _ (λ may. refl) (λ spent. still)
connect_still s LoggingOn still = still
connect_still s Settling still = still
connect_still s Up still = still
connect_still s Closing still = still
connect_still s LoggedOut still = still
connect_still s Closed still = still

send_still : (s : SessionParts) (phase : Phase) (ordinal : ℕ) (leg : Leg) → Still s
    → Still (added_message (send_in phase s ordinal leg)).1
send_still s Up ordinal leg still =
    chosen (λ a. Still (added_message a).1) (not (nat_lt (last_ordinal s.log) ordinal)) _ _ (λ low. still)
    (λ high. chosen (λ a. Still (added_message a).1) (may_write s) _ _ (λ may. still) (λ spent. still))
send_still s Down ordinal leg still = still
send_still s LoggingOn ordinal leg still = still
send_still s Settling ordinal leg still = still
send_still s Closing ordinal leg still = still
send_still s LoggedOut ordinal leg still = still
send_still s Closed ordinal leg still = still

quiet_still : (s : SessionParts) → Still s → Still (added (quiet s)).1
quiet_still s still =
    chosen (λ a. Still (added a).1) (not (is_connected s.phase)) _ _ (λ off. still)
    (λ on. chosen (λ a. Still (added a).1) (is_still s.phase) _ _ (λ quiet. still)
    (λ goes. chosen (λ a. Still (added a).1) (may_write s) _ _ (λ may. still) (λ spent. still)))

silent_still : (s : SessionParts) → Still s → Still (added (silent s)).1
silent_still s still =
    chosen (λ a. Still (added a).1) (not (is_connected s.phase)) _ _ (λ off. still)
    (λ on. chosen (λ a. Still (added a).1) s.current.silent _ _ (λ again. refl)
    (λ first. chosen (λ a. Still (added a).1) (is_still s.phase) _ _ (λ quiet. still)
    (λ goes. chosen (λ a. Still (added a).1) (may_write s) _ _ (λ may. still) (λ spent. still))))

close_still : (s : SessionParts) (phase : Phase) → Still s → Still (added (close_in phase s)).1
close_still s Down still = still
close_still s Closed still = still
close_still s Up still = chosen (λ a. Still (added a).1) (may_write s) _ _ (λ may. still) (λ spent. still)
close_still s LoggingOn still = still
close_still s Settling still = still
close_still s Closing still = still
close_still s LoggedOut still = still

-- a message that is received leaves none pending, or gives the note that waits then
abbrev SameWaits : Option Note → Option Note → Turn → Type 0
SameWaits a b turn =
    turn.session.current.pending ≡ true → option_or turn.step.note a ≡ option_or turn.step.note b

counted_waits : (s : SessionParts) (m : Message) (turn : Turn) (a b : Option Note)
    → Counted s m.number m.content turn → SameWaits a b turn
counted_waits s m turn a b (stays quiet) pends = absurd (let still = quiet.pending in cc)
counted_waits s m turn a b (counted due none_for quiet) pends = absurd (let still = quiet.pending in cc)
counted_waits s m turn a b (passed due new_number is above quiet) pends = absurd (let still = quiet.pending in cc)
counted_waits s m turn a b (gives due given is same pending noted) pends =
    ap (λ n. option_or n a) noted ∙ sym (ap (λ n. option_or n b) noted)

received_waits : (s : SessionParts) (m : Message) (a b : Option Note) → Still s → SameWaits a b (receive s m)
received_waits s m a b still =
    chosen (SameWaits a b) (is_connected s.phase) (received (hearing s) m) (quietly s)
    (λ on.
    let is : receive s m ≡ received (hearing s) m =
    ap (λ connected. if connected then received (hearing s) m else quietly s) on in
    counted_waits (hearing s) m (received (hearing s) m) a b
    (subst (Counted (hearing s) m.number m.content) is (connected_counted s m on)))
    (λ off pends. absurd cc)

disconnected_still : (s : SessionParts) (connected : Bool) → Still s
    → Still (if connected then disconnected false s else s)
disconnected_still s true still = refl
disconnected_still s false still = still

malformed_still : (s : SessionParts) → Still s → Still (malformed s).1
malformed_still s still =
    chosen (λ (r : Option Ended × SessionParts). Still r.1) (is_connected s.phase) _ _ (λ on. refl) (λ off. still)

-- by what a call leaves pending
waits_still : (t : SessionParts) (a b : Option Note) → Still t → t.current.pending ≡ true → a ≡ b
waits_still t a b still pends = absurd cc

same_waits : (read : Decoding) (s : SessionParts) (a b : Option Note) (made : SessionCall) → Still s
    → (called read s made).1.current.pending ≡ true → waiting_in read s a made ≡ waiting_in read s b made
same_waits read s a b call.Connect still =
    waits_still (called read s call.Connect).1 a b (connect_still s s.phase still)
same_waits read s a b (call.SendLeg ordinal leg) still =
    waits_still (called read s (call.SendLeg ordinal leg)).1 a b (send_still s s.phase ordinal leg still)
same_waits read s a b (call.Receive envelope) still = received_waits s (decoded read envelope) a b still
same_waits read s a b call.Confirm still =
    waits_still (called read s call.Confirm).1 a b
    (chosen Still s.current.pending _ s (λ pends. refl) (λ none. still))
same_waits read s a b call.Quiet still = waits_still (called read s call.Quiet).1 a b (quiet_still s still)
same_waits read s a b call.Silent still = waits_still (called read s call.Silent).1 a b (silent_still s still)
same_waits read s a b call.Close still = waits_still (called read s call.Close).1 a b (close_still s s.phase still)
same_waits read s a b call.Malformed still =
    waits_still (called read s call.Malformed).1 a b (malformed_still s still)
same_waits read s a b call.Broken still =
    waits_still (called read s call.Broken).1 a b (disconnected_still s (is_connected s.phase) still)
same_waits read s a b call.Abandon still = waits_still (called read s call.Abandon).1 a b refl

still_books : (s : SessionParts) (a b : Option Note) (made : SessionCall) → Still s
    → booked_in s a made ≡ booked_in s b made
still_books s a b call.Confirm still =
    ap (λ p. if p then option_to_list a else []) still ∙ sym (ap (λ p. if p then option_to_list b else []) still)
still_books s a b call.Connect still = refl
still_books s a b (call.SendLeg ordinal leg) still = refl
still_books s a b (call.Receive envelope) still = refl
still_books s a b call.Quiet still = refl
still_books s a b call.Silent still = refl
still_books s a b call.Close still = refl
still_books s a b call.Malformed still = refl
still_books s a b call.Broken still = refl
still_books s a b call.Abandon still = refl

-- by whether a note is pending then: it is the one that waits, or none is
books_on : (read : Decoding) (t : SessionParts) (a b : Option Note) (calls : List SessionCall) (pends : Bool)
    → t.current.pending ≡ pends → (t.current.pending ≡ true → a ≡ b)
    → (Still t → booked_by read t a calls ≡ booked_by read t b calls)
    → booked_by read t a calls ≡ booked_by read t b calls
books_on read t a b calls true is same goes = ap (λ w. booked_by read t w calls) (same is)
books_on read t a b calls false is same goes = goes is

pub same_books : (read : Decoding) (s : SessionParts) (a b : Option Note) (calls : List SessionCall) → Still s
    → booked_by read s a calls ≡ booked_by read s b calls
same_books read s a b [] still = refl
same_books read s a b (made ∷ calls) still =
    let t : SessionParts = (called read s made).1 in
    let x : Option Note = waiting_in read s a made in
    let y : Option Note = waiting_in read s b made in
    ap (λ l. l ++ booked_by read t x calls) (still_books s a b made still)
    ∙ ap (λ l. booked_in s b made ++ l)
    (books_on read t x y calls t.current.pending refl (same_waits read s a b made still)
    (same_books read t x y calls))
