-- What holds of a session over every list of calls.
use Rattle.std.proofs.Common.{◌≡◌, ◌≤◌, ◌<◌, ◌+◌, ℕ, false, not, nat_lt, List, [], ◌∷◌, ◌++◌, Option, Some, None, refl, subst, arith, length-append}
use Rattle.std.proofs.lemmas.Bool.Decides.{nat_tests}
use Rattle.std.specs.Prelude.{Ok, Err, option_to_list}
use Rattle.leg.specs.declared.leg.Leg.{Leg}
use Rattle.dialect.specs.declared.content.Content.TheVariants.{Session}
use Rattle.fix_tags.specs.declared.session_body.SessionBody.TheVariants.{Heartbeat}
use Rattle.dialect.specs.declared.message.Message.{Message}
use Rattle.dialect.specs.Message.{decoded}
use Rattle.dialect.specs.Wording.{Decoding}
use Rattle.resend.specs.Log.{last_ordinal}
use Rattle.resend.specs.Log.Entry.{Sent}
use Rattle.session_core.specs.declared.phase.Phase.{Phase}
use Rattle.session_core.specs.declared.phase.Phase.TheVariants.{Down, LoggingOn, Settling, Up, Closing, LoggedOut, Closed}
use Rattle.session_core.specs.declared.ended.Ended.{Ended}
use Rattle.session_core.specs.declared.ended.Ended.TheVariants.{Silent, Malformed}
use Rattle.session_core.specs.declared.session_call.SessionCall.{SessionCall}
use Rattle.session_core.specs.declared.session_call.SessionCall.TheVariants as call
use Rattle.session_core.specs.declared.session_fault.SessionFault.TheVariants as fault
use Rattle.session_core.specs.Session.{SessionParts, is_connected, is_still, next_out, may_write}
use Rattle.session_core.specs.Turn.{StepParts, Turn, quietly, puts, puts_fence, counting, with_pending, ends, disconnected}
use Rattle.session_core.specs.Receiving.{confirm}
use Rattle.session_core.specs.Calling.{SessionAnswer, refuses, answers, answers_numbered, doubted, connect, connect_in, send_leg, send_in, quiet, silent, hushed, close, close_in, closing_up, malformed, broken}
use Rattle.session_core.specs.Onward.{OrUnchanged, IsOnward, IsConnection, SendsLeg, IsCall}
use Rattle.session_core.specs.Sound.{IsSound}
use Rattle.session_core.specs.Trial.{Addition, added, added_message, called, after_calls, steps_of, order_of, orders_of, AreRising, IsReadCall, AreRead, WritesNothing, WriteNothing, KeepsRules}
use Rattle.session_core.proofs.Ordinals.{last-admin, last-sent}
use Rattle.session_core.proofs.Adding.{chosen, onward-refl, onward-trans}
use Rattle.session_core.proofs.Called.{connect_keeps, send_leg_keeps, confirm_keeps, quiet_keeps, silent_keeps, close_keeps, malformed_keeps, broken_keeps, abandon_keeps, closed-receive, closed-connect, closed-send_leg, closed-quiet, closed-silent, closed-close, closed-malformed, closed-broken, closed-confirm}
use Rattle.session_core.proofs.CallsMade.{after-append}
use Rattle.session_core.proofs.Received.{receive_is_received, receive-last}
use Rattle.session_core.proofs.Kept.{kept-receive}
use Rattle.session_core.proofs.Promised.{connect_sound, send_leg_sound, confirm_sound, quiet_sound, silent_sound, close_sound, malformed_sound, broken_sound, abandon_sound}

-- the state after a call is that of its answer
step_state : (Has : SessionParts → Type 0) (answer : SessionAnswer StepParts) → Has answer.1 → Has (added answer).1
step_state Has (Ok step, after) has = has
step_state Has (Err why, after) has = has

message_state : (Has : SessionParts → Type 0) (answer : SessionAnswer Message) → Has answer.1
    → Has (added_message answer).1
message_state Has (Ok message, after) has = has
message_state Has (Err why, after) has = has

unchanged_onward : {X : Type 0} (s : SessionParts) (Does : X → SessionParts → Type 0) (answer : SessionAnswer X)
    → ((x : X) (t : SessionParts) → Does x t → IsOnward s t) → OrUnchanged s Does answer → IsOnward s answer.1
unchanged_onward s Does (Ok x, after) onward is = onward x after is
unchanged_onward s Does (Err why, after) onward is = rw is (onward-refl s)

call_onward : (s : SessionParts) (answer : SessionAnswer StepParts) → OrUnchanged s (IsCall s) answer
    → IsOnward s (added answer).1
call_onward s answer is =
    step_state (IsOnward s) answer (unchanged_onward s (IsCall s) answer (λ step t does. does.keeps.onward) is)

-- each call leads onward
called_onward : (read : Decoding) (s : SessionParts) (one : SessionCall) → IsOnward s (called read s one).1
called_onward read s call.Connect =
    message_state (IsOnward s) (connect s)
    (unchanged_onward s (IsConnection s) (connect s) (λ m t does. does.keeps.onward) (connect_keeps s))
called_onward read s (call.SendLeg ordinal leg) =
    message_state (IsOnward s) (send_leg s ordinal leg)
    (unchanged_onward s (SendsLeg s ordinal leg) (send_leg s ordinal leg) (λ m t does. does.keeps.onward)
    (send_leg_keeps s ordinal leg))
called_onward read s (call.Receive envelope) = (receive_is_received s (decoded read envelope)).onward
called_onward read s call.Confirm = (confirm_keeps s).onward
called_onward read s call.Quiet = call_onward s (quiet s) (quiet_keeps s)
called_onward read s call.Silent = call_onward s (silent s) (silent_keeps s)
called_onward read s call.Close = call_onward s (close s) (close_keeps s)
called_onward read s call.Malformed = (malformed_keeps s).onward
called_onward read s call.Broken = (broken_keeps s).onward
called_onward read s call.Abandon = (abandon_keeps s).onward

calls_onward : (read : Decoding) (s : SessionParts) (calls : List SessionCall)
    → IsOnward s (after_calls read s calls)
calls_onward read s [] = onward-refl s
calls_onward read s (one ∷ calls) =
    onward-trans s (called read s one).1 (after_calls read (called read s one).1 calls) (called_onward read s one)
    (calls_onward read (called read s one).1 calls)

-- and keeps the promises
called_sound : (read : Decoding) (s : SessionParts) (one : SessionCall) → IsSound s → IsReadCall read one
    → IsSound (called read s one).1
called_sound read s call.Connect is read_so = message_state IsSound (connect s) (connect_sound s is)
called_sound read s (call.SendLeg ordinal leg) is read_so =
    message_state IsSound (send_leg s ordinal leg) (send_leg_sound s ordinal leg is)
called_sound read s (call.Receive envelope) is read_so = (kept-receive s (decoded read envelope) is read_so).sound
called_sound read s call.Confirm is read_so = confirm_sound s is
called_sound read s call.Quiet is read_so = step_state IsSound (quiet s) (quiet_sound s is)
called_sound read s call.Silent is read_so = step_state IsSound (silent s) (silent_sound s is)
called_sound read s call.Close is read_so = step_state IsSound (close s) (close_sound s is)
called_sound read s call.Malformed is read_so = malformed_sound s is
called_sound read s call.Broken is read_so = broken_sound s is
called_sound read s call.Abandon is read_so = abandon_sound s is

pub calls_sound : (read : Decoding) (s : SessionParts) (calls : List SessionCall) → IsSound s → AreRead read calls
    → IsSound (after_calls read s calls)
calls_sound read s [] is all = is
calls_sound read s (one ∷ calls) is all =
    calls_sound read (called read s one).1 calls (called_sound read s one is all.0) all.1

-- a closed session stays so, and writes nothing
record IsOver (a : Addition) : Type 0 where
  phase : a.1.phase ≡ Closed
  nothing : WritesNothing a.0

over_none : (s : SessionParts) → s.phase ≡ Closed → IsOver (None, s)
over_none s closed = record { phase = closed; nothing = tt }

called_over : (read : Decoding) (s : SessionParts) (one : SessionCall) → s.phase ≡ Closed → IsOver (called read s one)
called_over read s call.Connect closed = rw (closed-connect s closed) (over_none s closed)
called_over read s (call.SendLeg ordinal leg) closed = rw (closed-send_leg s closed ordinal leg) (over_none s closed)
called_over read s (call.Receive envelope) closed =
    rw (closed-receive s closed (decoded read envelope)) (record { phase = closed; nothing = refl })
called_over read s call.Confirm closed = record { phase = closed-confirm s closed; nothing = tt }
called_over read s call.Quiet closed = rw (closed-quiet s closed) (over_none s closed)
called_over read s call.Silent closed = rw (closed-silent s closed) (over_none s closed)
called_over read s call.Close closed = rw (closed-close s closed) (over_none s closed)
called_over read s call.Malformed closed = rw (closed-malformed s closed) (over_none s closed)
called_over read s call.Broken closed = rw (closed-broken s closed) (over_none s closed)
called_over read s call.Abandon closed = record { phase = refl; nothing = tt }

nothing_more : (o : Option StepParts) (rest : List StepParts) → WritesNothing o → WriteNothing rest
    → WriteNothing (option_to_list o ++ rest)
nothing_more None rest nothing all = all
nothing_more (Some step) rest nothing all = (nothing, all)

calls_over : (read : Decoding) (s : SessionParts) (calls : List SessionCall) → s.phase ≡ Closed
    → WriteNothing (steps_of read s calls)
calls_over read s [] closed = tt
calls_over read s (one ∷ calls) closed =
    (let over = called_over read s one closed in
    nothing_more (called read s one).0 (steps_of read (called read s one).1 calls) over.nothing
    (calls_over read (called read s one).1 calls over.phase))

-- the last ordinal after each call but the sending of a leg
numbered-last : (s : SessionParts) (turn : Turn) → last_ordinal turn.session.log ≡ last_ordinal s.log
    → last_ordinal (added (answers_numbered s turn)).1.log ≡ last_ordinal s.log
numbered-last s turn same =
    chosen (λ (answer : SessionAnswer StepParts). last_ordinal (added answer).1.log ≡ last_ordinal s.log)
    (may_write s) (answers turn) (refuses fault.NumbersSpent s) (λ may. same) (λ spent. refl)

connect_in-last : (s : SessionParts) (phase : Phase)
    → last_ordinal (added_message (connect_in phase s)).1.log ≡ last_ordinal s.log
connect_in-last s Down =
    chosen (λ (answer : SessionAnswer Message). last_ordinal (added_message answer).1.log ≡ last_ordinal s.log)
    (may_write s) _ (refuses fault.NumbersSpent s) (λ may. last-admin 0 s.log) (λ spent. refl)
connect_in-last s LoggingOn = refl
connect_in-last s Settling = refl
connect_in-last s Up = refl
connect_in-last s Closing = refl
connect_in-last s LoggedOut = refl
connect_in-last s Closed = refl

confirm-last : (s : SessionParts) → last_ordinal (confirm s).log ≡ last_ordinal s.log
confirm-last s =
    chosen (λ (t : SessionParts). last_ordinal t.log ≡ last_ordinal s.log) s.current.pending
    (with_pending false (counting s)) s (λ noted. refl) (λ none_noted. refl)

quiet-last : (s : SessionParts) → last_ordinal (added (quiet s)).1.log ≡ last_ordinal s.log
quiet-last s =
    (let Same : SessionAnswer StepParts → Type 0 = λ answer. last_ordinal (added answer).1.log ≡ last_ordinal s.log in
    chosen Same (not (is_connected s.phase)) (refuses fault.NotConnected s) _ (λ off. refl)
    (λ on. chosen Same (is_still s.phase) (answers (quietly s)) _ (λ still. refl)
    (λ going. numbered-last s (puts (Session (Heartbeat None)) (quietly s)) (last-admin 0 s.log))))

silent-last : (s : SessionParts) → last_ordinal (added (silent s)).1.log ≡ last_ordinal s.log
silent-last s =
    (let Same : SessionAnswer StepParts → Type 0 = λ answer. last_ordinal (added answer).1.log ≡ last_ordinal s.log in
    chosen Same (not (is_connected s.phase)) (refuses fault.NotConnected s) _ (λ off. refl)
    (λ on. chosen Same s.current.silent (answers (ends Silent s)) _ (λ again. refl)
    (λ first. chosen Same (is_still s.phase) (answers (quietly (hushed s))) _ (λ still. refl)
    (λ going. numbered-last s (puts_fence (quietly (hushed s))) (last-admin 0 s.log)))))

close_in-last : (s : SessionParts) (phase : Phase)
    → last_ordinal (added (close_in phase s)).1.log ≡ last_ordinal s.log
close_in-last s Up = numbered-last s (puts_fence (quietly (closing_up s))) (last-admin 0 s.log)
close_in-last s Down = refl
close_in-last s Closed = refl
close_in-last s LoggingOn = refl
close_in-last s Settling = refl
close_in-last s Closing = refl
close_in-last s LoggedOut = refl

malformed-last : (s : SessionParts) → last_ordinal (malformed s).1.log ≡ last_ordinal s.log
malformed-last s =
    chosen (λ (r : Option Ended × SessionParts). last_ordinal r.1.log ≡ last_ordinal s.log) (is_connected s.phase)
    (Some Malformed, disconnected false s) (None, s) (λ on. refl) (λ off. refl)

broken-last : (s : SessionParts) → last_ordinal (broken s).log ≡ last_ordinal s.log
broken-last s =
    chosen (λ (t : SessionParts). last_ordinal t.log ≡ last_ordinal s.log) (is_connected s.phase)
    (disconnected false s) s (λ on. refl) (λ off. refl)

-- orders under numbers from one on, with ordinals above another
abbrev AreAbove : ℕ → ℕ → List (ℕ × ℕ) → Type 0
AreAbove next last [] = Unit {0}
AreAbove next last (order ∷ orders) = (next ≤ order.0) × (last < order.1) × AreAbove (order.0 + 1) order.1 orders

lower : (least next last : ℕ) (orders : List (ℕ × ℕ)) → least ≤ next → AreAbove next last orders
    → AreAbove least last orders
lower least next last [] below all = tt
lower least next last (order ∷ orders) below all = (let above = all.0 in (omega (arith, below, above), all.1, all.2))

-- an order that is sent has the next number, and its leg the last ordinal, above the one that was last
abbrev IsNextOrder : SessionParts → ℕ → SessionAnswer Message → Type 0
IsNextOrder s ordinal (Ok message, after) =
    (message.number ≡ next_out s) × (next_out after ≡ next_out s + 1) × (last_ordinal s.log < ordinal)
    × (last_ordinal after.log ≡ ordinal)
IsNextOrder s ordinal (Err why, after) = after ≡ s

above_last : (last ordinal : ℕ) → not (nat_lt last ordinal) ≡ false → last < ordinal
above_last last ordinal is = grind (arith, nat_tests, is)

send_in-next : (s : SessionParts) (ordinal : ℕ) (leg : Leg) (phase : Phase)
    → IsNextOrder s ordinal (send_in phase s ordinal leg)
send_in-next s ordinal leg Up =
    chosen (IsNextOrder s ordinal) (not (nat_lt (last_ordinal s.log) ordinal)) (refuses fault.OrdinalNotGreater s) _
    (λ low. refl)
    (λ high. chosen (IsNextOrder s ordinal) (may_write s) _ (refuses fault.NumbersSpent s)
    (λ may. (
      refl,
      omega (arith, length-append s.log (Sent (doubted ordinal leg) ∷ [])),
      above_last (last_ordinal s.log) ordinal high,
      last-sent 0 s.log (doubted ordinal leg),
    ))
    (λ spent. refl))
send_in-next s ordinal leg Down = refl
send_in-next s ordinal leg LoggingOn = refl
send_in-next s ordinal leg Settling = refl
send_in-next s ordinal leg Closing = refl
send_in-next s ordinal leg LoggedOut = refl
send_in-next s ordinal leg Closed = refl

sent_first : (s : SessionParts) (ordinal : ℕ) (leg : Leg) (answer : SessionAnswer Message) (rest : List (ℕ × ℕ))
    → IsNextOrder s ordinal answer
    → AreAbove (next_out (added_message answer).1) (last_ordinal (added_message answer).1.log) rest
    → AreAbove (next_out s) (last_ordinal s.log)
    (order_of (call.SendLeg ordinal leg) (added_message answer).0 ++ rest)
sent_first s ordinal leg (Ok m, t) rest next all =
    (let is_next = next.0 in
    let is_after = next.1 in (
      omega (arith, is_next),
      next.2,
      lower (m.number + 1) (next_out t) ordinal rest (omega (arith, is_next, is_after))
          (subst (λ (last : ℕ). AreAbove (next_out t) last rest) next.3 all),
    ))
sent_first s ordinal leg (Err why, t) rest is all =
    subst (λ (u : SessionParts). AreAbove (next_out u) (last_ordinal u.log) rest) is all

-- a call that writes no order
other_first : (read : Decoding) (s : SessionParts) (one : SessionCall) (orders : List (ℕ × ℕ))
    → last_ordinal (called read s one).1.log ≡ last_ordinal s.log
    → AreAbove (next_out (called read s one).1) (last_ordinal (called read s one).1.log) orders
    → AreAbove (next_out s) (last_ordinal s.log) orders
other_first read s one orders same all =
    (let last = (called_onward read s one).log.last in
    lower (next_out s) (next_out (called read s one).1) (last_ordinal s.log) orders (omega (arith, last))
    (subst (λ (ordinal : ℕ). AreAbove (next_out (called read s one).1) ordinal orders) same all))

calls_above : (read : Decoding) (s : SessionParts) (calls : List SessionCall)
    → AreAbove (next_out s) (last_ordinal s.log) (orders_of read s calls)
calls_above read s [] = tt
calls_above read s (call.SendLeg ordinal leg ∷ calls) =
    (let next = called read s (call.SendLeg ordinal leg) in
    sent_first s ordinal leg (send_leg s ordinal leg) (orders_of read next.1 calls)
    (send_in-next s ordinal leg s.phase) (calls_above read next.1 calls))
calls_above read s (call.Connect ∷ calls) =
    other_first read s call.Connect _ (connect_in-last s s.phase)
    (calls_above read (called read s call.Connect).1 calls)
calls_above read s (call.Receive envelope ∷ calls) =
    other_first read s (call.Receive envelope) _ (receive-last s (decoded read envelope))
    (calls_above read (called read s (call.Receive envelope)).1 calls)
calls_above read s (call.Confirm ∷ calls) =
    other_first read s call.Confirm _ (confirm-last s) (calls_above read (called read s call.Confirm).1 calls)
calls_above read s (call.Quiet ∷ calls) =
    other_first read s call.Quiet _ (quiet-last s) (calls_above read (called read s call.Quiet).1 calls)
calls_above read s (call.Silent ∷ calls) =
    other_first read s call.Silent _ (silent-last s) (calls_above read (called read s call.Silent).1 calls)
calls_above read s (call.Close ∷ calls) =
    other_first read s call.Close _ (close_in-last s s.phase) (calls_above read (called read s call.Close).1 calls)
calls_above read s (call.Malformed ∷ calls) =
    other_first read s call.Malformed _ (malformed-last s) (calls_above read (called read s call.Malformed).1 calls)
calls_above read s (call.Broken ∷ calls) =
    other_first read s call.Broken _ (broken-last s) (calls_above read (called read s call.Broken).1 calls)
calls_above read s (call.Abandon ∷ calls) =
    other_first read s call.Abandon _ refl (calls_above read (called read s call.Abandon).1 calls)

rising : (next last : ℕ) (orders : List (ℕ × ℕ)) → AreAbove next last orders → AreRising orders
rising next last [] all = tt
rising next last (first ∷ []) all = tt
rising next last (first ∷ second ∷ orders) all =
    (let later = all.2 in
    let above = later.0 in
    (omega (arith, above), later.1, rising (first.0 + 1) first.1 (second ∷ orders) later))

pub calls_keep_rules : (read : Decoding) (s : SessionParts) (calls : List SessionCall) → KeepsRules read s calls
calls_keep_rules read s calls = record {
  onward = λ first later rest is.
      rw (after-append read s first later) (calls_onward read (after_calls read s first) later);
  orders = rising (next_out s) (last_ordinal s.log) (orders_of read s calls) (calls_above read s calls);
  closed = λ first rest is over. calls_over read (after_calls read s first) rest over;
}
