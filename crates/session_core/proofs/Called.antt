-- The calls beside receiving keep the legs as they are.
use Rattle.std.proofs.Common.{◌≡◌, ◌≤◌, ◌<◌, ◌+◌, ℕ, Bool, true, false, not, nat_lt, List, [], ◌∷◌, length, Option, Some, None, refl, sym, ap, ◌∙◌, arith, length-append}
use Rattle.std.proofs.lemmas.Bool.Decides.{nat_tests}
use Rattle.std.proofs.lemmas.List.{append-nil}
use Rattle.leg.specs.declared.leg.Leg.{Leg}
use Rattle.leg.specs.declared.leg_state.LegState.TheVariants.{Doubt}
use Rattle.dialect.specs.declared.message.Message.{Message}
use Rattle.dialect.specs.declared.content.Content.TheVariants.{Session}
use Rattle.fix_tags.specs.declared.session_body.SessionBody.TheVariants.{Heartbeat}
use Rattle.resend.specs.Log.{Entry, last_ordinal}
use Rattle.resend.specs.Log.Entry.{Admin, Sent}
use Rattle.session_core.specs.declared.phase.Phase.{Phase}
use Rattle.session_core.specs.declared.phase.Phase.TheVariants.{Down, LoggingOn, Settling, Up, Closing, LoggedOut, Closed}
use Rattle.session_core.specs.declared.ended.Ended.TheVariants.{Silent, Malformed}
use Rattle.session_core.specs.declared.ended.Ended.{Ended}
use Rattle.session_core.specs.declared.session_fault.SessionFault.TheVariants as fault
use Rattle.session_core.specs.Session.{SessionParts, is_connected, is_still, may_write}
use Rattle.session_core.specs.Turn.{StepParts, Turn, no_step, quietly, puts, puts_fence, counting, with_pending, ends, disconnected}
use Rattle.session_core.specs.Receiving.{receive, confirm}
use Rattle.session_core.specs.Calling.{SessionAnswer, refuses, answers, answers_numbered, connect, connect_in, connecting, logs_on, send_leg, send_in, send_up, doubted, sending, quiet, silent, hushed, close, close_in, closing_up, asked_to_close, malformed, broken, abandon}
use Rattle.session_core.specs.Onward.{OrUnchanged, KeepsLegs, IsCall, IsConnection, SendsLeg}
use Rattle.session_core.proofs.Legs.{numbered-next}
use Rattle.session_core.proofs.Adding.{chosen, adds-puts, adds-puts_fence, adds-ends_turn, keeps_with, call_by}

-- the log as it was
keeps_log : (s t : SessionParts) → t.config ≡ s.config → t.log ≡ s.log → s.connection ≤ t.connection
    → s.expected ≤ t.expected → (s.close_asked ≡ true → t.close_asked ≡ true) → KeepsLegs s t
keeps_log s t config log connection expected close_asked =
    keeps_with s t config ([], log ∙ sym (append-nil s.log)) connection expected close_asked

pub keeps-refl : (s : SessionParts) → KeepsLegs s s
keeps-refl s = keeps_log s s refl refl (omega arith) (omega arith) (λ asked. asked)

call_quietly : (s t : SessionParts) → KeepsLegs s t → t.log ≡ s.log → IsCall s no_step t
call_quietly s t keeps log =
    record { keeps = keeps; spends = ap (λ (l : List Entry). length l + 1) log; note = refl; withdrawn = refl }

-- connect
logged_on : (s : SessionParts) → s.phase ≡ Down → OrUnchanged s (IsConnection s) (logs_on s)
logged_on s down =
    chosen (λ (answer : SessionAnswer Message). OrUnchanged s (IsConnection s) answer) (may_write s) _
    (refuses fault.NumbersSpent s)
    (λ may. record {
      keeps = keeps_with s (connecting s) refl (Admin ∷ [], refl) (omega arith) (omega arith) (λ asked. asked);
      spends = (refl, omega (arith, length-append s.log (Admin ∷ [])));
      was_down = down;
      logs_on = (refl, refl);
      counted = refl;
    })
    (λ spent. refl)

connected_in : (s : SessionParts) (phase : Phase) → s.phase ≡ phase
    → OrUnchanged s (IsConnection s) (connect_in phase s)
connected_in s Down is = logged_on s is
connected_in s LoggingOn is = refl
connected_in s Settling is = refl
connected_in s Up is = refl
connected_in s Closing is = refl
connected_in s LoggedOut is = refl
connected_in s Closed is = refl

pub connect_keeps : (s : SessionParts) → OrUnchanged s (IsConnection s) (connect s)
connect_keeps s = connected_in s s.phase refl

-- send_leg
sent_up : (s : SessionParts) (ordinal : ℕ) (leg : Leg) → s.phase ≡ Up
    → OrUnchanged s (SendsLeg s ordinal leg) (send_up s ordinal leg)
sent_up s ordinal leg up =
    chosen (λ (answer : SessionAnswer Message). OrUnchanged s (SendsLeg s ordinal leg) answer)
    (not (nat_lt (last_ordinal s.log) ordinal)) (refuses fault.OrdinalNotGreater s) _
    (λ low. refl)
    (λ high. chosen (λ (answer : SessionAnswer Message). OrUnchanged s (SendsLeg s ordinal leg) answer)
    (may_write s) _ (refuses fault.NumbersSpent s)
    (λ may. record {
      keeps =
          keeps_with s (sending s ordinal leg) refl (
            Sent (record {
              ordinal = ordinal;
              id = leg.id;
              state = Doubt;
            }) ∷ [],
            refl,
          ) (omega arith) (omega arith) (λ asked. asked);
      spends = (
        refl,
        omega (
          arith,
          length-append s.log (Sent (record {
            ordinal = ordinal;
            id = leg.id;
            state = Doubt;
          }) ∷ []),
        ),
      );
      orders = refl;
      was_up = up;
      above = above_last (last_ordinal s.log) ordinal high;
      in_doubt = numbered-next s.log (Sent (doubted ordinal leg));
    })
    (λ spent. refl))
  where
    above_last : (last ordinal : ℕ) → not (nat_lt last ordinal) ≡ false → last < ordinal
    above_last last ordinal is = grind (arith, nat_tests, is)

sent_in : (s : SessionParts) (ordinal : ℕ) (leg : Leg) (phase : Phase) → s.phase ≡ phase
    → OrUnchanged s (SendsLeg s ordinal leg) (send_in phase s ordinal leg)
sent_in s ordinal leg Up is = sent_up s ordinal leg is
sent_in s ordinal leg Down is = refl
sent_in s ordinal leg LoggingOn is = refl
sent_in s ordinal leg Settling is = refl
sent_in s ordinal leg Closing is = refl
sent_in s ordinal leg LoggedOut is = refl
sent_in s ordinal leg Closed is = refl

pub send_leg_keeps : (s : SessionParts) (ordinal : ℕ) (leg : Leg)
    → OrUnchanged s (SendsLeg s ordinal leg) (send_leg s ordinal leg)
send_leg_keeps s ordinal leg = sent_in s ordinal leg s.phase refl

-- confirm, and the ends of connections
pub confirm_keeps : (s : SessionParts) → KeepsLegs s (confirm s)
confirm_keeps s =
    chosen (KeepsLegs s) s.current.pending (with_pending false (counting s)) s
    (λ noted. keeps_log s _ refl refl (omega arith) (omega arith) (λ asked. asked))
    (λ none_noted. keeps-refl s)

disconnected_keeps : (is_over : Bool) (s : SessionParts) → KeepsLegs s (disconnected is_over s)
disconnected_keeps is_over s =
    keeps_log s (disconnected is_over s) refl refl (omega arith) (omega arith) (λ asked. asked)

pub broken_keeps : (s : SessionParts) → KeepsLegs s (broken s)
broken_keeps s =
    chosen (KeepsLegs s) (is_connected s.phase) (disconnected false s) s (λ on. disconnected_keeps false s)
    (λ off. keeps-refl s)

pub malformed_keeps : (s : SessionParts) → KeepsLegs s (malformed s).1
malformed_keeps s =
    chosen (λ (r : Option Ended × SessionParts). KeepsLegs s r.1) (is_connected s.phase)
    (Some Malformed, disconnected false s) (None, s)
    (λ on. disconnected_keeps false s)
    (λ off. keeps-refl s)

pub abandon_keeps : (s : SessionParts) → KeepsLegs s (abandon s)
abandon_keeps s = keeps_log s (abandon s) refl refl (omega arith) (omega arith) (λ asked. asked)

-- quiet, silent and close
abbrev Calls : SessionParts → SessionAnswer StepParts → Type 0
Calls s answer = OrUnchanged s (IsCall s) answer

numbered_call : (s : SessionParts) (turn : Turn) → IsCall s turn.step turn.session → Calls s (answers_numbered s turn)
numbered_call s turn call =
    chosen (Calls s) (may_write s) (answers turn) (refuses fault.NumbersSpent s) (λ may. call) (λ spent. refl)

pub quiet_keeps : (s : SessionParts) → OrUnchanged s (IsCall s) (quiet s)
quiet_keeps s =
    chosen (Calls s) (not (is_connected s.phase)) (refuses fault.NotConnected s) _ (λ off. refl)
    (λ on. chosen (Calls s) (is_still s.phase) (answers (quietly s)) _ (λ still. call_quietly s s (keeps-refl s) refl)
    (λ going. numbered_call s (puts (Session (Heartbeat None)) (quietly s))
    (call_by s (quietly s) (puts (Session (Heartbeat None)) (quietly s))
    (call_quietly s s (keeps-refl s) refl) (adds-puts (Session (Heartbeat None)) (quietly s)))))

hushed_call : (s : SessionParts) → IsCall s no_step (hushed s)
hushed_call s =
    call_quietly s (hushed s) (keeps_log s (hushed s) refl refl (omega arith) (omega arith) (λ asked. asked)) refl

pub silent_keeps : (s : SessionParts) → OrUnchanged s (IsCall s) (silent s)
silent_keeps s =
    chosen (Calls s) (not (is_connected s.phase)) (refuses fault.NotConnected s) _ (λ off. refl)
    (λ on. chosen (Calls s) s.current.silent (answers (ends Silent s)) _
    (λ again. call_by s (quietly s) (ends Silent s)
    (call_quietly s s (keeps-refl s) refl) (adds-ends_turn Silent (quietly s)))
    (λ first. chosen (Calls s) (is_still s.phase) (answers (quietly (hushed s))) _ (λ still. hushed_call s)
    (λ going. numbered_call s (puts_fence (quietly (hushed s)))
    (call_by s (quietly (hushed s)) (puts_fence (quietly (hushed s)))
    (hushed_call s) (adds-puts_fence (quietly (hushed s)))))))

asked_call : (s : SessionParts) → IsCall s no_step (asked_to_close s)
asked_call s =
    call_quietly s (asked_to_close s)
    (keeps_log s (asked_to_close s) refl refl (omega arith) (omega arith) (λ asked. refl)) refl

closing_call : (s : SessionParts) → Calls s (answers_numbered s (puts_fence (quietly (closing_up s))))
closing_call s =
    (let asked =
    call_quietly s (closing_up s)
    (keeps_log s (closing_up s) refl refl (omega arith) (omega arith) (λ asked. refl)) refl in
    numbered_call s (puts_fence (quietly (closing_up s)))
    (call_by s (quietly (closing_up s)) (puts_fence (quietly (closing_up s)))
    asked (adds-puts_fence (quietly (closing_up s)))))

close_in_keeps : (s : SessionParts) (phase : Phase) → OrUnchanged s (IsCall s) (close_in phase s)
close_in_keeps s Down = refl
close_in_keeps s Closed = refl
close_in_keeps s Up = closing_call s
close_in_keeps s LoggingOn = asked_call s
close_in_keeps s Settling = asked_call s
close_in_keeps s Closing = call_quietly s s (keeps-refl s) refl
close_in_keeps s LoggedOut = call_quietly s s (keeps-refl s) refl

pub close_keeps : (s : SessionParts) → OrUnchanged s (IsCall s) (close s)
close_keeps s = close_in_keeps s s.phase

-- a session that has ended for good
module _ (s : SessionParts) (closed : s.phase ≡ Closed) where
  pub closed-receive : (m : Message) → receive s m ≡ quietly s
  closed-receive m = rw closed refl

  pub closed-connect : connect s ≡ refuses fault.Closed s
  closed-connect = rw closed refl

  pub closed-send_leg : (ordinal : ℕ) (leg : Leg) → send_leg s ordinal leg ≡ refuses fault.NotUp s
  closed-send_leg ordinal leg = rw closed refl

  pub closed-quiet : quiet s ≡ refuses fault.NotConnected s
  closed-quiet = rw closed refl

  pub closed-silent : silent s ≡ refuses fault.NotConnected s
  closed-silent = rw closed refl

  pub closed-close : close s ≡ refuses fault.NotConnected s
  closed-close = rw closed refl

  pub closed-malformed : malformed s ≡ (None, s)
  closed-malformed = rw closed refl

  pub closed-broken : broken s ≡ s
  closed-broken = rw closed refl

  pub closed-confirm : (confirm s).phase ≡ Closed
  closed-confirm =
      chosen (λ (t : SessionParts). t.phase ≡ Closed) s.current.pending (with_pending false (counting s)) s
      (λ noted. closed) (λ none_noted. closed)
