-- Each call of a session keeps its promises, and what it writes can be written.
use Rattle.std.proofs.Common.{◌≡◌, ◌<◌, ℕ, true, false, not, nat_lt, Option, Some, None, Ok, Err, refl, arith}
use Rattle.std.specs.Prelude.{IfOk}
use Rattle.std.proofs.lemmas.Bool.Decides.{nat_tests}
use Rattle.leg.specs.declared.leg.Leg.{Leg}
use Rattle.leg.specs.Leg.{IsLeg}
use Rattle.dialect.specs.declared.message.Message.{Message}
use Rattle.dialect.specs.declared.content.Content.TheVariants.{Session, Order}
use Rattle.fix_tags.specs.declared.session_body.SessionBody.TheVariants.{Logon, Heartbeat}
use Rattle.dialect.specs.Outgoing.{alone}
use Rattle.dialect.specs.Writable.{IsNext, IsWritable}
use Rattle.resend.specs.Log.{last_ordinal}
use Rattle.session_core.specs.declared.phase.Phase.{Phase}
use Rattle.session_core.specs.declared.phase.Phase.TheVariants.{Down, LoggingOn, Settling, Up, Closing, LoggedOut, Closed}
use Rattle.session_core.specs.declared.ended.Ended.{Ended}
use Rattle.session_core.specs.declared.ended.Ended.TheVariants.{Silent, Malformed}
use Rattle.session_core.specs.declared.session_fault.SessionFault.{SessionFault}
use Rattle.session_core.specs.declared.session_fault.SessionFault.TheVariants as fault
use Rattle.session_core.specs.Session.{SessionParts, is_connected, is_still, next_out, may_write}
use Rattle.session_core.specs.Turn.{StepParts, Turn, quietly, puts, puts_fence, counting, with_pending, ends, disconnected}
use Rattle.session_core.specs.Receiving.{confirm}
use Rattle.session_core.specs.Calling.{SessionAnswer, refuses, answers, answers_numbered, connect, connect_in, own_next, logs_on, send_leg, send_in, send_up, quiet, silent, hushed, close, close_in, closing_up, asked_to_close, malformed, broken, abandon}
use Rattle.session_core.specs.Sound.{IsSound, AreWritable}
use Rattle.session_core.proofs.Adding.{chosen}
use Rattle.session_core.proofs.Sound.{stands-closed, sound-pending, sound-phase, sound-disconnected, sound-connecting, sound-sending, sound-closing}
use Rattle.session_core.proofs.Kept.{Kept, writable, next_writable, fence_message, no_fill-heartbeat, kept-quietly, kept-puts, kept-puts_fence, kept-ends}

-- an answer after which the promises stand, with what holds of it where it is no refusal
pub record Keeps {X : Type 0} (Says : X → Type 0) (answer : SessionAnswer X) : Type 0 where
  pub sound : IsSound answer.1
  pub says : IfOk answer.0 Says

keeps_refused : {X : Type 0} (Says : X → Type 0) (fault : SessionFault) (s : SessionParts) → IsSound s
    → Keeps Says (refuses fault s)
keeps_refused Says fault s is = record { sound = is; says = tt }

-- connect
own_next_writable : (s : SessionParts) → IsSound s → IsNext (own_next s)
own_next_writable s is =
    chosen IsNext s.config.has_next (Some s.expected) None (λ has. (is.expected.from, is.expected.to)) (λ has_not. tt)

CanBeWritten : Message → Type 0
CanBeWritten m = IsWritable (alone m)

keeps-logs_on : (s : SessionParts) → IsSound s → Keeps CanBeWritten (logs_on s)
unfolding CanBeWritten
keeps-logs_on s is =
    chosen (Keeps CanBeWritten) (may_write s) _ (refuses fault.NumbersSpent s)
    (λ may. record {
      sound = sound-connecting s is may;
      says =
          (let heart = is.config.heart in
          writable s.config is.config (next_out s) false (Session (Logon s.config.heart false (own_next s))) (omega arith)
          (next_writable s is may)
          (omega (arith, heart), own_next_writable s is));
    })
    (λ spent. keeps_refused CanBeWritten fault.NumbersSpent s is)

keeps-connect_in : (s : SessionParts) → IsSound s → (phase : Phase) → Keeps CanBeWritten (connect_in phase s)
keeps-connect_in s is Down = keeps-logs_on s is
keeps-connect_in s is Closed = keeps_refused CanBeWritten fault.Closed s is
keeps-connect_in s is LoggingOn = keeps_refused CanBeWritten fault.NotDown s is
keeps-connect_in s is Settling = keeps_refused CanBeWritten fault.NotDown s is
keeps-connect_in s is Up = keeps_refused CanBeWritten fault.NotDown s is
keeps-connect_in s is Closing = keeps_refused CanBeWritten fault.NotDown s is
keeps-connect_in s is LoggedOut = keeps_refused CanBeWritten fault.NotDown s is

pub connect_sound : (s : SessionParts) → IsSound s → IsSound (connect s).1
connect_sound s is = (keeps-connect_in s is s.phase).sound

pub connect_writable : (s : SessionParts) → IsSound s → IfOk (connect s).0 (λ m. IsWritable (alone m))
unfolding CanBeWritten
connect_writable s is = (keeps-connect_in s is s.phase).says

-- send_leg
OrderCanBe : Leg → Message → Type 0
OrderCanBe leg m = IsLeg leg → IsWritable (alone m)

keeps-send_up : (s : SessionParts) → IsSound s → (ordinal : ℕ) (leg : Leg) → s.phase ≡ Up
    → Keeps (OrderCanBe leg) (send_up s ordinal leg)
unfolding OrderCanBe
keeps-send_up s is ordinal leg up =
    chosen (Keeps (OrderCanBe leg)) (not (nat_lt (last_ordinal s.log) ordinal)) (refuses fault.OrdinalNotGreater s) _
    (λ low. keeps_refused (OrderCanBe leg) fault.OrdinalNotGreater s is)
    (λ high. chosen (Keeps (OrderCanBe leg)) (may_write s) _ (refuses fault.NumbersSpent s)
    (λ may. record {
      sound = sound-sending s is ordinal leg up may (above_last (last_ordinal s.log) ordinal high);
      says =
          λ leg_is.
          writable s.config is.config (next_out s) false (Order (Ok leg)) (omega arith) (next_writable s is may) leg_is;
    })
    (λ spent. keeps_refused (OrderCanBe leg) fault.NumbersSpent s is))
  where
    above_last : (last ordinal : ℕ) → not (nat_lt last ordinal) ≡ false → last < ordinal
    above_last last ordinal is = grind (arith, nat_tests, is)

keeps-send_in : (s : SessionParts) → IsSound s → (ordinal : ℕ) (leg : Leg) (phase : Phase) → s.phase ≡ phase
    → Keeps (OrderCanBe leg) (send_in phase s ordinal leg)
keeps-send_in s is ordinal leg Up so = keeps-send_up s is ordinal leg so
keeps-send_in s is ordinal leg Down so = keeps_refused (OrderCanBe leg) fault.NotUp s is
keeps-send_in s is ordinal leg LoggingOn so = keeps_refused (OrderCanBe leg) fault.NotUp s is
keeps-send_in s is ordinal leg Settling so = keeps_refused (OrderCanBe leg) fault.NotUp s is
keeps-send_in s is ordinal leg Closing so = keeps_refused (OrderCanBe leg) fault.NotUp s is
keeps-send_in s is ordinal leg LoggedOut so = keeps_refused (OrderCanBe leg) fault.NotUp s is
keeps-send_in s is ordinal leg Closed so = keeps_refused (OrderCanBe leg) fault.NotUp s is

pub send_leg_sound : (s : SessionParts) (ordinal : ℕ) (leg : Leg) → IsSound s → IsSound (send_leg s ordinal leg).1
send_leg_sound s ordinal leg is = (keeps-send_in s is ordinal leg s.phase refl).sound

if_leg : (leg : Leg) → IsLeg leg → (answer : SessionAnswer Message) → IfOk answer.0 (OrderCanBe leg)
    → IfOk answer.0 (λ m. IsWritable (alone m))
unfolding OrderCanBe
if_leg leg is (Ok m, after) says = says is
if_leg leg is (Err fault, after) says = tt

pub send_leg_writable : (s : SessionParts) (ordinal : ℕ) (leg : Leg) → IsSound s → IsLeg leg
    → IfOk (send_leg s ordinal leg).0 (λ m. IsWritable (alone m))
send_leg_writable s ordinal leg is leg_is =
    if_leg leg leg_is (send_leg s ordinal leg) (keeps-send_in s is ordinal leg s.phase refl).says

-- quiet, silent and close
StepCanBe : StepParts → Type 0
StepCanBe step = AreWritable step.written

keeps-answers : (turn : Turn) → Kept turn → Keeps StepCanBe (answers turn)
unfolding StepCanBe
keeps-answers turn kept = record { sound = kept.sound; says = kept.written }

keeps-numbered : (s : SessionParts) → IsSound s → (turn : Turn) → (may_write s ≡ true → Kept turn)
    → Keeps StepCanBe (answers_numbered s turn)
keeps-numbered s is turn kept =
    chosen (Keeps StepCanBe) (may_write s) (answers turn) (refuses fault.NumbersSpent s)
    (λ may. keeps-answers turn (kept may)) (λ spent. keeps_refused StepCanBe fault.NumbersSpent s is)

keeps-quiet : (s : SessionParts) → IsSound s → Keeps StepCanBe (quiet s)
keeps-quiet s is =
    chosen (Keeps StepCanBe) (not (is_connected s.phase)) (refuses fault.NotConnected s) _
    (λ off. keeps_refused StepCanBe fault.NotConnected s is)
    (λ on. chosen (Keeps StepCanBe) (is_still s.phase) (answers (quietly s)) _
    (λ still. keeps-answers (quietly s) (kept-quietly s is))
    (λ going. keeps-numbered s is (puts (Session (Heartbeat None)) (quietly s))
    (λ may. kept-puts (Session (Heartbeat None)) (quietly s) (kept-quietly s is) may tt (no_fill-heartbeat None))))

pub quiet_sound : (s : SessionParts) → IsSound s → IsSound (quiet s).1
quiet_sound s is = (keeps-quiet s is).sound

pub quiet_writable : (s : SessionParts) → IsSound s → IfOk (quiet s).0 (λ step. AreWritable step.written)
unfolding StepCanBe
quiet_writable s is = (keeps-quiet s is).says

hushed_sound : (s : SessionParts) → IsSound s → IsSound (hushed s)
hushed_sound s is = record {
  config = is.config;
  numbers = is.numbers;
  expected = is.expected;
  fences = is.fences;
  legs = is.legs;
  phase = is.phase;
}

keeps-silent : (s : SessionParts) → IsSound s → Keeps StepCanBe (silent s)
keeps-silent s is =
    chosen (Keeps StepCanBe) (not (is_connected s.phase)) (refuses fault.NotConnected s) _
    (λ off. keeps_refused StepCanBe fault.NotConnected s is)
    (λ on. chosen (Keeps StepCanBe) s.current.silent (answers (ends Silent s)) _
    (λ again. keeps-answers (ends Silent s) (kept-ends Silent s is))
    (λ first. chosen (Keeps StepCanBe) (is_still s.phase) (answers (quietly (hushed s))) _
    (λ still. keeps-answers (quietly (hushed s)) (kept-quietly (hushed s) (hushed_sound s is)))
    (λ going. keeps-numbered s is (puts_fence (quietly (hushed s)))
    (λ may. kept-puts_fence (quietly (hushed s)) (kept-quietly (hushed s) (hushed_sound s is)) may))))

pub silent_sound : (s : SessionParts) → IsSound s → IsSound (silent s).1
silent_sound s is = (keeps-silent s is).sound

pub silent_writable : (s : SessionParts) → IsSound s → IfOk (silent s).0 (λ step. AreWritable step.written)
unfolding StepCanBe
silent_writable s is = (keeps-silent s is).says

asked_sound : (s : SessionParts) → IsSound s → IsSound (asked_to_close s)
asked_sound s is = record {
  config = is.config;
  numbers = is.numbers;
  expected = is.expected;
  fences = is.fences;
  legs = is.legs;
  phase = is.phase;
}

keeps-close_in : (s : SessionParts) → IsSound s → (phase : Phase) → Keeps StepCanBe (close_in phase s)
keeps-close_in s is Down = keeps_refused StepCanBe fault.NotConnected s is
keeps-close_in s is Closed = keeps_refused StepCanBe fault.NotConnected s is
keeps-close_in s is Up =
    keeps-numbered s is (puts_fence (quietly (closing_up s)))
    (λ may.
    (let fenced = kept-puts_fence (quietly s) (kept-quietly s is) may in
    record { sound = sound-closing s is may; written = (fence_message s is may, tt); spares = fenced.spares }))
keeps-close_in s is LoggingOn =
    keeps-answers (quietly (asked_to_close s)) (kept-quietly (asked_to_close s) (asked_sound s is))
keeps-close_in s is Settling =
    keeps-answers (quietly (asked_to_close s)) (kept-quietly (asked_to_close s) (asked_sound s is))
keeps-close_in s is Closing = keeps-answers (quietly s) (kept-quietly s is)
keeps-close_in s is LoggedOut = keeps-answers (quietly s) (kept-quietly s is)

pub close_sound : (s : SessionParts) → IsSound s → IsSound (close s).1
close_sound s is = (keeps-close_in s is s.phase).sound

pub close_writable : (s : SessionParts) → IsSound s → IfOk (close s).0 (λ step. AreWritable step.written)
unfolding StepCanBe
close_writable s is = (keeps-close_in s is s.phase).says

-- confirm, and the ends of connections
counted_sound : (s : SessionParts) → IsSound s → s.current.pending ≡ true → IsSound (with_pending false (counting s))
counted_sound s is noted =
    (let low = is.expected.pending noted in
    record {
      config = is.config;
      numbers = is.numbers;
      expected = record { from = omega arith; to = omega (arith, low); pending = λ again. absurd cc };
      fences = is.fences;
      legs = is.legs;
      phase = is.phase;
    })

pub confirm_sound : (s : SessionParts) → IsSound s → IsSound (confirm s)
confirm_sound s is =
    chosen IsSound s.current.pending (with_pending false (counting s)) s (λ noted. counted_sound s is noted)
    (λ none_noted. is)

pub broken_sound : (s : SessionParts) → IsSound s → IsSound (broken s)
broken_sound s is =
    chosen IsSound (is_connected s.phase) (disconnected false s) s (λ on. sound-disconnected s is false) (λ off. is)

pub malformed_sound : (s : SessionParts) → IsSound s → IsSound (malformed s).1
malformed_sound s is =
    chosen (λ (r : Option Ended × SessionParts). IsSound r.1) (is_connected s.phase)
    (Some Malformed, disconnected false s) (None, s)
    (λ on. sound-disconnected s is false) (λ off. is)

pub abandon_sound : (s : SessionParts) → IsSound s → IsSound (abandon s)
abandon_sound s is =
    (let over = sound-phase s is Closed (stands-closed s.log s.current.fences s.current.closing_fence) in
    sound-pending (record s { phase = Closed }) over false (λ noted. absurd cc))
