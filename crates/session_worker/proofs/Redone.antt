-- What a start does again, line by line.
use Rattle.std.proofs.Common.{◌≡◌, ℕ, ◌+◌, ◌<◌, ◌≤◌, Bool, true, false, List, [], ◌∷◌, ◌++◌, length, take, get_or, slice_get, refl, sym, ap, subst, ◌∙◌, arith, append_assoc, if◌then◌else◌}
use Rattle.std.specs.Option.{option_or}
use Rattle.std.specs.Prelude.{min, Option, Some, None, Result, Ok, Err}
use Rattle.std.proofs.lemmas.List.{append-nil, length-append, take_all, take_more}
use Rattle.std.proofs.lemmas.Option.{slice_get_within, get_or_from_slice_get}
use Rattle.leg.specs.LegId.{LegIdParts}
use Rattle.leg.specs.declared.placed_leg.PlacedLeg.{PlacedLeg}
use Rattle.fix_text.specs.Tagged.{Tagged}
use Rattle.fix_tags.specs.Reading.{envelope_read}
use Rattle.fix_tags.specs.Stamp.{StampParts}
use Rattle.fix_tags.specs.declared.envelope.Envelope.{Envelope}
use Rattle.dialect.specs.declared.message.Message.{Message}
use Rattle.dialect.specs.declared.note.Note.{Note}
use Rattle.dialect.specs.Message.{decoded}
use Rattle.dialect.specs.Wording.{Decoding, Encoding}
use Rattle.journal_words.specs.declared.leg_act.LegAct.TheVariants.{Sent, Dropped, Failed}
use Rattle.release_lock.specs.Queues.{Took}
use Rattle.exec_collector.specs.Seats.{Seat}
use Rattle.session_core.specs.declared.session_call.SessionCall.{SessionCall}
use Rattle.session_core.specs.declared.session_call.SessionCall.TheVariants as call
use Rattle.session_core.specs.declared.session_fault.SessionFault.{SessionFault}
use Rattle.session_core.specs.declared.session_fault.SessionFault.TheVariants as fault
use Rattle.session_core.specs.declared.step.Step.{Step}
use Rattle.session_core.specs.Session.{SessionParts}
use Rattle.session_core.specs.Turn.{StepParts, counting, with_pending}
use Rattle.session_core.specs.Receiving.{receive, confirm}
use Rattle.session_core.specs.Calling.{SessionAnswer, answers, broken, connect, malformed, send_leg}
use Rattle.session_core.specs.Trial.{Addition, added, added_message, called, after_calls}
use Rattle.session_core.specs.CallResult.{IsStep, Gives}
use Rattle.session_core.proofs.CallsMade.{after-append}
use Rattle.session_worker.specs.Booking.{waiting_in, waiting_after, booked_in, booked_by, named_in, unless_sent, withdrawn_at}
use Rattle.session_worker.specs.Events.{WorkerEvent, calls_in, calls_of, leg_in, taken_in, taken_of, withdrawn_in, withdrawn_by, lasting}
use Rattle.session_worker.specs.Events.WorkerEvent.{Calls, Drops, Fails}
use Rattle.session_worker.specs.Keeping.{heard_as, heard_call, leg_event}
use Rattle.session_worker.specs.Linking.{BesideShares, beside_shares, asked_too}
use Rattle.session_worker.specs.Restoring.{StartParts, counted_with, named_by, AsksFor, CarriesOutAgain, Follows, Redoes, TakesMore}
use Rattle.session_worker.specs.Taking.{TakesNext}
use Rattle.session_worker.proofs.Booking.{booked-append}
use Rattle.session_worker.proofs.Doing.{calls-append, taken-append, withdrawn-append}
use Rattle.session_worker.proofs.Withdrawals.{asks_more}

abbrev pub start_of : SessionParts → Took → Seat → ℕ → ℕ → Option Note → StartParts
start_of session took seat told counted waiting =
    record { session = session; took = took; seat = seat; told = told; counted = counted; waiting = waiting }

-- ---- events one after the other

counted-append : (count : ℕ) (first more : List Note)
    → counted_with count (first ++ more) ≡ counted_with (counted_with count first) more
counted-append count [] more = refl
counted-append count (note ∷ first) more = counted-append (min (count + 1) 18446744073709551615) first more

waiting-append : (read : Decoding) (s : SessionParts) (waiting : Option Note) (first more : List SessionCall)
    → waiting_after read s waiting (first ++ more)
    ≡ waiting_after read (after_calls read s first) (waiting_after read s waiting first) more
waiting-append read s waiting [] more = refl
waiting-append read s waiting (made ∷ first) more =
    waiting-append read (called read s made).1 (waiting_in read s waiting made) first more

-- the notes that events book, where others were done before them
booked_then : (read : Decoding) (a b : StartParts) (first more : List WorkerEvent) → Redoes read a first b
    → booked_by read a.session a.waiting (calls_of first) ++ booked_by read b.session b.waiting (calls_of more)
    ≡ booked_by read a.session a.waiting (calls_of (first ++ more))
booked_then read a b first more one =
    let now : List Note = booked_by read a.session a.waiting (calls_of first) in
    let s : SessionParts = after_calls read a.session (calls_of first) in
    ap (λ (s : SessionParts). now ++ booked_by read s b.waiting (calls_of more)) one.session
    ∙ (ap (λ (waiting : Option Note). now ++ booked_by read s waiting (calls_of more)) one.waiting
    ∙ (sym (booked-append read a.session a.waiting (calls_of first) (calls_of more))
    ∙ ap (booked_by read a.session a.waiting) (sym (calls-append first more))))

pub redoes_on : (read : Decoding) (a b c : StartParts) (first more : List WorkerEvent) → Redoes read a first b
    → Redoes read b more c → Redoes read a (first ++ more) c
redoes_on read a b c first more one next =
    let both : calls_of first ++ calls_of more ≡ calls_of (first ++ more) = sym (calls-append first more) in
    let legs : taken_of first ++ taken_of more ≡ taken_of (first ++ more) = sym (taken-append first more) in
    let books = booked_then read a b first more one in
    let now : List Note = booked_by read a.session a.waiting (calls_of first) in
    let later : List Note = booked_by read b.session b.waiting (calls_of more) in
    let s : SessionParts = after_calls read a.session (calls_of first) in
    record {
      session = next.session ∙ (ap (λ (s : SessionParts). after_calls read s (calls_of more)) one.session
          ∙ (sym (after-append read a.session (calls_of first) (calls_of more)) ∙ ap (after_calls read a.session) both));
      took = next.took ∙ one.took;
      told =
          let many : length (taken_of first) + length (taken_of more) ≡ length (taken_of (first ++ more)) =
          sym (length-append (taken_of first) (taken_of more)) ∙ ap length legs in
          let e = one.told in
          let f = next.told in
          omega arith;
      taken = next.taken ∙ (ap (λ l. l ++ taken_of more) one.taken
          ∙ (append_assoc (take a.told a.took.taken) (taken_of first) (taken_of more)
          ∙ ap (λ l. take a.told a.took.taken ++ l) legs));
      seat = next.seat ∙ one.seat;
      booked = next.booked ∙ (ap (λ l. l ++ later) one.booked
          ∙ (append_assoc a.seat.booked now later ∙ ap (λ l. a.seat.booked ++ l) books));
      counted = next.counted ∙ (ap (λ (n : ℕ). counted_with n later) one.counted
          ∙ (sym (counted-append a.counted now later) ∙ ap (counted_with a.counted) books));
      asked = next.asked ∙ (ap (λ l. l ++ withdrawn_by read b.session more) one.asked
          ∙ (append_assoc a.seat.asked (withdrawn_by read a.session first) (withdrawn_by read b.session more)
          ∙ ap (λ l. a.seat.asked ++ l)
          (ap (λ (s : SessionParts). withdrawn_by read a.session first ++ withdrawn_by read s more) one.session
          ∙ sym (withdrawn-append read a.session first more))));
      waiting = next.waiting ∙ (ap (λ (s : SessionParts). waiting_after read s b.waiting (calls_of more)) one.session
          ∙ (ap (λ (waiting : Option Note). waiting_after read s waiting (calls_of more)) one.waiting
          ∙ (sym (waiting-append read a.session a.waiting (calls_of first) (calls_of more))
          ∙ ap (waiting_after read a.session a.waiting) both)));
    }

-- ---- one event

-- one that takes no leg and books no note
redoes_plain : (read : Decoding) (a b : StartParts) (event : WorkerEvent) (ids : List LegIdParts)
    → taken_in event ≡ [] → booked_by read a.session a.waiting (calls_in event ++ []) ≡ []
    → withdrawn_in read a.session event ≡ ids → b.session ≡ after_calls read a.session (calls_in event ++ [])
    → b.took ≡ a.took → b.told ≡ a.told → b.counted ≡ a.counted
    → beside_shares b.seat ≡ asked_too ids (beside_shares a.seat)
    → b.waiting ≡ waiting_after read a.session a.waiting (calls_in event ++ []) → Redoes read a (event ∷ []) b
redoes_plain read a b event ids no_leg no_note withdraws session took told counted seat waiting =
    let untaken : taken_of (event ∷ []) ≡ [] = ap (λ l. l ++ []) no_leg in
    record {
      session = session;
      took = took;
      told = told ∙ (let e = ap length untaken in omega arith);
      taken = ap (λ (n : ℕ). take n b.took.taken) told ∙ (ap (λ (t : Took). take a.told t.taken) took
          ∙ (sym (append-nil (take a.told a.took.taken)) ∙ ap (λ l. take a.told a.took.taken ++ l) (sym untaken)));
      seat = ap (λ (t : BesideShares). t.lasts) seat;
      booked = ap (λ (t : BesideShares). t.booked) seat
          ∙ (sym (append-nil a.seat.booked) ∙ ap (λ l. a.seat.booked ++ l) (sym no_note));
      counted = counted ∙ ap (counted_with a.counted) (sym no_note);
      asked = ap (λ (t : BesideShares). t.asked) seat
          ∙ ap (λ l. a.seat.asked ++ l) (sym (ap (λ l. l ++ []) withdraws ∙ append-nil ids));
      waiting = waiting;
    }

-- a leg that was taken, with the one that lies there
redoes_leg : (read : Decoding) (a b : StartParts) (event : WorkerEvent) (leg : PlacedLeg) (ids : List LegIdParts)
    → taken_in event ≡ leg ∷ [] → slice_get a.took.taken a.told ≡ Some leg
    → booked_by read a.session a.waiting (calls_in event ++ []) ≡ []
    → withdrawn_in read a.session event ≡ ids → b.session ≡ after_calls read a.session (calls_in event ++ [])
    → b.took ≡ a.took → b.told ≡ a.told + 1 → b.counted ≡ a.counted
    → beside_shares b.seat ≡ asked_too ids (beside_shares a.seat)
    → b.waiting ≡ waiting_after read a.session a.waiting (calls_in event ++ []) → Redoes read a (event ∷ []) b
redoes_leg read a b event leg ids is at no_note withdraws session took told counted seat waiting =
    let one : taken_of (event ∷ []) ≡ leg ∷ [] = ap (λ l. l ++ []) is in
    let within : a.told < length a.took.taken = slice_get_within a.took.taken a.told leg at in
    let there : get_or a.took.taken a.told leg ≡ leg = get_or_from_slice_get a.took.taken a.told leg leg at in
    record {
      session = session;
      took = took;
      told = told ∙ (let e = ap length one in omega arith);
      taken = ap (λ (n : ℕ). take n b.took.taken) told ∙ (ap (λ (t : Took). take (a.told + 1) t.taken) took
          ∙ (take_more a.took.taken a.told leg within
          ∙ (ap (λ (x : PlacedLeg). take a.told a.took.taken ++ x ∷ []) there
          ∙ ap (λ l. take a.told a.took.taken ++ l) (sym one))));
      seat = ap (λ (t : BesideShares). t.lasts) seat;
      booked = ap (λ (t : BesideShares). t.booked) seat
          ∙ (sym (append-nil a.seat.booked) ∙ ap (λ l. a.seat.booked ++ l) (sym no_note));
      counted = counted ∙ ap (counted_with a.counted) (sym no_note);
      asked = ap (λ (t : BesideShares). t.asked) seat
          ∙ ap (λ l. a.seat.asked ++ l) (sym (ap (λ l. l ++ []) withdraws ∙ append-nil ids));
      waiting = waiting;
    }

-- ---- what was asked of the book

pub asks_here : (a : StartParts) → AsksFor [] a a
asks_here a = record {
  seat = ap (λ l. record (beside_shares a.seat) { asked = l }) (sym (append-nil a.seat.asked));
  rest = refl;
}

asked_one : (a b : Seat) (id : LegIdParts) → (b.parts ≡ a.parts) × (b.venue ≡ a.venue) → b.booked ≡ a.booked
    → b.asked ≡ a.asked ++ id ∷ [] → beside_shares b ≡ asked_too (id ∷ []) (beside_shares a)
asked_one a b id parts booked asked =
    λ i. record { lasts = record { parts = parts.0 i; venue = parts.1 i }; booked = booked i; asked = asked i }

pub asks_one : (a b : StartParts) (id : LegIdParts)
    → (b.seat.parts ≡ a.seat.parts) × (b.seat.venue ≡ a.seat.venue) → b.seat.booked ≡ a.seat.booked
    → b.seat.asked ≡ a.seat.asked ++ id ∷ [] → b ≡ record a { seat = b.seat } → AsksFor (id ∷ []) a b
asks_one a b id parts booked asked rest =
    record { seat = asked_one a.seat b.seat id parts booked asked; rest = rest }

pub asks_next : (ids : List LegIdParts) (i : ℕ) (id : LegIdParts) → i < length ids → id ≡ get_or ids i id
    → (a b c : StartParts) → AsksFor (take i ids) a b → AsksFor (id ∷ []) b c → AsksFor (take (i + 1) ids) a c
asks_next ids i id below is a b c first next = record {
  seat = asks_more ids i id below is (beside_shares a.seat) (beside_shares b.seat) (beside_shares c.seat) first.seat
      next.seat;
  rest = next.rest ∙ ap (λ (x : StartParts). record x { seat = c.seat }) first.rest;
}

pub asks_every : (ids : List LegIdParts) (i : ℕ) (a b : StartParts) → length ids ≤ i → AsksFor (take i ids) a b
    → AsksFor ids a b
asks_every ids i a b past first = subst (λ (l : List LegIdParts). AsksFor l a b) (take_all i ids past) first

-- with the note of the step before
pub follows_asked : (step : Step) (a m b : StartParts) → m ≡ record a { waiting = option_or step.note a.waiting }
    → AsksFor step.withdrawn m b → Follows step a b
follows_asked step a m b same asks =
    let waits : b.waiting ≡ option_or step.note a.waiting =
    ap (λ (x : StartParts). x.waiting) asks.rest ∙ ap (λ (x : StartParts). x.waiting) same in
    record {
      waiting = waits;
      seat = asks.seat ∙ ap (λ (x : StartParts). asked_too step.withdrawn (beside_shares x.seat)) same;
      rest = asks.rest ∙ (ap (λ (x : StartParts). record x { seat = b.seat }) same
          ∙ ap (λ (w : Option Note). record a { seat = b.seat; waiting = w }) (sym waits));
    }

-- ---- legs that are taken

pub takes_here : (a : StartParts) → TakesMore a a
takes_here a = record { more = ([], append-nil a.took.taken); rest = refl; venue = refl }

pub takes_one : (a b : StartParts) (next : Option PlacedLeg) → TakesNext a.took b.took next
    → b ≡ record a { took = b.took } → TakesMore a b
takes_one a b None same rest = record {
  more = ([], append-nil a.took.taken ∙ ap (λ (t : Took). t.taken) (sym same));
  rest = rest;
  venue = ap (λ (t : Took). t.venue) same;
}
takes_one a b (Some leg) is rest = record {
  more = (leg ∷ [], ap (λ (t : Took). t.taken) (sym is));
  rest = rest;
  venue = ap (λ (t : Took). t.venue) is;
}

pub takes_on : (a b c : StartParts) → TakesMore a b → TakesMore b c → TakesMore a c
takes_on a b c first next = record {
  more = (
    first.more.0 ++ next.more.0,
    sym (append_assoc a.took.taken first.more.0 next.more.0)
        ∙ (ap (λ l. l ++ next.more.0) first.more.1 ∙ next.more.1),
  );
  rest = next.rest ∙ ap (λ (x : StartParts). record x { took = c.took }) first.rest;
  venue = next.venue ∙ first.venue;
}

-- ---- calls of the session

-- what a call gave, and the session after it
given_step : (w : Encoding) (stamp : StampParts) (s now : SessionParts) (answer : SessionAnswer StepParts)
    (given : Result Step SessionFault) → Gives (IsStep w stamp) s answer given now → (given ≡ Err fault.OutOfMemory → ⊥)
    → (now ≡ (added answer).1) × (named_in (added answer).0 ≡ named_by given)
given_step w stamp s now (Ok said, after) (Ok step) gives other = (gives.1, sym gives.0.withdrawn)
given_step w stamp s now (Ok said, after) (Err why) gives other = absurd (other (ap Err gives.0))
given_step w stamp s now (Err why, after) given gives other = (gives.1, sym (ap named_by gives.0))

-- a call that gives a step and no note, where the book was then asked to withdraw what the step names
pub redoes_given : (read : Decoding) (w : Encoding) (stamp : StampParts) (a m b : StartParts) (made : SessionCall)
    (answer : SessionAnswer StepParts) (given : Result Step SessionFault) → leg_in made ≡ []
    → booked_in a.session a.waiting made ≡ [] → withdrawn_at read a.session made ≡ named_in (added answer).0
    → (called read a.session made).1 ≡ (added answer).1 → waiting_in read a.session a.waiting made ≡ a.waiting
    → Gives (IsStep w stamp) a.session answer given m.session → m ≡ record a { session = m.session }
    → CarriesOutAgain given m b → Redoes read a (Calls made ∷ []) b
redoes_given read w stamp a m b made answer given no_leg no_note withdraws is waits gives same carries =
    let gave = given_step w stamp a.session m.session answer given gives carries.0 in
    let rest = carries.1.rest in
    redoes_plain read a b (Calls made) (named_by given) no_leg (ap (λ l. l ++ []) no_note) (withdraws ∙ gave.1)
    (ap (λ (x : StartParts). x.session) rest ∙ (gave.0 ∙ sym is))
    (ap (λ (x : StartParts). x.took) rest ∙ ap (λ (x : StartParts). x.took) same)
    (ap (λ (x : StartParts). x.told) rest ∙ ap (λ (x : StartParts). x.told) same)
    (ap (λ (x : StartParts). x.counted) rest ∙ ap (λ (x : StartParts). x.counted) same)
    (carries.1.seat ∙ ap (λ (x : StartParts). asked_too (named_by given) (beside_shares x.seat)) same)
    (ap (λ (x : StartParts). x.waiting) rest ∙ (ap (λ (x : StartParts). x.waiting) same ∙ sym waits))

-- a call that names no leg, and after which nothing else changed
pub redoes_silent : (read : Decoding) (a b : StartParts) (made : SessionCall) → leg_in made ≡ []
    → booked_in a.session a.waiting made ≡ [] → withdrawn_at read a.session made ≡ []
    → waiting_in read a.session a.waiting made ≡ a.waiting
    → b.session ≡ (called read a.session made).1 → b ≡ record a { session = b.session }
    → Redoes read a (Calls made ∷ []) b
redoes_silent read a b made no_leg no_note withdraws waits is same =
    redoes_plain read a b (Calls made) [] no_leg (ap (λ l. l ++ []) no_note) withdraws is
    (ap (λ (x : StartParts). x.took) same) (ap (λ (x : StartParts). x.told) same)
    (ap (λ (x : StartParts). x.counted) same)
    (ap (λ (x : StartParts). beside_shares x.seat) same ∙ (asks_here a).seat)
    (ap (λ (x : StartParts). x.waiting) same ∙ sym waits)

-- the state after a call that gives a message, and the legs that it names
given_message : {Y : Type 0} (Is : Message → Y → Type 0) (s now : SessionParts) (answer : SessionAnswer Message)
    (given : Result Y SessionFault) → Gives Is s answer given now → (given ≡ Err fault.OutOfMemory → ⊥)
    → now ≡ (added_message answer).1
given_message Is s now (Ok said, after) (Ok y) gives other = gives.1
given_message Is s now (Ok said, after) (Err why) gives other = absurd (other (ap Err gives.0))
given_message Is s now (Err why, after) given gives other = gives.1

message_named : (answer : SessionAnswer Message) → named_in (added_message answer).0 ≡ []
message_named (Ok message, after) = refl
message_named (Err why, after) = refl

-- a session that was to connect
pub redoes_connected : {Y : Type 0} (Is : Message → Y → Type 0) (read : Decoding) (a b : StartParts)
    (given : Result Y SessionFault) → (given ≡ Err fault.OutOfMemory → ⊥)
    → Gives Is a.session (connect a.session) given b.session → b ≡ record a { session = b.session }
    → Redoes read a (Calls call.Connect ∷ []) b
redoes_connected Is read a b given other gives same =
    redoes_silent read a b call.Connect refl refl (message_named (connect a.session)) refl
    (given_message Is a.session b.session (connect a.session) given gives other) same

-- ---- a leg

-- the leg for which a call of the code gave no frame
abbrev pub unsent_by : {Y : Type 0} → LegIdParts → Result Y SessionFault → List LegIdParts
unsent_by id (Ok y) = []
unsent_by id (Err why) = id ∷ []

given_sent : {Y : Type 0} (Is : Message → Y → Type 0) (s now : SessionParts) (id : LegIdParts)
    (answer : SessionAnswer Message) (given : Result Y SessionFault) → Gives Is s answer given now
    → (given ≡ Err fault.OutOfMemory → ⊥) → unless_sent id (added_message answer).0 ≡ unsent_by id given
given_sent Is s now id (Ok said, after) (Ok y) gives other = refl
given_sent Is s now id (Ok said, after) (Err why) gives other = absurd (other (ap Err gives.0))
given_sent Is s now id (Err why, after) given gives other = sym (ap (unsent_by id) gives.0)

-- it was to be sent; where it wasn't, the book was asked to withdraw it
redoes_sending : {Y : Type 0} (Is : Message → Y → Type 0) (read : Decoding) (a m b : StartParts) (leg : PlacedLeg)
    (given : Result Y SessionFault) → slice_get a.took.taken a.told ≡ Some leg → (given ≡ Err fault.OutOfMemory → ⊥)
    → Gives Is a.session (send_leg a.session leg.ordinal leg.leg) given m.session
    → m ≡ record a { session = m.session; told = a.told + 1 } → AsksFor (unsent_by leg.leg.id given) m b
    → Redoes read a (leg_event Sent leg ∷ []) b
redoes_sending Is read a m b leg given at other gives same asks =
    redoes_leg read a b (leg_event Sent leg) leg (unsent_by leg.leg.id given) refl at refl
    (given_sent Is a.session m.session leg.leg.id (send_leg a.session leg.ordinal leg.leg) given gives other)
    (ap (λ (x : StartParts). x.session) asks.rest
    ∙ given_message Is a.session m.session (send_leg a.session leg.ordinal leg.leg) given gives other)
    (ap (λ (x : StartParts). x.took) asks.rest ∙ ap (λ (x : StartParts). x.took) same)
    (ap (λ (x : StartParts). x.told) asks.rest ∙ ap (λ (x : StartParts). x.told) same)
    (ap (λ (x : StartParts). x.counted) asks.rest ∙ ap (λ (x : StartParts). x.counted) same)
    (asks.seat ∙ ap (λ (x : StartParts). asked_too (unsent_by leg.leg.id given) (beside_shares x.seat)) same)
    (ap (λ (x : StartParts). x.waiting) asks.rest ∙ ap (λ (x : StartParts). x.waiting) same)

pub redoes_sent : {Y : Type 0} (Is : Message → Y → Type 0) (read : Decoding) (a b : StartParts) (leg : PlacedLeg)
    (frame : Y) → slice_get a.took.taken a.told ≡ Some leg
    → Gives Is a.session (send_leg a.session leg.ordinal leg.leg) (Ok frame) b.session
    → b ≡ record a { session = b.session; told = a.told + 1 } → Redoes read a (leg_event Sent leg ∷ []) b
redoes_sent Is read a b leg frame at gives same =
    redoes_sending Is read a b b leg (Ok frame) at (λ e. cc) gives same (asks_here b)

pub redoes_unsent : {Y : Type 0} (Is : Message → Y → Type 0) (read : Decoding) (a m b : StartParts) (leg : PlacedLeg)
    (why : SessionFault) → slice_get a.took.taken a.told ≡ Some leg → (why ≡ fault.OutOfMemory → ⊥)
    → Gives Is a.session (send_leg a.session leg.ordinal leg.leg) (Err why) m.session
    → m ≡ record a { session = m.session; told = a.told + 1 } → AsksFor (leg.leg.id ∷ []) m b
    → Redoes read a (leg_event Sent leg ∷ []) b
redoes_unsent Is read a m b leg why at other gives same asks =
    redoes_sending Is read a m b leg (Err why) at (λ e. other (cc)) gives same asks

-- it wasn't
pub redoes_dropped : (read : Decoding) (a m b : StartParts) (leg : PlacedLeg) → slice_get a.took.taken a.told ≡ Some leg
    → m ≡ record a { told = a.told + 1 } → AsksFor (leg.leg.id ∷ []) m b → Redoes read a (leg_event Dropped leg ∷ []) b
redoes_dropped read a m b leg at same asks =
    redoes_leg read a b (Drops leg) leg (leg.leg.id ∷ []) refl at refl refl
    (ap (λ (x : StartParts). x.session) asks.rest ∙ ap (λ (x : StartParts). x.session) same)
    (ap (λ (x : StartParts). x.took) asks.rest ∙ ap (λ (x : StartParts). x.took) same)
    (ap (λ (x : StartParts). x.told) asks.rest ∙ ap (λ (x : StartParts). x.told) same)
    (ap (λ (x : StartParts). x.counted) asks.rest ∙ ap (λ (x : StartParts). x.counted) same)
    (asks.seat ∙ ap (λ (x : StartParts). asked_too (leg.leg.id ∷ []) (beside_shares x.seat)) same)
    (ap (λ (x : StartParts). x.waiting) asks.rest ∙ ap (λ (x : StartParts). x.waiting) same)

pub redoes_failed : (read : Decoding) (a m b : StartParts) (leg : PlacedLeg) → slice_get a.took.taken a.told ≡ Some leg
    → m ≡ record a { session = broken a.session; told = a.told + 1 } → AsksFor (leg.leg.id ∷ []) m b
    → Redoes read a (leg_event Failed leg ∷ []) b
redoes_failed read a m b leg at same asks =
    redoes_leg read a b (Fails leg) leg (leg.leg.id ∷ []) refl at refl refl
    (ap (λ (x : StartParts). x.session) asks.rest ∙ ap (λ (x : StartParts). x.session) same)
    (ap (λ (x : StartParts). x.took) asks.rest ∙ ap (λ (x : StartParts). x.took) same)
    (ap (λ (x : StartParts). x.told) asks.rest ∙ ap (λ (x : StartParts). x.told) same)
    (ap (λ (x : StartParts). x.counted) asks.rest ∙ ap (λ (x : StartParts). x.counted) same)
    (asks.seat ∙ ap (λ (x : StartParts). asked_too (leg.leg.id ∷ []) (beside_shares x.seat)) same)
    (ap (λ (x : StartParts). x.waiting) asks.rest ∙ ap (λ (x : StartParts). x.waiting) same)

-- ---- a message

-- it was received, and gave this step
pub redoes_received : (read : Decoding) (w : Encoding) (stamp : StampParts) (a m b : StartParts) (message : Option (List Tagged))
    (fields : List Tagged) (envelope : Envelope) (step : Step) → message ≡ Some fields → envelope_read fields ≡ Ok envelope
    → Gives (IsStep w stamp) a.session (answers (receive a.session (decoded read envelope))) (Ok step) m.session
    → m ≡ record a { session = m.session } → Follows step m b → Redoes read a (Calls (heard_call message) ∷ []) b
redoes_received read w stamp a m b message fields envelope step next says gives same follows =
    let turn = receive a.session (decoded read envelope) in
    let made : heard_call message ≡ call.Receive envelope = ap heard_call next ∙ ap heard_as says in
    subst (λ (made : SessionCall). Redoes read a (Calls made ∷ []) b) (sym made)
    (redoes_plain read a b (Calls (call.Receive envelope)) step.withdrawn refl refl (sym gives.0.withdrawn)
    (ap (λ (x : StartParts). x.session) follows.rest ∙ gives.1)
    (ap (λ (x : StartParts). x.took) follows.rest ∙ ap (λ (x : StartParts). x.took) same)
    (ap (λ (x : StartParts). x.told) follows.rest ∙ ap (λ (x : StartParts). x.told) same)
    (ap (λ (x : StartParts). x.counted) follows.rest ∙ ap (λ (x : StartParts). x.counted) same)
    (follows.seat ∙ ap (λ (x : StartParts). asked_too step.withdrawn (beside_shares x.seat)) same)
    (follows.waiting ∙ (ap (λ (x : StartParts). option_or step.note x.waiting) same
    ∙ ap (λ (note : Option Note). option_or note a.waiting) gives.0.note)))

-- it was none
pub redoes_malformed : (read : Decoding) (a b : StartParts) (message : Option (List Tagged))
    → heard_call message ≡ call.Malformed → b.session ≡ (malformed a.session).1 → b ≡ record a { session = b.session }
    → Redoes read a (Calls (heard_call message) ∷ []) b
redoes_malformed read a b message made is same =
    subst (λ (made : SessionCall). Redoes read a (Calls made ∷ []) b) (sym made)
    (redoes_silent read a b call.Malformed refl refl refl refl is same)

-- ---- a note

-- a session counts a message exactly where a note is pending
counts_pending : (s : SessionParts) → s.current.pending ≡ true → (confirm s).expected ≡ s.expected + 1
counts_pending s pending = ap (λ p. (if p then with_pending false (counting s) else s).expected) pending

pub none_pending : (s : SessionParts) (p : Bool) → s.current.pending ≡ p → (confirm s).expected ≡ s.expected → p ≡ false
none_pending s true is same = absurd (let e = counts_pending s is in omega arith)
none_pending s false is same = refl

pub one_pending : (s : SessionParts) (p : Bool) → s.current.pending ≡ p → ((confirm s).expected ≡ s.expected → ⊥)
    → p ≡ true
one_pending s true is other = refl
one_pending s false is other =
    absurd (other (ap (λ p. (if p then with_pending false (counting s) else s).expected) is))

-- none was booked
pub redoes_unbooked : (read : Decoding) (a b : StartParts) → booked_in a.session a.waiting call.Confirm ≡ []
    → b.session ≡ confirm a.session → b ≡ record a { session = b.session } → Redoes read a (Calls call.Confirm ∷ []) b
redoes_unbooked read a b no_note is same = redoes_silent read a b call.Confirm refl no_note refl refl is same

-- the one that waits was
pub redoes_booked : (read : Decoding) (a b : StartParts) (note : Note)
    → booked_in a.session a.waiting call.Confirm ≡ note ∷ [] → b.session ≡ confirm a.session
    → b ≡ record a { session = b.session; seat = b.seat; counted = b.counted } → lasting b.seat ≡ lasting a.seat
    → b.seat.booked ≡ a.seat.booked ++ note ∷ [] → b.seat.asked ≡ a.seat.asked
    → b.counted ≡ min (a.counted + 1) 18446744073709551615 → Redoes read a (Calls call.Confirm ∷ []) b
redoes_booked read a b note books is same lasts booked asked counted =
    let notes : booked_in a.session a.waiting call.Confirm ++ [] ≡ note ∷ [] = ap (λ l. l ++ []) books in
    record {
      session = is;
      took = ap (λ (x : StartParts). x.took) same;
      told = ap (λ (x : StartParts). x.told) same ∙ (omega arith);
      taken = ap (λ (x : StartParts). take x.told x.took.taken) same ∙ sym (append-nil (take a.told a.took.taken));
      seat = lasts;
      booked = booked ∙ ap (λ l. a.seat.booked ++ l) (sym notes);
      counted = counted ∙ ap (counted_with a.counted) (sym notes);
      asked = asked ∙ sym (append-nil a.seat.asked);
      waiting = ap (λ (x : StartParts). x.waiting) same;
    }
