-- What a worker's events do, one after the other.
use Rattle.std.proofs.Common.{◌≡◌, ◌⊎◌, ℕ, Bool, true, false, List, [], ◌∷◌, ◌++◌, map, refl, sym, ap, subst, ◌∙◌, inl, inr, append_assoc}
use Rattle.std.specs.List.{concat}
use Rattle.std.specs.Prelude.{Option, Some, None, MatchOption}
use Rattle.std.proofs.lemmas.List.{append-nil, map-append}
use Rattle.leg.specs.LegId.{LegIdParts}
use Rattle.leg.specs.declared.placed_leg.PlacedLeg.{PlacedLeg}
use Rattle.dialect.specs.declared.note.Note.{Note}
use Rattle.dialect.specs.Wording.{Decoding, Wording}
use Rattle.link.specs.Traffic.{Tells, Takes, Stays}
use Rattle.session_core.specs.declared.phase.Phase.{Phase}
use Rattle.session_core.specs.declared.phase.Phase.TheVariants.{Down, LoggingOn, Settling, Up, Closing, LoggedOut, Closed}
use Rattle.session_core.specs.declared.session_call.SessionCall.{SessionCall}
use Rattle.session_core.specs.declared.session_call.SessionCall.TheVariants as call
use Rattle.session_core.specs.declared.step.Step.{Step}
use Rattle.session_core.specs.Session.{SessionParts, is_connected}
use Rattle.session_core.specs.Receiving.{confirm}
use Rattle.session_core.specs.Calling.{broken, abandon}
use Rattle.session_core.specs.Trial.{called, after_calls}
use Rattle.session_core.proofs.CallsMade.{after-append}
use Rattle.release_lock.specs.Queues.{Took}
use Rattle.exec_collector.specs.Seats.{Seat}
use Rattle.session_worker.specs.declared.withdrawal_counts.WithdrawalCounts.{WithdrawalCounts}
use Rattle.session_worker.specs.Ends.{is_over, last_calls}
use Rattle.session_worker.specs.Taking.{with_taken}
use Rattle.session_worker.specs.Booking.{waiting_in, waiting_after, booked_in, booked_by}
use Rattle.session_worker.specs.Hearing.{Said, said_after}
use Rattle.session_worker.specs.Speaking.{Wire, TakesFirst, Speak}
use Rattle.session_worker.specs.Linking.{SessionIoParts, SpeaksOn, WorkerStateParts, worker_in, BesideShares, beside_shares, asked_too, unsent, calling, MayBook, StandsStill, Moves, Hands, Sends, Asks, CarriesOut, Does, Heeds, Drains}
use Rattle.session_worker.specs.Events.{WorkerEvent, calls_in, calls_of, leg_in, legs_in, taken_in, taken_of, withdrawn_in, withdrawn_by, IsIdle, IsAllowedCall, IsAllowed, AreAllowed, IsHeeded, AreHeeded, WorkerParts, lasting, Goes}
use Rattle.session_worker.specs.Events.WorkerEvent.{Calls, Drops, Fails}
use Rattle.session_worker.specs.Keeping.{Told, TellsEvents}
use Rattle.session_worker.proofs.Told.{tells_none, tells_on, tells_then, tells_last}
use Rattle.session_worker.proofs.Steps.{still_on}
use Rattle.session_worker.proofs.Booking.{booked-append, note_waits, waiting_booked}
use Rattle.session_worker.proofs.Spoken.{stays_here}
use Rattle.session_worker.proofs.Withdrawals.{asks_none, asked_both}
use Rattle.session_worker.proofs.Speech.{stays_first, stays_same, speak_on, speak_none, speak_silent, speak_broken}
use Rattle.session_worker.proofs.Connected.{gone, confirm_on, hearing_takes, hearing_gone}
use Rattle.session_worker.proofs.Calling.{Books, books_gave, speaks_same, moves_same, speaks_then}

-- events and then others
pub calls-append : (first more : List WorkerEvent) → calls_of (first ++ more) ≡ calls_of first ++ calls_of more
calls-append [] more = refl
calls-append (event ∷ first) more =
    ap (λ l. calls_in event ++ l) (calls-append first more)
    ∙ sym (append_assoc (calls_in event) (calls_of first) (calls_of more))

pub taken-append : (first more : List WorkerEvent) → taken_of (first ++ more) ≡ taken_of first ++ taken_of more
taken-append [] more = refl
taken-append (event ∷ first) more =
    ap (λ l. taken_in event ++ l) (taken-append first more)
    ∙ sym (append_assoc (taken_in event) (taken_of first) (taken_of more))

allowed-append : (read : Decoding) (s : SessionParts) (first more : List WorkerEvent) → AreAllowed read s first
    → AreAllowed read (after_calls read s (calls_of first)) more → AreAllowed read s (first ++ more)
allowed-append read s [] more all rest = rest
allowed-append read s (event ∷ first) more all rest = (
  all.0,
  allowed-append read (after_calls read s (calls_in event)) first more all.1
      (subst (λ (t : SessionParts). AreAllowed read t more) (after-append read s (calls_in event) (calls_of first)) rest),
)

pub withdrawn-append : (read : Decoding) (s : SessionParts) (first more : List WorkerEvent)
    → withdrawn_by read s (first ++ more)
    ≡ withdrawn_by read s first ++ withdrawn_by read (after_calls read s (calls_of first)) more
withdrawn-append read s [] more = refl
withdrawn-append read s (event ∷ first) more =
    let t = after_calls read s (calls_in event) in
    let later : after_calls read t (calls_of first) ≡ after_calls read s (calls_in event ++ calls_of first) =
    sym (after-append read s (calls_in event) (calls_of first)) in
    ap (λ l. withdrawn_in read s event ++ l) (withdrawn-append read t first more
    ∙ ap (λ (u : SessionParts). withdrawn_by read t first ++ withdrawn_by read u more) later)
    ∙ sym (append_assoc (withdrawn_in read s event) (withdrawn_by read t first)
    (withdrawn_by read (after_calls read s (calls_in event ++ calls_of first)) more))

pub speak_events : (w : Wording) (s : SessionParts) (said : Said) (first more : List WorkerEvent) (a b c : Wire)
    → Speak w s said (calls_of first) a b
    → Speak w (after_calls w.decoding s (calls_of first)) (said_after said (calls_of first)) (calls_of more) b c
    → Speak w s said (calls_of (first ++ more)) a c
speak_events w s said first more a b c one next =
    subst (λ (calls : List SessionCall). Speak w s said calls a c) (sym (calls-append first more))
    (speak_on w s said (calls_of first) (calls_of more) a b c one next)

booked_on : (read : Decoding) (a b c : WorkerParts) (first more : List WorkerEvent) → Goes read a first b
    → Goes read b more c → (waiting : Option Note)
    → c.seat.booked ≡ a.seat.booked ++ booked_by read a.session waiting (calls_of (first ++ more))
booked_on read a b c first more one next waiting =
    let later : Option Note = waiting_after read a.session waiting (calls_of first) in
    let now : List Note = booked_by read a.session waiting (calls_of first) in
    let then : List Note = booked_by read b.session later (calls_of more) in
    let all : now ++ then ≡ booked_by read a.session waiting (calls_of (first ++ more)) =
    ap (λ s. now ++ booked_by read s later (calls_of more)) one.session
    ∙ (sym (booked-append read a.session waiting (calls_of first) (calls_of more))
    ∙ ap (booked_by read a.session waiting) (sym (calls-append first more))) in
    next.booked later
    ∙ (ap (λ l. l ++ then) (one.booked waiting)
    ∙ (append_assoc a.seat.booked now then ∙ ap (λ l. a.seat.booked ++ l) all))

asked_on : (read : Decoding) (a b c : WorkerParts) (first more : List WorkerEvent) → Goes read a first b
    → Goes read b more c → c.seat.asked ≡ a.seat.asked ++ withdrawn_by read a.session (first ++ more)
asked_on read a b c first more one next =
    let now = withdrawn_by read a.session first in
    let then = withdrawn_by read b.session more in
    let all : now ++ then ≡ withdrawn_by read a.session (first ++ more) =
    ap (λ (s : SessionParts). now ++ withdrawn_by read s more) one.session
    ∙ sym (withdrawn-append read a.session first more) in
    next.asked
    ∙ (ap (λ l. l ++ then) one.asked
    ∙ (append_assoc a.seat.asked now then ∙ ap (λ l. a.seat.asked ++ l) all))

pub goes_on : (read : Decoding) (a b c : WorkerParts) (first more : List WorkerEvent) → Goes read a first b
    → Goes read b more c → Goes read a (first ++ more) c
goes_on read a b c first more one next = record {
  session = next.session ∙ (ap (λ s. after_calls read s (calls_of more)) one.session
      ∙ (sym (after-append read a.session (calls_of first) (calls_of more))
      ∙ ap (after_calls read a.session) (sym (calls-append first more))));
  taken = next.taken ∙ (ap (λ l. l ++ taken_of more) one.taken
      ∙ (append_assoc a.took.taken (taken_of first) (taken_of more)
      ∙ ap (λ l. a.took.taken ++ l) (sym (taken-append first more))));
  allowed = allowed-append read a.session first more one.allowed
      (subst (λ (s : SessionParts). AreAllowed read s more) one.session next.allowed);
  venue = next.venue ∙ one.venue;
  seat = next.seat ∙ one.seat;
  booked = booked_on read a b c first more one next;
  asked = asked_on read a b c first more one next;
}

pub does_on : (w : Wording) (a b c : WorkerStateParts) → Does w a b → Does w b c → Does w a c
does_on w a b c first next = record {
  events = first.events ++ next.events;
  goes = goes_on w.decoding (worker_in a) (worker_in b) (worker_in c) first.events next.events first.goes next.goes;
  speaks = subst (λ (calls : List SessionCall). SpeaksOn w a.io calls c.io)
      (sym (calls-append first.events next.events))
      (speaks_then w a.io b.io c.io (calls_of first.events) (calls_of next.events)
      first.goes.session first.speaks next.speaks);
  tells = tells_on a.io.told b.io.told c.io.told first.events next.events first.tells next.tells;
}

heeded-append : (held : Bool) (read : Decoding) (s : SessionParts) (first more : List WorkerEvent)
    → AreHeeded held read s first → AreHeeded held read (after_calls read s (calls_of first)) more
    → AreHeeded held read s (first ++ more)
heeded-append held read s [] more all rest = rest
heeded-append held read s (event ∷ first) more all rest = (
  all.0,
  heeded-append held read (after_calls read s (calls_in event)) first more all.1
      (subst (λ (t : SessionParts). AreHeeded held read t more) (after-append read s (calls_in event) (calls_of first)) rest),
)

pub heeds_on : (w : Wording) (held : Bool) (a b c : WorkerStateParts) → Heeds w held a b → Heeds w held b c
    → Heeds w held a c
unfolding does_on
heeds_on w held a b c first next = record {
  does = does_on w a b c first.does next.does;
  heeded = heeded-append held w.decoding a.io.session first.does.events next.does.events first.heeded
      (subst (λ (s : SessionParts). AreHeeded held w.decoding s next.does.events) first.does.goes.session next.heeded);
}

-- a worker in the middle of a turn, of its parts
abbrev pub state_of : SessionIoParts → Took → Seat → WithdrawalCounts → WorkerStateParts
state_of io took seat withdrawn = record { io = io; took = took; seat = seat; withdrawn = withdrawn }

-- the seat is as it was but for its shares, so no note was booked
same_booked : (a b : Seat) (notes : List Note) → beside_shares b ≡ beside_shares a → notes ≡ []
    → b.booked ≡ a.booked ++ notes
same_booked a b notes same none =
    ap (λ (seat : BesideShares). seat.booked) same
    ∙ (sym (append-nil a.booked) ∙ ap (λ l. a.booked ++ l) (sym none))

-- no leg was asked for
same_asked : (a b : Seat) (ids : List LegIdParts) → beside_shares b ≡ beside_shares a → ids ≡ []
    → b.asked ≡ a.asked ++ ids
same_asked a b ids same none =
    ap (λ (seat : BesideShares). seat.asked) same
    ∙ (sym (append-nil a.asked) ∙ ap (λ l. a.asked ++ l) (sym none))

still_lasts : (a b : Seat) → beside_shares b ≡ beside_shares a → lasting b ≡ lasting a
still_lasts a b same = ap (λ (seat : BesideShares). seat.lasts) same

-- nothing
pub goes_none : (read : Decoding) (a b : WorkerParts) → b.session ≡ a.session → b.took ≡ a.took
    → beside_shares b.seat ≡ beside_shares a.seat → Goes read a [] b
goes_none read a b session took seat = record {
  session = session;
  taken = ap (λ t. t.taken) took ∙ sym (append-nil a.took.taken);
  allowed = tt;
  venue = ap (λ t. t.venue) took;
  seat = still_lasts a.seat b.seat seat;
  booked = λ waiting. same_booked a.seat b.seat [] seat refl;
  asked = same_asked a.seat b.seat [] seat refl;
}

-- calls of the session, none of which is to send a leg
calling-calls : (calls : List SessionCall) → calls_of (calling calls) ≡ calls
calling-calls [] = refl
calling-calls (made ∷ calls) = ap (λ l. made ∷ l) (calling-calls calls)

calling-taken : (calls : List SessionCall) → taken_of (calling calls) ≡ legs_in calls
calling-taken [] = refl
calling-taken (made ∷ calls) = ap (λ l. leg_in made ++ l) (calling-taken calls)

both_empty : (xs ys : List PlacedLeg) → xs ++ ys ≡ [] → (xs ≡ []) × (ys ≡ [])
both_empty [] ys e = (refl, e)
both_empty (x ∷ xs) ys e = absurd cc

allowed_call : (s : SessionParts) (made : SessionCall) → leg_in made ≡ [] → IsAllowedCall s made
allowed_call s (call.SendLeg ordinal leg) e = absurd cc
allowed_call s call.Connect e = tt
allowed_call s (call.Receive envelope) e = tt
allowed_call s call.Confirm e = tt
allowed_call s call.Quiet e = tt
allowed_call s call.Silent e = tt
allowed_call s call.Close e = tt
allowed_call s call.Malformed e = tt
allowed_call s call.Broken e = tt
allowed_call s call.Abandon e = tt

allowed_calls : (read : Decoding) (s : SessionParts) (calls : List SessionCall) → legs_in calls ≡ []
    → AreAllowed read s (calling calls)
allowed_calls read s [] e = tt
allowed_calls read s (made ∷ calls) e =
    let none = both_empty (leg_in made) (legs_in calls) e in
    (allowed_call s made none.0, allowed_calls read (called read s made).1 calls none.1)

heeded_call : (held : Bool) (s : SessionParts) (made : SessionCall) → leg_in made ≡ [] → IsHeeded held s (Calls made)
heeded_call true s made e = e
heeded_call false s made e = tt

heeded_calls : (held : Bool) (read : Decoding) (s : SessionParts) (calls : List SessionCall) → legs_in calls ≡ []
    → AreHeeded held read s (calling calls)
heeded_calls held read s [] e = tt
heeded_calls held read s (made ∷ calls) e =
    let none = both_empty (leg_in made) (legs_in calls) e in
    (heeded_call held s made none.0, heeded_calls held read (called read s made).1 calls none.1)

-- ones that book these notes, and withdraw these legs
goes_books : (read : Decoding) (a b : WorkerParts) (notes : List Note) (ids : List LegIdParts) (calls : List SessionCall)
    → b.session ≡ after_calls read a.session calls → legs_in calls ≡ []
    → ((waiting : Option Note) → booked_by read a.session waiting calls ≡ notes)
    → withdrawn_by read a.session (calling calls) ≡ ids → b.took ≡ a.took
    → lasting b.seat ≡ lasting a.seat → b.seat.booked ≡ a.seat.booked ++ notes → b.seat.asked ≡ a.seat.asked ++ ids
    → Goes read a (calling calls) b
goes_books read a b notes ids calls session no_leg books withdraws took parts booked asked = record {
  session = session ∙ ap (after_calls read a.session) (sym (calling-calls calls));
  taken = ap (λ t. t.taken) took ∙ (sym (append-nil a.took.taken)
      ∙ ap (λ l. a.took.taken ++ l) (sym (calling-taken calls ∙ no_leg)));
  allowed = allowed_calls read a.session calls no_leg;
  venue = ap (λ t. t.venue) took;
  seat = parts;
  booked = λ waiting. booked ∙ ap (λ l. a.seat.booked ++ l)
      (sym (ap (booked_by read a.session waiting) (calling-calls calls) ∙ books waiting));
  asked = asked ∙ ap (λ l. a.seat.asked ++ l) (sym withdraws);
}

-- ones that book none, and withdraw none
goes_calls : (read : Decoding) (a b : WorkerParts) (calls : List SessionCall)
    → b.session ≡ after_calls read a.session calls → legs_in calls ≡ []
    → ((waiting : Option Note) → booked_by read a.session waiting calls ≡ [])
    → withdrawn_by read a.session (calling calls) ≡ [] → b.took ≡ a.took
    → beside_shares b.seat ≡ beside_shares a.seat → Goes read a (calling calls) b
goes_calls read a b calls session no_leg no_note no_withdrawal took seat =
    goes_books read a b [] [] calls session no_leg no_note no_withdrawal took (still_lasts a.seat b.seat seat)
    (same_booked a.seat b.seat [] seat refl) (same_asked a.seat b.seat [] seat refl)

does_moves : (w : Wording) (a b : WorkerStateParts) → Moves w a.io b.io → b.took ≡ a.took
    → beside_shares b.seat ≡ beside_shares a.seat → Does w a b
does_moves w a b moves took seat = record {
  events = calling moves.calls;
  goes = goes_calls w.decoding (worker_in a) (worker_in b) moves.calls moves.session moves.no_leg moves.no_note
      moves.no_withdrawal took seat;
  speaks = subst (λ (calls : List SessionCall). SpeaksOn w a.io calls b.io)
      (sym (calling-calls moves.calls)) moves.speaks;
  tells = moves.tells;
}

pub heeds_moves : (w : Wording) (held : Bool) (a b : WorkerStateParts) → Moves w a.io b.io → b.took ≡ a.took
    → beside_shares b.seat ≡ beside_shares a.seat → Heeds w held a b
unfolding does_moves
heeds_moves w held a b moves took seat = record {
  does = does_moves w a b moves took seat;
  heeded = heeded_calls held w.decoding a.io.session moves.calls moves.no_leg;
}

pub heeds_same : (w : Wording) (held : Bool) (a b : WorkerStateParts) → b.io.session ≡ a.io.session → b.took ≡ a.took
    → beside_shares b.seat ≡ beside_shares a.seat → Tells a.io.wire b.io.wire Stays → b.io.stream ≡ a.io.stream
    → b.io.told ≡ a.io.told → Heeds w held a b
heeds_same w held a b session took seat stays stream told =
    heeds_moves w held a b (moves_same w a.io b.io session stays stream told) took seat

pub heeds_none : (w : Wording) (held : Bool) (a : WorkerStateParts) → Heeds w held a a
heeds_none w held a = heeds_same w held a a refl refl refl (stays_here a.io.wire) refl refl

pub heeds_stay : (w : Wording) (held : Bool) (a b : WorkerStateParts) → b ≡ a → Heeds w held a b
heeds_stay w held a b same = subst (λ (c : WorkerStateParts). Heeds w held a c) (sym same) (heeds_none w held a)

pub does_none : (w : Wording) (a : WorkerStateParts) → Does w a a
does_none w a = (heeds_none w false a).does

-- ---- what a step wanted

-- a call that gave a step, and then its frames
books_silent : (w : Wording) (x m y : SessionIoParts) (step : Step) (noted : SessionParts) (told : Told) → Asks w x step m
    → noted ≡ m.session → TellsEvents m.told [] told
    → ((y.session ≡ noted) × Tells m.wire y.wire (Takes (concat step.out)) × TellsEvents told [] y.told)
    ⊎ ((y.session ≡ broken noted) × Tells m.wire y.wire (TakesFirst (concat step.out))
    × TellsEvents told (Calls call.Broken ∷ []) y.told) → y.stream ≡ m.stream
    → Books w [] step.withdrawn x y
books_silent w x m y step noted told asks same tells (inl all) stream =
    books_gave w x m y step asks [] [] y.wire (all.0 ∙ same) refl (λ waiting. refl) refl
    (inl (stays_first (Takes (concat step.out)) x.wire m.wire y.wire asks.wire all.1))
    (λ said hearing. (
      speak_none w m.session said y.wire y.wire (stays_here y.wire),
      hearing_takes said (concat step.out) m y (λ on. subst (λ (s : SessionParts). is_connected s.phase ≡ true) (all.0 ∙ same) on)
          all.1 stream hearing,
    )) (tells_then m.told told y.told [] tells all.2)
books_silent w x m y step noted told asks same tells (inr part) stream =
    books_gave w x m y step asks [] (call.Broken ∷ []) y.wire (part.0 ∙ ap broken same) refl (λ waiting. refl)
    refl
    (inr (tt, stays_first (TakesFirst (concat step.out)) x.wire m.wire y.wire asks.wire part.1))
    (λ said hearing. (
      speak_broken w m.session said y.wire y.wire (stays_here y.wire),
      hearing_gone said y (gone noted y.session part.0),
    )) (tells_then m.told told y.told (Calls call.Broken ∷ []) tells part.2)

-- its note is the one that a Confirm books then
confirm_books : (w : Wording) (x m : SessionIoParts) (step : Step) (asks : Asks w x step m) (note : Note)
    → step.note ≡ Some note → (waiting : Option Note)
    → booked_in m.session (waiting_in w.decoding x.session waiting asks.made) call.Confirm ≡ note ∷ []
confirm_books w x m step asks note is waiting =
    waiting_booked w.decoding x.session m.session waiting asks.made note
    (note_waits w.decoding x.session m.session waiting asks.made asks.gave.said note asks.gave.plain asks.gave.adds
    (sym asks.gave.is_step.note ∙ is))

-- a call that gave a step with a note, which was confirmed, and then its frames
books_note : (w : Wording) (x m y : SessionIoParts) (step : Step) (noted : SessionParts) (told : Told) (note : Note)
    → Asks w x step m → step.note ≡ Some note → noted ≡ confirm m.session
    → TellsEvents m.told (Calls call.Confirm ∷ []) told
    → ((y.session ≡ noted) × Tells m.wire y.wire (Takes (concat step.out)) × TellsEvents told [] y.told)
    ⊎ ((y.session ≡ broken noted) × Tells m.wire y.wire (TakesFirst (concat step.out))
    × TellsEvents told (Calls call.Broken ∷ []) y.told) → y.stream ≡ m.stream
    → Books w (note ∷ []) step.withdrawn x y
books_note w x m y step noted told note asks is confirmed tells (inl all) stream =
    books_gave w x m y step asks (note ∷ []) (call.Confirm ∷ []) y.wire (all.0 ∙ confirmed) refl
    (λ waiting. ap (λ l. l ++ []) (confirm_books w x m step asks note is waiting)) refl
    (inl (stays_first (Takes (concat step.out)) x.wire m.wire y.wire asks.wire all.1))
    (λ said hearing. (
      speak_silent w m.session said call.Confirm [] y.wire y.wire y.wire tt (stays_here y.wire) refl
          (speak_none w (confirm m.session) said y.wire y.wire (stays_here y.wire)),
      hearing_takes said (concat step.out) m y (confirm_on m.session y.session (all.0 ∙ confirmed)) all.1 stream hearing,
    )) (tells_last m.told told y.told (Calls call.Confirm ∷ []) tells all.2)
books_note w x m y step noted told note asks is confirmed tells (inr part) stream =
    books_gave w x m y step asks (note ∷ []) (call.Confirm ∷ call.Broken ∷ []) y.wire (part.0 ∙ ap broken confirmed) refl
    (λ waiting. ap (λ l. l ++ []) (confirm_books w x m step asks note is waiting)) refl
    (inr (tt, stays_first (TakesFirst (concat step.out)) x.wire m.wire y.wire asks.wire part.1))
    (λ said hearing. (
      speak_silent w m.session said call.Confirm (call.Broken ∷ []) y.wire y.wire y.wire tt (stays_here y.wire) refl
          (speak_broken w (confirm m.session) said y.wire y.wire (stays_here y.wire)),
      hearing_gone said y (gone noted y.session part.0),
    )) (tells_on m.told told y.told (Calls call.Confirm ∷ []) (Calls call.Broken ∷ []) tells part.2)

does_books : (w : Wording) (a b : WorkerStateParts) (notes : List Note) (ids : List LegIdParts)
    → Books w notes ids a.io b.io → b.took ≡ a.took → lasting b.seat ≡ lasting a.seat
    → b.seat.booked ≡ a.seat.booked ++ notes → b.seat.asked ≡ a.seat.asked ++ ids → Does w a b
does_books w a b notes ids books took parts booked asked = record {
  events = calling books.calls;
  goes = goes_books w.decoding (worker_in a) (worker_in b) notes ids books.calls books.session books.no_leg books.booked
      books.withdraws took parts booked asked;
  speaks = subst (λ (calls : List SessionCall). SpeaksOn w a.io calls b.io)
      (sym (calling-calls books.calls)) books.speaks;
  tells = books.tells;
}

-- whether its note was booked or not
heeds_books : (w : Wording) (held : Bool) (a b : WorkerStateParts) (notes : List Note) (ids : List LegIdParts)
    → Books w notes ids a.io b.io → b.took ≡ a.took → lasting b.seat ≡ lasting a.seat
    → b.seat.booked ≡ a.seat.booked ++ notes → b.seat.asked ≡ a.seat.asked ++ ids → Heeds w held a b
unfolding does_books
heeds_books w held a b notes ids books took parts booked asked = record {
  does = does_books w a b notes ids books took parts booked asked;
  heeded = heeded_calls held w.decoding a.io.session books.calls books.no_leg;
}

heeds_carried : (w : Wording) (held : Bool) (a b d : WorkerStateParts) (step : Step) (carries : CarriesOut step.withdrawn step.note (concat step.out) b d)
    → Asks w a.io step b.io → b.took ≡ a.took → beside_shares b.seat ≡ beside_shares a.seat
    → MayBook step.note b.io.session b.seat.booked b.io.told carries.noted d.seat.booked carries.told → Heeds w held a d
heeds_carried w held a b d step carries asks took seat (inl none) =
    heeds_books w held a d [] step.withdrawn
    (books_silent w a.io b.io d.io step carries.noted carries.told asks none.0 none.2 carries.writes carries.stream)
    (carries.took ∙ took) (carries.seat ∙ still_lasts a.seat b.seat seat)
    (none.1 ∙ same_booked a.seat b.seat [] seat refl)
    (carries.asked ∙ ap (λ (told : BesideShares). told.asked ++ step.withdrawn) seat)
heeds_carried w held a b d step carries asks took seat (inr one) =
    heeds_books w held a d (one.0 ∷ []) step.withdrawn
    (books_note w a.io b.io d.io step carries.noted carries.told one.0 asks one.1 one.2 one.4 carries.writes carries.stream)
    (carries.took ∙ took) (carries.seat ∙ still_lasts a.seat b.seat seat)
    (one.3 ∙ ap (λ (told : BesideShares). told.booked ++ one.0 ∷ []) seat)
    (carries.asked ∙ ap (λ (told : BesideShares). told.asked ++ step.withdrawn) seat)

pub heeds_asked : (w : Wording) (held : Bool) (a b d : WorkerStateParts) (step : Step) → Asks w a.io step b.io
    → b.took ≡ a.took → beside_shares b.seat ≡ beside_shares a.seat → CarriesOut step.withdrawn step.note (concat step.out) b d
    → Heeds w held a d
heeds_asked w held a b d step asks took seat carries = heeds_carried w held a b d step carries asks took seat carries.notes

-- legs that are dropped
abbrev pub dropping : List PlacedLeg → List WorkerEvent
dropping legs = map (λ leg. Drops leg) legs

dropping-calls : (legs : List PlacedLeg) → calls_of (dropping legs) ≡ []
dropping-calls [] = refl
dropping-calls (leg ∷ legs) = dropping-calls legs

dropping-taken : (legs : List PlacedLeg) → taken_of (dropping legs) ≡ legs
dropping-taken [] = refl
dropping-taken (leg ∷ legs) = ap (λ l. leg ∷ l) (dropping-taken legs)

-- the ids of legs
abbrev ids_of : List PlacedLeg → List LegIdParts
ids_of legs = map (λ leg. leg.leg.id) legs

dropping-withdrawn : (read : Decoding) (s : SessionParts) (legs : List PlacedLeg)
    → withdrawn_by read s (dropping legs) ≡ ids_of legs
dropping-withdrawn read s [] = refl
dropping-withdrawn read s (leg ∷ legs) = ap (λ l. leg.leg.id ∷ l) (dropping-withdrawn read s legs)

allowed_drops : (read : Decoding) (s : SessionParts) (legs : List PlacedLeg) → AreAllowed read s (dropping legs)
allowed_drops read s [] = tt
allowed_drops read s (leg ∷ legs) = (tt, allowed_drops read s legs)

heeded_drops : (held : Bool) (read : Decoding) (s : SessionParts) (legs : List PlacedLeg) → (held ≡ false → IsIdle s)
    → AreHeeded held read s (dropping legs)
heeded_drops held read s [] idle = tt
heeded_drops true read s (leg ∷ legs) idle = (tt, heeded_drops true read s legs idle)
heeded_drops false read s (leg ∷ legs) idle = (idle refl, heeded_drops false read s legs idle)

pub goes_drains : (read : Decoding) (a b : WorkerStateParts) (drains : Drains a b)
    → Goes read (worker_in a) (dropping drains.legs) (worker_in b)
goes_drains read a b drains = record {
  session = drains.io.session ∙ ap (after_calls read a.io.session) (sym (dropping-calls drains.legs));
  taken = drains.taken ∙ ap (λ l. a.took.taken ++ l) (sym (dropping-taken drains.legs));
  allowed = allowed_drops read a.io.session drains.legs;
  venue = drains.venue;
  seat = ap (λ (told : BesideShares). told.lasts) drains.seat;
  booked = λ waiting.
      ap (λ (told : BesideShares). told.booked) drains.seat
      ∙ (sym (append-nil a.seat.booked)
      ∙ ap (λ calls. a.seat.booked ++ booked_by read a.io.session waiting calls) (sym (dropping-calls drains.legs)));
  asked = ap (λ (told : BesideShares). told.asked) drains.seat
      ∙ ap (λ l. a.seat.asked ++ l) (sym (dropping-withdrawn read a.io.session drains.legs));
}

does_drains : (w : Wording) (a b : WorkerStateParts) → Drains a b → Does w a b
does_drains w a b drains = record {
  events = dropping drains.legs;
  goes = goes_drains w.decoding a b drains;
  speaks = subst (λ (calls : List SessionCall). SpeaksOn w a.io calls b.io)
      (sym (dropping-calls drains.legs))
      (speaks_same w a.io b.io drains.io.session drains.io.wire drains.io.stream);
  tells = drains.io.told;
}

pub heeds_drains : (w : Wording) (held : Bool) (a b : WorkerStateParts) → Drains a b → IsIdle a.io.session
    → Heeds w held a b
unfolding does_drains
heeds_drains w held a b drains idle = record {
  does = does_drains w a b drains;
  heeded = heeded_drops held w.decoding a.io.session drains.legs (λ e. idle);
}

-- while the venue is held, whatever the session
pub heeds_withheld : (w : Wording) (a b : WorkerStateParts) → Drains a b → Heeds w true a b
unfolding does_drains
heeds_withheld w a b drains = record {
  does = does_drains w a b drains;
  heeded = heeded_drops true w.decoding a.io.session drains.legs (λ e. absurd cc);
}

pub drains_none : (a b : WorkerStateParts) → StandsStill [] a.io b.io → b.took ≡ a.took
    → beside_shares b.seat ≡ beside_shares a.seat → Drains a b
drains_none a b io took seat = record {
  legs = [];
  io = io;
  taken = ap (λ t. t.taken) took ∙ sym (append-nil a.took.taken);
  venue = ap (λ t. t.venue) took;
  seat = seat ∙ asks_none (beside_shares a.seat);
}

-- one that was taken, and asked for
pub drains_one : (a b : WorkerStateParts) (leg : PlacedLeg) → StandsStill (Drops leg ∷ []) a.io b.io
    → b.took ≡ with_taken a.took leg
    → beside_shares b.seat ≡ asked_too (leg.leg.id ∷ []) (beside_shares a.seat) → Drains a b
drains_one a b leg io took seat = record {
  legs = leg ∷ [];
  io = io;
  taken = ap (λ t. t.taken) took;
  venue = ap (λ t. t.venue) took;
  seat = seat;
}

pub drains_on : (a b c : WorkerStateParts) → Drains a b → Drains b c → Drains a c
drains_on a b c first next = record {
  legs = first.legs ++ next.legs;
  io = subst (λ (events : List WorkerEvent). StandsStill events a.io c.io)
      (sym (map-append (λ (leg : PlacedLeg). Drops leg) first.legs next.legs))
      (still_on a.io b.io c.io (dropping first.legs) (dropping next.legs) first.io next.io);
  taken = next.taken ∙ (ap (λ l. l ++ next.legs) first.taken ∙ append_assoc a.took.taken first.legs next.legs);
  venue = next.venue ∙ first.venue;
  seat = next.seat
      ∙ (ap (asked_too (ids_of next.legs)) first.seat
      ∙ (asked_both (ids_of first.legs) (ids_of next.legs) (beside_shares a.seat)
      ∙ ap (λ ids. asked_too ids (beside_shares a.seat))
      (sym (map-append (λ (leg : PlacedLeg). leg.leg.id) first.legs next.legs))));
}

-- a leg that was taken and handed to the session
handed : (read : Decoding) (s : SessionParts) (leg : PlacedLeg) (event : WorkerEvent)
    → (event ≡ Calls (call.SendLeg leg.ordinal leg.leg)) ⊎ (event ≡ Fails leg) → s.phase ≡ Up
    → (taken_in event ≡ leg ∷ []) × IsAllowed s event
handed read s leg event (inl e) up =
    (ap taken_in e, subst (λ (one : WorkerEvent). IsAllowed s one) (sym e) up)
handed read s leg event (inr e) up =
    (ap taken_in e, subst (λ (one : WorkerEvent). IsAllowed s one) (sym e) up)

does_hands : (w : Wording) (a b : WorkerStateParts) (leg : PlacedLeg) (sent : Bool)
    → Hands w leg sent a.io b.io → a.io.session.phase ≡ Up → b.took ≡ with_taken a.took leg
    → beside_shares b.seat ≡ asked_too (unsent leg sent) (beside_shares a.seat) → Does w a b
does_hands w a b leg sent hands up took seat =
    let one = handed w.decoding a.io.session leg hands.event hands.of_leg up in
    let all : calls_in hands.event ++ hands.calls ≡ calls_of (hands.event ∷ calling hands.calls) =
    ap (λ l. calls_in hands.event ++ l) (sym (calling-calls hands.calls)) in
    let legs : leg ∷ [] ≡ taken_of (hands.event ∷ calling hands.calls) =
    sym (ap (λ l. l ++ taken_of (calling hands.calls)) one.0
    ∙ ap (λ l. leg ∷ l) (calling-taken hands.calls ∙ hands.no_leg)) in
    record {
      events = hands.event ∷ calling hands.calls;
      goes = record {
        session = hands.session ∙ ap (after_calls w.decoding a.io.session) all;
        taken = ap (λ t. t.taken) took ∙ ap (λ l. a.took.taken ++ l) legs;
        allowed = (
          one.1,
          allowed_calls w.decoding (after_calls w.decoding a.io.session (calls_in hands.event)) hands.calls hands.no_leg,
        );
        venue = ap (λ t. t.venue) took;
        seat = ap (λ (told : BesideShares). told.lasts) seat;
        booked = λ waiting.
            ap (λ (told : BesideShares). told.booked) seat
            ∙ (sym (append-nil a.seat.booked) ∙ ap (λ l. a.seat.booked ++ l)
            (sym (ap (booked_by w.decoding a.io.session waiting) (sym all) ∙ hands.no_note waiting)));
        asked = ap (λ (told : BesideShares). told.asked) seat ∙ ap (λ l. a.seat.asked ++ l) (sym hands.withdraws);
      };
      speaks = subst (λ (calls : List SessionCall). SpeaksOn w a.io calls b.io) all hands.speaks;
      tells = hands.tells;
    }

heeded_hand : (s : SessionParts) (leg : PlacedLeg) (event : WorkerEvent)
    → (event ≡ Calls (call.SendLeg leg.ordinal leg.leg)) ⊎ (event ≡ Fails leg) → IsHeeded false s event
heeded_hand s leg event (inl e) = subst (λ (one : WorkerEvent). IsHeeded false s one) (sym e) tt
heeded_hand s leg event (inr e) = subst (λ (one : WorkerEvent). IsHeeded false s one) (sym e) tt

heeds_hands : (w : Wording) (a b : WorkerStateParts) (leg : PlacedLeg) (sent : Bool)
    → Hands w leg sent a.io b.io → a.io.session.phase ≡ Up → b.took ≡ with_taken a.took leg
    → beside_shares b.seat ≡ asked_too (unsent leg sent) (beside_shares a.seat) → Heeds w false a b
unfolding does_hands
heeds_hands w a b leg sent hands up took seat = record {
  does = does_hands w a b leg sent hands up took seat;
  heeded = (
    heeded_hand a.io.session leg hands.event hands.of_leg,
    heeded_calls false w.decoding (after_calls w.decoding a.io.session (calls_in hands.event)) hands.calls hands.no_leg,
  );
}

-- a leg that was taken, if one was, and what the session did with it
pub heeds_sent : (w : Wording) (a b d : WorkerStateParts) (next : Option PlacedLeg) → a.io.session.phase ≡ Up
    → MatchOption next (b.took ≡ a.took) (λ leg. b.took ≡ with_taken a.took leg) → b.seat ≡ a.seat → b.io ≡ a.io
    → MatchOption next ((d.io ≡ b.io) × (beside_shares d.seat ≡ beside_shares b.seat)) (λ leg. Sends w leg b d)
    → d.took ≡ b.took → Heeds w false a d
heeds_sent w a b d None up took still io sent same =
    let all : d.io ≡ a.io = sent.0 ∙ io in
    heeds_same w false a d (ap (λ (x : SessionIoParts). x.session) all) (same ∙ took) (sent.1 ∙ ap beside_shares still)
    (stays_same a.io.wire d.io.wire (ap (λ (x : SessionIoParts). x.wire) all)) (ap (λ (x : SessionIoParts). x.stream) all)
    (ap (λ (x : SessionIoParts). x.told) all)
heeds_sent w a b d (Some leg) up took still io sent same =
    heeds_hands w a d leg sent.sent (subst (λ (x : SessionIoParts). Hands w leg sent.sent x d.io) io sent.hands) up
    (same ∙ took) (sent.seat ∙ ap (λ (seat : Seat). asked_too (unsent leg sent.sent) (beside_shares seat)) still)

-- a session that a turn left closed, and one that is abandoned
pub closed_in : (phase : Phase) → is_over phase ≡ true → phase ≡ Closed
closed_in Closed e = refl
closed_in Down e = absurd cc
closed_in LoggingOn e = absurd cc
closed_in Settling e = absurd cc
closed_in Up e = absurd cc
closed_in Closing e = absurd cc
closed_in LoggedOut e = absurd cc

no_call : (phase : Phase) → is_over phase ≡ true → last_calls phase ≡ []
no_call Closed e = refl
no_call Down e = absurd cc
no_call LoggingOn e = absurd cc
no_call Settling e = absurd cc
no_call Up e = absurd cc
no_call Closing e = absurd cc
no_call LoggedOut e = absurd cc

one_call : (phase : Phase) → is_over phase ≡ false → last_calls phase ≡ Calls call.Abandon ∷ []
one_call Closed e = absurd cc
one_call Down e = refl
one_call LoggingOn e = refl
one_call Settling e = refl
one_call Up e = refl
one_call Closing e = refl
one_call LoggedOut e = refl

pub finish_closed : (read : Decoding) (a b : WorkerParts) → b.session ≡ a.session → b.took ≡ a.took
    → beside_shares b.seat ≡ beside_shares a.seat → is_over a.session.phase ≡ true
    → Goes read a (last_calls a.session.phase) b
finish_closed read a b session took seat e =
    subst (λ (events : List WorkerEvent). Goes read a events b) (sym (no_call a.session.phase e))
    (goes_none read a b session took seat)

pub finish_abandoned : (read : Decoding) (a b : WorkerParts) → b.session ≡ abandon a.session → b.took ≡ a.took
    → beside_shares b.seat ≡ beside_shares a.seat → is_over a.session.phase ≡ false
    → Goes read a (last_calls a.session.phase) b
finish_abandoned read a b session took seat e =
    subst (λ (events : List WorkerEvent). Goes read a events b) (sym (one_call a.session.phase e))
    (goes_calls read a b (call.Abandon ∷ []) session refl (λ waiting. refl) refl took seat)

pub tells_closed : (phase : Phase) (a b : Told) → is_over phase ≡ true → b ≡ a → TellsEvents a (last_calls phase) b
tells_closed phase a b e same =
    subst (λ (events : List WorkerEvent). TellsEvents a events b) (sym (no_call phase e)) (tells_none a b same)

pub tells_abandoned : (phase : Phase) (a b : Told) → is_over phase ≡ false → TellsEvents a (Calls call.Abandon ∷ []) b
    → TellsEvents a (last_calls phase) b
tells_abandoned phase a b e tells =
    subst (λ (events : List WorkerEvent). TellsEvents a events b) (sym (one_call phase e)) tells

pub abandoned_closed : (s t : SessionParts) → t ≡ abandon s → t.phase ≡ Closed
abandoned_closed s t e = ap (λ (u : SessionParts). u.phase) e

speak_abandon : (w : Wording) (s : SessionParts) (said : Said) (a b : Wire) → Tells a b Stays
    → Speak w s said (call.Abandon ∷ []) a b
speak_abandon w s said a b stays =
    speak_silent w s said call.Abandon [] a b b tt stays refl
    (speak_none w (abandon s) said b b (stays_here b))

-- what is done last goes over no link
pub speak_last : (w : Wording) (s : SessionParts) (said : Said) (phase : Phase) (a b : Wire) → Tells a b Stays
    → Speak w s said (calls_of (last_calls phase)) a b
speak_last w s said Closed a b same = speak_none w s said a b same
speak_last w s said Down a b same = speak_abandon w s said a b same
speak_last w s said LoggingOn a b same = speak_abandon w s said a b same
speak_last w s said Settling a b same = speak_abandon w s said a b same
speak_last w s said Up a b same = speak_abandon w s said a b same
speak_last w s said Closing a b same = speak_abandon w s said a b same
speak_last w s said LoggedOut a b same = speak_abandon w s said a b same
