-- Lines that were done again, one after the other, and what they make of a start that was new.
use Rattle.std.proofs.Common.{◌≡◌, ◌≤◌, ℕ, suc, ◌+◌, Bool, true, false, not, List, [], ◌∷◌, ◌++◌, length, map, min, take, Option, Some, None, Result, Ok, Err, refl, ap, sym, subst, ◌∙◌, append_assoc, arith, if◌then◌else◌}
use Rattle.std.proofs.lemmas.List.{append-nil, length-append, map-append, take_all}
use Rattle.leg.specs.declared.placed_leg.PlacedLeg.{PlacedLeg}
use Rattle.dialect.specs.declared.note.Note.{Note}
use Rattle.dialect.specs.Wording.{Decoding}
use Rattle.session_core.specs.declared.session_call.SessionCall.{SessionCall}
use Rattle.session_core.specs.declared.session_call.SessionCall.TheVariants as call
use Rattle.session_core.specs.Session.{SessionParts, new_session}
use Rattle.session_core.specs.Calling.{broken}
use Rattle.session_core.specs.Trial.{after_calls}
use Rattle.session_core.proofs.CallsMade.{after-append}
use Rattle.journal_words.specs.Deed.{Timed}
use Rattle.journal_words.specs.Reading.{timed_said}
use Rattle.journal_words.specs.declared.fault.WordsFault.{WordsFault}
use Rattle.session_worker.specs.Booking.{booked_by, waiting_after}
use Rattle.session_worker.specs.Events.{Goes, WorkerEvent, calls_in, calls_of, lasting, taken_in, taken_of, withdrawn_by, withdrawn_in}
use Rattle.session_worker.specs.Events.WorkerEvent.{Calls}
use Rattle.session_worker.specs.Keeping.{event_of, events_of}
use Rattle.session_worker.specs.Restoring.{Redoes, RedoesLine, StartParts, TakesMore, counted_with, worker_from}
use Rattle.day_restart.proofs.Still.{Still, booked-append, same_books, waiting-append}
use Rattle.day_restart.specs.Redoing.{Ends, RedoesAt, RedoesLines}
use Rattle.day_restart.specs.Restored.{GoesOn, IsNew, deed_before, deeds_in, past_events}

-- ---- events and then others

calls-append : (first more : List WorkerEvent) → calls_of (first ++ more) ≡ calls_of first ++ calls_of more
calls-append [] more = refl
calls-append (event ∷ first) more =
    ap (λ l. calls_in event ++ l) (calls-append first more)
    ∙ sym (append_assoc (calls_in event) (calls_of first) (calls_of more))

taken-append : (first more : List WorkerEvent) → taken_of (first ++ more) ≡ taken_of first ++ taken_of more
taken-append [] more = refl
taken-append (event ∷ first) more =
    ap (λ l. taken_in event ++ l) (taken-append first more)
    ∙ sym (append_assoc (taken_in event) (taken_of first) (taken_of more))

withdrawn-append : (read : Decoding) (s : SessionParts) (first more : List WorkerEvent)
    → withdrawn_by read s (first ++ more)
    ≡ withdrawn_by read s first ++ withdrawn_by read (after_calls read s (calls_of first)) more
withdrawn-append read s [] more = refl
withdrawn-append read s (event ∷ first) more =
    let t = after_calls read s (calls_in event) in
    let later : after_calls read t (calls_of first) ≡ after_calls read s (calls_in event ++ calls_of first) =
    sym (after-append read s (calls_in event) (calls_of first)) in
    ap (λ l. withdrawn_in read s event ++ l) (withdrawn-append read t first more
    ∙ ap (λ (u : SessionParts). withdrawn_by read t first ++ withdrawn_by read u more) later)
    ∙ sym (append_assoc (withdrawn_in read s event) (withdrawn_by read t first)
    (withdrawn_by read (after_calls read s (calls_in event ++ calls_of first)) more))

-- ---- redoing

told_both : (n : ℕ) (first more all : List PlacedLeg) → all ≡ first ++ more
    → n + length first + length more ≡ n + length all
told_both n first more all is = omega (arith, ap length is, length-append first more)

redoes_none : (read : Decoding) (s : StartParts) → Redoes read s [] s
redoes_none read s = record {
  session = refl;
  took = refl;
  told = omega arith;
  taken = sym (append-nil (take s.told s.took.taken));
  seat = refl;
  booked = sym (append-nil s.seat.booked);
  counted = refl;
  asked = sym (append-nil s.seat.asked);
  waiting = refl;
}

counted-append : (n : ℕ) (first more : List Note)
    → counted_with n (first ++ more) ≡ counted_with (counted_with n first) more
counted-append n [] more = refl
counted-append n (note ∷ first) more = counted-append (min (n + 1) 18446744073709551615) first more

pub redoes_on : (read : Decoding) (a b c : StartParts) (first more : List WorkerEvent) → Redoes read a first b
    → Redoes read b more c → Redoes read a (first ++ more) c
redoes_on read a b c first more one next =
    let s : SessionParts = a.session in
    let waits : Option Note = waiting_after read s a.waiting (calls_of first) in
    let now : List Note = booked_by read s a.waiting (calls_of first) in
    let after_it : List Note = booked_by read (after_calls read s (calls_of first)) waits (calls_of more) in
    let after_is : booked_by read b.session b.waiting (calls_of more) ≡ after_it =
    ap (λ t. booked_by read t b.waiting (calls_of more)) one.session
    ∙ ap (λ w. booked_by read (after_calls read s (calls_of first)) w (calls_of more)) one.waiting in
    let all : now ++ after_it ≡ booked_by read s a.waiting (calls_of (first ++ more)) =
    sym (booked-append read s a.waiting (calls_of first) (calls_of more))
    ∙ ap (booked_by read s a.waiting) (sym (calls-append first more)) in
    let took : c.took ≡ a.took = next.took ∙ one.took in
    record {
      session = next.session ∙ (ap (λ t. after_calls read t (calls_of more)) one.session
          ∙ (sym (after-append read s (calls_of first) (calls_of more))
          ∙ ap (after_calls read s) (sym (calls-append first more))));
      took = took;
      told = next.told ∙ (ap (λ n. n + length (taken_of more)) one.told
          ∙ told_both a.told (taken_of first) (taken_of more) (taken_of (first ++ more)) (taken-append first more));
      taken = next.taken ∙ (ap (λ l. l ++ taken_of more) one.taken
          ∙ (append_assoc (take a.told a.took.taken) (taken_of first) (taken_of more)
          ∙ ap (λ l. take a.told a.took.taken ++ l) (sym (taken-append first more))));
      seat = next.seat ∙ one.seat;
      booked = next.booked ∙ (ap (λ l. l ++ booked_by read b.session b.waiting (calls_of more)) one.booked
          ∙ (append_assoc a.seat.booked now (booked_by read b.session b.waiting (calls_of more))
          ∙ ap (λ l. a.seat.booked ++ l) (ap (λ l. now ++ l) after_is ∙ all)));
      counted = next.counted ∙ (ap (λ n. counted_with n (booked_by read b.session b.waiting (calls_of more))) one.counted
          ∙ (ap (counted_with (counted_with a.counted now)) after_is
          ∙ (sym (counted-append a.counted now after_it) ∙ ap (counted_with a.counted) all)));
      asked = next.asked ∙ (ap (λ l. l ++ withdrawn_by read b.session more) one.asked
          ∙ (append_assoc a.seat.asked (withdrawn_by read s first) (withdrawn_by read b.session more)
          ∙ ap (λ l. a.seat.asked ++ l) (ap (λ (t : SessionParts). withdrawn_by read s first ++ withdrawn_by read t more) one.session
          ∙ sym (withdrawn-append read s first more))));
      waiting = next.waiting ∙ (ap (λ t. waiting_after read t b.waiting (calls_of more)) one.session
          ∙ (ap (λ w. waiting_after read (after_calls read s (calls_of first)) w (calls_of more)) one.waiting
          ∙ (sym (waiting-append read s a.waiting (calls_of first) (calls_of more))
          ∙ ap (waiting_after read s a.waiting) (sym (calls-append first more)))));
    }

-- ---- the lines of a venue

-- both a deed and others
record DeedAndMore (said : Result Timed WordsFault) (rest : Option (List Timed)) (all : List Timed) : Type 0 where
  one : Timed
  more : List Timed
  said_is : said ≡ Ok one
  rest_is : rest ≡ Some more
  all_is : all ≡ one ∷ more

deed_and_more : (said : Result Timed WordsFault) (rest : Option (List Timed)) (all : List Timed)
    → deed_before said rest ≡ Some all → DeedAndMore said rest all
deed_and_more (Err why) None all e = absurd cc
deed_and_more (Err why) (Some rest) all e = absurd cc
deed_and_more (Ok one) None all e = absurd cc
deed_and_more (Ok one) (Some more) all e =
    record { one = one; more = more; said_is = refl; rest_is = refl; all_is = (let same = e in cc) }

deeds_push : (lines : List (List ℕ)) (line : List ℕ) (deeds : List Timed) (timed : Timed)
    → deeds_in lines ≡ Some deeds → timed_said line ≡ Ok timed
    → deeds_in (lines ++ line ∷ []) ≡ Some (deeds ++ timed ∷ [])
deeds_push [] line deeds timed e said =
    let none : deeds ≡ [] = (let same = e in cc) in
    ap (λ s. deed_before s (Some [])) said ∙ ap (λ l. Some (l ++ timed ∷ [])) (sym none)
deeds_push (first ∷ lines) line deeds timed e said =
    let both = deed_and_more (timed_said first) (deeds_in lines) deeds e in
    ap (λ s. deed_before s (deeds_in (lines ++ line ∷ []))) both.said_is
    ∙ (ap (deed_before (Ok both.one)) (deeds_push lines line both.more timed both.rest_is said)
    ∙ ap (λ l. Some (l ++ timed ∷ [])) (sym both.all_is))

pub no_lines_redone : (read : Decoding) (s : StartParts) → RedoesLines read s [] s
no_lines_redone read s = record { deeds = []; said = refl; redoes = redoes_none read s }

pub lines_redone : (read : Decoding) (a b c : StartParts) (lines : List (List ℕ)) (line : List ℕ)
    → RedoesLines read a lines b → RedoesLine read b line c → RedoesLines read a (lines ++ line ∷ []) c
lines_redone read a b c lines line so_far next =
    let timed : Timed = next.0 in
    let all : events_of (so_far.deeds ++ timed ∷ []) ≡ events_of so_far.deeds ++ event_of timed.deed ∷ [] =
    map-append (λ (t : Timed). event_of t.deed) so_far.deeds (timed ∷ []) in
    record {
      deeds = so_far.deeds ++ timed ∷ [];
      said = deeds_push lines line so_far.deeds timed so_far.said next.1;
      redoes = subst (λ (events : List WorkerEvent). Redoes read a events c) (sym all)
          (redoes_on read a b c (events_of so_far.deeds) (event_of timed.deed ∷ []) so_far.redoes next.2);
    }

-- ---- what they make of a start that was new

-- one that took legs from its ring since, and of which no line was done again
pub record IsFreshStart (start now : StartParts) : Type 0 where
  pub session : now.session ≡ start.session
  pub still : Still start.session
  pub none : start.took.taken ≡ []
  pub venue : now.took.venue ≡ start.took.venue
  pub seat : now.seat ≡ start.seat
  pub told : now.told ≡ 0

pub fresh_start : (start now : StartParts) → IsNew start → TakesMore start now → IsFreshStart start now
fresh_start start now new takes =
    let is = new.3 in
    record {
      session = ap (λ s. s.session) takes.rest;
      still = ap (λ (s : StartParts). s.session.current.pending) is;
      none = ap (λ (s : StartParts). s.took.taken) is;
      venue = takes.venue;
      seat = ap (λ s. s.seat) takes.rest;
      told = ap (λ s. s.told) takes.rest ∙ ap (λ (s : StartParts). s.told) is;
    }

-- all legs that it took are those of its lines
all_told : (now : List PlacedLeg) (told : ℕ) (was : List PlacedLeg) (none : ℕ) (legs : List PlacedLeg)
    → take told now ≡ take none was ++ legs → told ≡ length now → none ≡ 0 → now ≡ legs
all_told now told was none legs took all start =
    sym (take_all told now (omega (arith, all))) ∙ (took ∙ ap (λ n. take n was ++ legs) start)

broken_last : (deeds : List Timed) → taken_of (past_events deeds) ≡ taken_of (events_of deeds)
broken_last deeds =
    taken-append (events_of deeds) (Calls call.Broken ∷ []) ∙ append-nil (taken_of (events_of deeds))

pub goes_on : (read : Decoding) (lines : List (List ℕ)) (start was now end : StartParts) → IsFreshStart start was
    → RedoesLines read was lines now → Ends now end → GoesOn read lines start end
goes_on read lines start was now end fresh redone ends =
    let s : SessionParts = start.session in
    let events : List WorkerEvent = events_of redone.deeds in
    let calls : List SessionCall = calls_of events in
    let it = redone.redoes in
    let session : now.session ≡ after_calls read s calls =
    it.session ∙ ap (λ t. after_calls read t calls) fresh.session in
    let past : calls_of (past_events redone.deeds) ≡ calls ++ call.Broken ∷ [] = calls-append events (Calls call.Broken ∷ []) in
    let ended = ends.ended in
    let same_seat : end.seat ≡ now.seat = ap (λ (x : StartParts). x.seat) ended in
    let same_took : end.took ≡ now.took = ap (λ (x : StartParts). x.took) ended in
    let legs : now.took.taken ≡ taken_of events =
    all_told now.took.taken now.told was.took.taken was.told (taken_of events) it.taken ends.all fresh.told in
    let place : end.took.venue ≡ start.took.venue =
    ap (λ t. t.venue) same_took ∙ (ap (λ t. t.venue) it.took ∙ fresh.venue) in
    let seat : lasting end.seat ≡ lasting start.seat = ap lasting same_seat ∙ (it.seat ∙ ap lasting fresh.seat) in
    record {
      deeds = redone.deeds;
      said = redone.said;
      goes = λ allowed wire told later. record {
        session = ap (λ (x : StartParts). x.session) ended ∙ (ap broken session
            ∙ (sym (after-append read s calls (call.Broken ∷ [])) ∙ ap (after_calls read s) (sym past)));
        taken = ap (λ t. t.taken) same_took ∙ (legs ∙ (sym (broken_last redone.deeds)
            ∙ ap (λ l. l ++ taken_of (past_events redone.deeds)) (sym fresh.none)));
        allowed = allowed;
        venue = place;
        seat = seat;
        booked = λ waiting.
            ap (λ x. x.booked) same_seat ∙ (it.booked ∙ (ap (λ x. x.booked ++ booked_by read was.session was.waiting calls) fresh.seat
            ∙ ap (λ l. start.seat.booked ++ l)
            (ap (λ t. booked_by read t was.waiting calls) fresh.session
            ∙ (same_books read s was.waiting waiting calls fresh.still
            ∙ (sym (append-nil (booked_by read s waiting calls))
            ∙ (sym (booked-append read s waiting calls (call.Broken ∷ []))
            ∙ ap (booked_by read s waiting) (sym past)))))));
        asked = ap (λ x. x.asked) same_seat ∙ (it.asked ∙ (ap (λ x. x.asked ++ withdrawn_by read was.session events) fresh.seat
            ∙ ap (λ l. start.seat.asked ++ l)
            (ap (λ (t : SessionParts). withdrawn_by read t events) fresh.session
            ∙ (sym (append-nil (withdrawn_by read s events))
            ∙ sym (withdrawn-append read s events (Calls call.Broken ∷ []))))));
      };
      place = place;
      seat = seat;
    }
