-- What calls of a session leave, one after the other.
use Rattle.std.proofs.Common.{◌≡◌, ◌⊎◌, ℕ, Bool, true, false, List, [], ◌∷◌, ◌++◌, map, refl, sym, ap, subst, ◌∙◌, inl, inr, append_assoc, if◌then◌else◌}
use Rattle.std.specs.List.{concat}
use Rattle.std.specs.Prelude.{Option, Some, None, Result, Ok, Err}
use Rattle.std.specs.Global.{Vec}
use Rattle.std.proofs.lemmas.List.{append-nil}
use Rattle.leg.specs.LegId.{LegIdParts}
use Rattle.leg.specs.declared.placed_leg.PlacedLeg.{PlacedLeg}
use Rattle.fix_text.specs.Tagged.{Tagged}
use Rattle.fix_text.specs.Reading.{Stream, next_read}
use Rattle.fix_text.specs.Calls.{new_stream}
use Rattle.fix_tags.specs.Reading.{envelope_read}
use Rattle.fix_tags.specs.Stamp.{StampParts}
use Rattle.fix_tags.specs.declared.envelope.Envelope.{Envelope}
use Rattle.fix_tags.specs.declared.tag_fault.TagFault.{TagFault}
use Rattle.dialect.specs.declared.message.Message.{Message}
use Rattle.dialect.specs.declared.note.Note.{Note}
use Rattle.dialect.specs.Framed.{IsFramed, AreFramed}
use Rattle.dialect.specs.Wording.{Encoding, Decoding, Wording}
use Rattle.dialect.specs.Outgoing.{alone}
use Rattle.link.specs.Traffic.{Tells, Dials, Takes, Stays}
use Rattle.session_core.specs.declared.phase.Phase.{Phase}
use Rattle.session_core.specs.declared.phase.Phase.TheVariants.{Down, LoggingOn, Settling, Up, Closing, LoggedOut, Closed}
use Rattle.session_core.specs.declared.session_call.SessionCall.{SessionCall}
use Rattle.session_core.specs.declared.session_call.SessionCall.TheVariants as call
use Rattle.session_core.specs.declared.session_fault.SessionFault.{SessionFault}
use Rattle.session_core.specs.declared.session_fault.SessionFault.TheVariants as fault
use Rattle.session_core.specs.declared.step.Step.{Step}
use Rattle.session_core.specs.Session.{SessionParts, is_connected, is_logged_out, may_write}
use Rattle.session_core.specs.Turn.{StepParts, quietly, puts_fence, disconnected}
use Rattle.session_core.specs.Calling.{SessionAnswer, refuses, answers, connect, connect_in, send_leg, quiet, silent, close, close_in, closing_up, malformed, broken, abandon}
use Rattle.session_core.specs.Trial.{Addition, added, added_message, called, after_calls}
use Rattle.session_core.specs.CallResult.{IsStep, Gives}
use Rattle.session_core.specs.Onward.{OrUnchanged, IsCall, IsConnection, SendsLeg}
use Rattle.session_core.proofs.Adding.{chosen}
use Rattle.session_core.proofs.Called.{close_keeps, connect_keeps, quiet_keeps, send_leg_keeps, silent_keeps}
use Rattle.session_core.proofs.CallsMade.{after-append}
use Rattle.session_worker.specs.Booking.{waiting_in, waiting_after, booked_by, named_in, unless_sent, withdrawn_at}
use Rattle.session_worker.specs.Hearing.{Said, said_with, said_after, Hears, ReaderOn}
use Rattle.session_worker.specs.Speaking.{Wire, Reads, TakesFirst, Puts, Begins, messages_in, Speak}
use Rattle.session_worker.specs.Linking.{SessionIoParts, io_of, IsHearing, SpeaksOn, MayBreak, MayGiveUp, calling, Writes, Moves, Hands, IsPlain, Gave, Asks, Receives}
use Rattle.session_worker.specs.Events.{leg_in, legs_in, withdrawn_by, IsIdle}
use Rattle.session_worker.specs.Events.WorkerEvent.{Calls, Fails}
use Rattle.session_worker.specs.Keeping.{Told, TellsEvents, heard_as, heard_call}
use Rattle.session_worker.proofs.Told.{tells_none, tells_on, tells_calls, tells_same, tells_then, tells_last}
use Rattle.session_worker.proofs.Booking.{booked-append, plain_books}
use Rattle.session_worker.proofs.Spoken.{stays_last, stays_here}
use Rattle.session_worker.proofs.Hearing.{on_first, on_waits, on_gave, on_stays, on_takes, on_dials}
use Rattle.session_worker.proofs.Speech.{stays_first, stays_on, takes_first, speak_read, speak_on, speak_none, speak_made, speak_silent, begins_plain, concat_one, speak_broken}
use Rattle.session_worker.proofs.Connected.{gone, gone_malformed, gone_abandoned, send_on, hearing_same, hearing_takes, hearing_gone}

-- the legs of calls and then others
legs-append : (first more : List SessionCall) → legs_in (first ++ more) ≡ legs_in first ++ legs_in more
legs-append [] more = refl
legs-append (made ∷ first) more =
    ap (λ l. leg_in made ++ l) (legs-append first more)
    ∙ sym (append_assoc (leg_in made) (legs_in first) (legs_in more))

-- ---- no call, and calls after others

pub speaks_same : (w : Wording) (x y : SessionIoParts) → y.session ≡ x.session → Tells x.wire y.wire Stays
    → y.stream ≡ x.stream → SpeaksOn w x [] y
speaks_same w x y same stays stream = λ (said : Said) (hearing : IsHearing said x). (
  speak_none w x.session said x.wire y.wire stays,
  hearing_same said x y (λ on. subst (λ (s : SessionParts). is_connected s.phase ≡ true) same on) stays stream hearing,
)

pub moves_same : (w : Wording) (x y : SessionIoParts) → y.session ≡ x.session → Tells x.wire y.wire Stays
    → y.stream ≡ x.stream → y.told ≡ x.told → Moves w x y
moves_same w x y same stays stream told = record {
  calls = [];
  session = same;
  no_leg = refl;
  no_note = λ waiting. refl;
  no_withdrawal = refl;
  speaks = speaks_same w x y same stays stream;
  tells = tells_none x.told y.told told;
}

pub moves_none : (w : Wording) (x : SessionIoParts) → Moves w x x
moves_none w x = moves_same w x x refl (stays_here x.wire) refl refl

said-append : (said : Said) (first more : List SessionCall) → said_after said (first ++ more) ≡ said_after (said_after said first) more
said-append said [] more = refl
said-append said (made ∷ first) more = said-append (said_with said made) first more

pub speaks_then : (w : Wording) (x y z : SessionIoParts) (first more : List SessionCall)
    → y.session ≡ after_calls w.decoding x.session first → SpeaksOn w x first y → SpeaksOn w y more z
    → SpeaksOn w x (first ++ more) z
speaks_then w x y z first more session one next = λ (said : Said) (hearing : IsHearing said x).
    let here = one said hearing in
    let later = next (said_after said first) here.1 in (
      speak_on w x.session said first more x.wire y.wire z.wire here.0
          (subst (λ (s : SessionParts). Speak w s (said_after said first) more y.wire z.wire) session later.0),
      subst (λ (l : Said). IsHearing l z) (sym (said-append said first more)) later.1,
    )

-- what calls withdraw, one after the other
calls_withdraw-append : (read : Decoding) (s : SessionParts) (first more : List SessionCall)
    → withdrawn_by read s (calling (first ++ more))
    ≡ withdrawn_by read s (calling first) ++ withdrawn_by read (after_calls read s first) (calling more)
calls_withdraw-append read s [] more = refl
calls_withdraw-append read s (made ∷ first) more =
    let t = (called read s made).1 in
    ap (λ l. withdrawn_at read s made ++ l) (calls_withdraw-append read t first more)
    ∙ sym (append_assoc (withdrawn_at read s made) (withdrawn_by read t (calling first))
    (withdrawn_by read (after_calls read t first) (calling more)))

pub moves_on : (w : Wording) (x y z : SessionIoParts) → Moves w x y → Moves w y z → Moves w x z
moves_on w x y z first next = record {
  calls = first.calls ++ next.calls;
  session = next.session ∙ (ap (λ s. after_calls w.decoding s next.calls) first.session
      ∙ sym (after-append w.decoding x.session first.calls next.calls));
  no_leg = legs-append first.calls next.calls ∙ (ap (λ l. l ++ legs_in next.calls) first.no_leg ∙ next.no_leg);
  no_note = λ (waiting : Option Note).
      let later : Option Note = waiting_after w.decoding x.session waiting first.calls in
      let none : booked_by w.decoding (after_calls w.decoding x.session first.calls) later next.calls ≡ [] =
      subst (λ (s : SessionParts). booked_by w.decoding s later next.calls ≡ []) first.session (next.no_note later) in
      booked-append w.decoding x.session waiting first.calls next.calls
      ∙ (ap (λ l. l ++ booked_by w.decoding (after_calls w.decoding x.session first.calls) later next.calls)
      (first.no_note waiting) ∙ none);
  no_withdrawal =
      let rest : withdrawn_by w.decoding (after_calls w.decoding x.session first.calls) (calling next.calls) ≡ [] =
      subst (λ (s : SessionParts). withdrawn_by w.decoding s (calling next.calls) ≡ []) first.session next.no_withdrawal in
      calls_withdraw-append w.decoding x.session first.calls next.calls
      ∙ (ap (λ l. l ++ withdrawn_by w.decoding (after_calls w.decoding x.session first.calls) (calling next.calls))
      first.no_withdrawal ∙ rest);
  speaks = speaks_then w x y z first.calls next.calls first.session first.speaks next.speaks;
  tells = tells_calls x.told y.told z.told first.calls next.calls first.tells next.tells;
}

-- ---- one call

-- it has no message, isn't to send a leg, books no note and withdraws no leg
moves_call : (w : Wording) (x y : SessionIoParts) (made : SessionCall) → leg_in made ≡ []
    → ((waiting : Option Note) → booked_by w.decoding x.session waiting (made ∷ []) ≡ [])
    → withdrawn_at w.decoding x.session made ≡ []
    → messages_in (called w.decoding x.session made).0 ≡ [] → ((said : Said) → IsHearing said x → Hears said made x.wire)
    → Begins x.session made x.wire y.wire → y.session ≡ (called w.decoding x.session made).1
    → ((said : Said) → IsHearing said x → IsHearing (said_with said made) y)
    → TellsEvents x.told (Calls made ∷ []) y.told → Moves w x y
moves_call w x y made no_leg no_note stay none hears begins is next tells = record {
  calls = made ∷ [];
  session = is;
  no_leg = ap (λ l. l ++ []) no_leg;
  no_note = no_note;
  no_withdrawal = ap (λ l. l ++ []) stay;
  speaks = λ (said : Said) (hearing : IsHearing said x). (
    speak_silent w x.session said made [] x.wire y.wire y.wire (hears said hearing) begins none
        (speak_none w (called w.decoding x.session made).1 (said_with said made) y.wire y.wire (stays_here y.wire)),
    next said hearing,
  );
  tells = tells;
}

pub moves_broken : (w : Wording) (x y : SessionIoParts) → y.session ≡ broken x.session
    → Tells x.wire y.wire Stays → TellsEvents x.told (Calls call.Broken ∷ []) y.told → Moves w x y
moves_broken w x y is stays tells =
    moves_call w x y call.Broken refl (λ waiting. refl) refl refl (λ said hearing. tt) (inl stays) is
    (λ said hearing. hearing_gone said y (gone x.session y.session is)) tells

pub moves_malformed : (w : Wording) (x y : SessionIoParts) → y.session ≡ (malformed x.session).1
    → Tells x.wire y.wire Stays → ((said : Said) → IsHearing said x → Hears said call.Malformed x.wire)
    → TellsEvents x.told (Calls call.Malformed ∷ []) y.told → Moves w x y
moves_malformed w x y is stays hears tells =
    moves_call w x y call.Malformed refl (λ waiting. refl) refl refl hears stays is
    (λ said hearing. hearing_gone said y (gone_malformed x.session y.session is)) tells

pub moves_abandon : (w : Wording) (x y : SessionIoParts) → y.session ≡ abandon x.session
    → Tells x.wire y.wire Stays → TellsEvents x.told (Calls call.Abandon ∷ []) y.told → Moves w x y
moves_abandon w x y is stays tells =
    moves_call w x y call.Abandon refl (λ waiting. refl) refl refl (λ said hearing. tt) stays is
    (λ said hearing. hearing_gone said y (gone_abandoned x.session y.session is)) tells

-- bytes were read, and then the connection may have been given up
pub moves_read : (w : Wording) (x y : SessionIoParts) → MayGiveUp x y → Reads x.wire y.wire
    → ((said : Said) → IsHearing said x → IsHearing said y) → Moves w x y
moves_read w x y (inl same) reads hears = record {
  calls = [];
  session = same.0;
  no_leg = refl;
  no_note = λ waiting. refl;
  no_withdrawal = refl;
  speaks = λ (said : Said) (hearing : IsHearing said x). (reads, hears said hearing);
  tells = same.1;
}
moves_read w x y (inr is) reads hears = record {
  calls = call.Broken ∷ [];
  session = is.0;
  no_leg = refl;
  no_note = λ waiting. refl;
  no_withdrawal = refl;
  speaks = λ (said : Said) (hearing : IsHearing said x). (
    speak_read w x.session said (call.Broken ∷ []) x.wire y.wire y.wire reads
        (speak_broken w x.session said y.wire y.wire (stays_here y.wire)),
    hears said hearing,
  );
  tells = is.1;
}

-- ---- a call that gives a step

plain_no_leg : (made : SessionCall) → IsPlain made → leg_in made ≡ []
plain_no_leg call.Connect plain = absurd plain
plain_no_leg (call.SendLeg ordinal leg) plain = absurd plain
plain_no_leg call.Broken plain = absurd plain
plain_no_leg (call.Receive envelope) plain = refl
plain_no_leg call.Confirm plain = absurd plain
plain_no_leg call.Quiet plain = refl
plain_no_leg call.Silent plain = refl
plain_no_leg call.Close plain = refl
plain_no_leg call.Malformed plain = refl
plain_no_leg call.Abandon plain = refl

plain_no_note : (read : Decoding) (s : SessionParts) (made : SessionCall) → IsPlain made → (waiting : Option Note)
    → booked_by read s waiting (made ∷ []) ≡ []
plain_no_note read s made plain waiting = ap (λ l. l ++ []) (plain_books s waiting made plain)

-- such a call withdraws the legs that its step names
pub plain_named : (read : Decoding) (s : SessionParts) (made : SessionCall) → IsPlain made
    → withdrawn_at read s made ≡ named_in (called read s made).0
plain_named read s call.Connect plain = absurd plain
plain_named read s (call.SendLeg ordinal leg) plain = absurd plain
plain_named read s call.Broken plain = absurd plain
plain_named read s (call.Receive envelope) plain = refl
plain_named read s call.Confirm plain = absurd plain
plain_named read s call.Quiet plain = refl
plain_named read s call.Silent plain = refl
plain_named read s call.Close plain = refl
plain_named read s call.Malformed plain = refl
plain_named read s call.Abandon plain = refl

-- a call that gives a message names none
message_named : (answer : SessionAnswer Message) → named_in (added_message answer).0 ≡ []
message_named (Ok message, after) = refl
message_named (Err why, after) = refl

-- the state after a call is that of its answer
took_answer : {X Y : Type 0} (Is : X → Y → Type 0) (s now : SessionParts) (answer : SessionAnswer X) (y : Y)
    → Gives Is s answer (Ok y) now → now ≡ answer.1
took_answer Is s now (Ok said, after) y gives = gives.1
took_answer Is s now (Err refused, after) y gives = gives.1

-- it gave one
pub gave_step : (w : Wording) (s now : SessionParts) (made : SessionCall) (answer : SessionAnswer StepParts)
    (stamp : StampParts) (step : Step) → IsPlain made → called w.decoding s made ≡ added answer
    → Gives (IsStep w.encoding stamp) s answer (Ok step) now → Gave w made s step now
gave_step w s now made (Ok said, after) stamp step plain is gives = record {
  plain = plain;
  said = said;
  adds = is ∙ ap (λ (t : SessionParts). (Some said, t)) (sym gives.1);
  stamp = stamp;
  is_step = gives.0;
}
gave_step w s now made (Err refused, after) stamp step plain is gives = absurd (let e = gives.0 in cc)

-- it did by itself, with no message received
pub asks_step : (w : Wording) (s now : SessionParts) (made : SessionCall) (answer : SessionAnswer StepParts)
    (stamp : StampParts) (step : Step) (x y : SessionIoParts) → x.session ≡ s → y.session ≡ now → IsPlain made
    → called w.decoding s made ≡ added answer
    → ((said : Said) → Hears said made x.wire) → ((said : Said) → said_with said made ≡ said)
    → (is_connected answer.1.phase ≡ true → is_connected s.phase ≡ true) → Gives (IsStep w.encoding stamp) s answer (Ok step) now
    → Tells x.wire y.wire Stays → y.stream ≡ x.stream → TellsEvents x.told (Calls made ∷ []) y.told → Asks w x step y
asks_step w s now made answer stamp step x y at after plain is hears same back gives stays stream tells = record {
  made = made;
  gave = subst (λ (t : SessionParts). Gave w made t step y.session) (sym at)
      (subst (λ (t : SessionParts). Gave w made s step t) (sym after)
      (gave_step w s now made answer stamp step plain is gives));
  tells = tells;
  wire = stays;
  hears = λ (said : Said) (hearing : IsHearing said x). (
    hears said,
    subst (λ (l : Said). IsHearing l y) (sym (same said))
        (hearing_same said x y
        (λ on. subst (λ (t : SessionParts). is_connected t.phase ≡ true) (sym at) (back
        (subst (λ (t : SessionParts). is_connected t.phase ≡ true)
        (after ∙ took_answer (IsStep w.encoding stamp) s now answer step gives) on)))
        stays stream hearing),
  );
}

-- it was refused, and that was told
pub moves_refused : {Y : Type 0} (Is : StepParts → Y → Type 0) (w : Wording) (x y : SessionIoParts)
    (made : SessionCall) (answer : SessionAnswer StepParts) (why : SessionFault) → IsPlain made
    → (why ≡ fault.OutOfMemory → ⊥)
    → called w.decoding x.session made ≡ added answer → ((said : Said) → Hears said made x.wire)
    → ((said : Said) → said_with said made ≡ said) → (is_connected answer.1.phase ≡ true → is_connected x.session.phase ≡ true)
    → Gives Is x.session answer (Err why) y.session → Tells x.wire y.wire Stays → y.stream ≡ x.stream
    → TellsEvents x.told (Calls made ∷ []) y.told → Moves w x y
moves_refused Is w x y made (Ok said, after) why plain other is hears same back gives stays stream tells =
    absurd (other gives.0)
moves_refused Is w x y made (Err refused, after) why plain other is hears same back gives stays stream tells =
    moves_call w x y made (plain_no_leg made plain) (plain_no_note w.decoding x.session made plain)
    (plain_named w.decoding x.session made plain ∙ ap (λ (a : Addition). named_in a.0) is)
    (ap (λ (a : Addition). messages_in a.0) is) (λ said hearing. hears said)
    (begins_plain x.session made x.wire y.wire plain stays) (gives.1 ∙ sym (ap (λ (a : Addition). a.1) is))
    (λ said hearing. subst (λ (l : Said). IsHearing l y) (sym (same said))
    (hearing_same said x y (λ on. back (subst (λ (t : SessionParts). is_connected t.phase ≡ true) gives.1 on)) stays stream hearing))
    tells

-- its frames were written
speak_gave : (w : Wording) (s now : SessionParts) (made : SessionCall) (step : Step)
    (gave : Gave w made s step now) (said : Said) (later : List SessionCall) (a b c : Wire) → Hears said made a
    → Puts (concat step.out) later a b → Speak w now (said_with said made) later b c
    → Speak w s said (made ∷ later) a c
speak_gave w s now made step gave said later a b c hears puts rest =
    speak_made w s said made later gave.stamp step.out a a b c hears (begins_plain s made a a gave.plain (stays_here a))
    (subst (λ (adds : Option StepParts). AreFramed w.encoding gave.stamp (map alone (messages_in adds)) step.out)
    (sym (ap (λ (a : Addition). a.0) gave.adds)) gave.is_step.out) puts
    (subst (λ (t : SessionParts). Speak w t (said_with said made) later b c) (sym (ap (λ (a : Addition). a.1) gave.adds)) rest)

-- calls that book these notes and withdraw these legs, and none of which is to send a leg
pub record Books (w : Wording) (notes : List Note) (ids : List LegIdParts) (x y : SessionIoParts) : Type 0 where
  pub calls : List SessionCall
  pub session : y.session ≡ after_calls w.decoding x.session calls
  pub no_leg : legs_in calls ≡ []
  pub booked : (waiting : Option Note) → booked_by w.decoding x.session waiting calls ≡ notes
  pub withdraws : withdrawn_by w.decoding x.session (calling calls) ≡ ids
  pub speaks : SpeaksOn w x calls y
  pub tells : TellsEvents x.told (calling calls) y.told

pub books_gave : (w : Wording) (x m y : SessionIoParts) (step : Step) (asks : Asks w x step m) (notes : List Note)
    (later : List SessionCall) (b : Wire) → y.session ≡ after_calls w.decoding m.session later → legs_in later ≡ []
    → ((waiting : Option Note)
    → booked_by w.decoding m.session (waiting_in w.decoding x.session waiting asks.made) later ≡ notes)
    → withdrawn_by w.decoding m.session (calling later) ≡ [] → Puts (concat step.out) later x.wire b
    → ((said : Said) → IsHearing said m → Speak w m.session said later b y.wire × IsHearing (said_after said later) y)
    → TellsEvents m.told (calling later) y.told → Books w notes step.withdrawn x y
books_gave w x m y step asks notes later b is no_leg booked stay puts rest tells = record {
  calls = asks.made ∷ later;
  session = is ∙ ap (λ (t : SessionParts). after_calls w.decoding t later) (sym (ap (λ (a : Addition). a.1) asks.gave.adds));
  no_leg = ap (λ l. l ++ legs_in later) (plain_no_leg asks.made asks.gave.plain) ∙ no_leg;
  booked = λ (waiting : Option Note).
      let waits : Option Note = waiting_in w.decoding x.session waiting asks.made in
      ap (λ l. l ++ booked_by w.decoding (called w.decoding x.session asks.made).1 waits later)
      (plain_books x.session waiting asks.made asks.gave.plain)
      ∙ (ap (λ (t : SessionParts). booked_by w.decoding t waits later) (ap (λ (a : Addition). a.1) asks.gave.adds)
      ∙ booked waiting);
  withdraws = ap (λ l. l ++ withdrawn_by w.decoding (called w.decoding x.session asks.made).1 (calling later))
      (plain_named w.decoding x.session asks.made asks.gave.plain
      ∙ (ap (λ (a : Addition). named_in a.0) asks.gave.adds ∙ sym asks.gave.is_step.withdrawn))
      ∙ (ap (λ (t : SessionParts). step.withdrawn ++ withdrawn_by w.decoding t (calling later))
      (ap (λ (a : Addition). a.1) asks.gave.adds)
      ∙ (ap (λ l. step.withdrawn ++ l) stay ∙ append-nil step.withdrawn));
  speaks = λ (said : Said) (hearing : IsHearing said x).
      let heard = asks.hears said hearing in
      let done = rest (said_with said asks.made) heard.1 in (
        speak_gave w x.session m.session asks.made step asks.gave said later x.wire b y.wire heard.0 puts done.0,
        done.1,
      );
  tells = tells_on x.told m.told y.told (Calls asks.made ∷ []) (calling later) asks.tells tells;
}

moves_gave : (w : Wording) (x y : SessionIoParts) (ids : List LegIdParts) → Books w [] ids x y → ids ≡ [] → Moves w x y
moves_gave w x y ids books none = record {
  calls = books.calls;
  session = books.session;
  no_leg = books.no_leg;
  no_note = books.booked;
  no_withdrawal = books.withdraws ∙ none;
  speaks = books.speaks;
  tells = books.tells;
}

pub moves_written : (w : Wording) (x m y : SessionIoParts) (step : Step) → Asks w x step m → step.withdrawn ≡ []
    → Writes (concat step.out) m y → y.stream ≡ m.stream → Moves w x y
moves_written w x m y step asks none (inl all) stream =
    moves_gave w x y step.withdrawn (books_gave w x m y step asks [] [] y.wire all.0 refl (λ waiting. refl) refl
    (inl (stays_first (Takes (concat step.out)) x.wire m.wire y.wire asks.wire all.1))
    (λ said hearing. (
      speak_none w m.session said y.wire y.wire (stays_here y.wire),
      hearing_takes said (concat step.out) m y (λ on. subst (λ (s : SessionParts). is_connected s.phase ≡ true) all.0 on) all.1
          stream hearing,
    )) all.2) none
moves_written w x m y step asks none (inr part) stream =
    moves_gave w x y step.withdrawn (books_gave w x m y step asks [] (call.Broken ∷ []) y.wire part.0 refl (λ waiting. refl) refl
    (inr (tt, stays_first (TakesFirst (concat step.out)) x.wire m.wire y.wire asks.wire (takes_first (concat step.out) m.wire y.wire part.1)))
    (λ said hearing. (
      speak_broken w m.session said y.wire y.wire (stays_here y.wire),
      hearing_gone said y (gone m.session y.session part.0),
    )) part.2) none

-- ---- what comes of the next message

pub heard_nothing : (w : Wording) (x y : SessionIoParts) → y.session ≡ x.session → Tells x.wire y.wire Stays
    → (next_read x.stream).frame ≡ None → y.stream ≡ (next_read x.stream).stream → y.told ≡ x.told → Moves w x y
heard_nothing w x y same stays found is told = record {
  calls = [];
  session = same;
  no_leg = refl;
  no_note = λ waiting. refl;
  no_withdrawal = refl;
  speaks = λ (said : Said) (hearing : IsHearing said x). (
    speak_none w x.session said x.wire y.wire stays,
    (λ on. on_stays said x.wire y.wire y.stream
        (on_waits said x.wire x.stream y.stream (hearing (subst (λ (s : SessionParts). is_connected s.phase ≡ true) same on)) found is)
        stays),
  );
  tells = tells_none x.told y.told told;
}

-- what was told of it, where its frame is this
told_received : (w : Wording) (s now : SessionParts) (x : Stream) (step : Step) (receives : Receives w s x step now)
    → heard_call (next_read x).frame ≡ call.Receive receives.envelope
told_received w s now x step receives = ap heard_call receives.next ∙ ap heard_as receives.says

pub heard_step : (w : Wording) (x y : SessionIoParts) (step : Step)
    → is_connected x.session.phase ≡ true → Receives w x.session x.stream step y.session
    → y.stream ≡ (next_read x.stream).stream → Tells x.wire y.wire Stays
    → TellsEvents x.told (Calls (heard_call (next_read x.stream).frame) ∷ []) y.told → Asks w x step y
heard_step w x y step on receives is stays tells = record {
  made = call.Receive receives.envelope;
  gave = receives.gave;
  tells = subst (λ (made : SessionCall). TellsEvents x.told (Calls made ∷ []) y.told)
      (told_received w x.session y.session x.stream step receives) tells;
  wire = stays;
  hears = λ (said : Said) (hearing : IsHearing said x).
      let at : ReaderOn (said ++ Ok receives.envelope ∷ []) x.wire y.stream =
      subst (λ (r : Result Envelope TagFault). ReaderOn (said ++ r ∷ []) x.wire y.stream) receives.says
      (on_gave said receives.fields x.wire x.stream y.stream (hearing on) receives.next is) in (
        on_first (said ++ Ok receives.envelope ∷ []) x.wire y.stream at,
        (λ still. on_stays (said ++ Ok receives.envelope ∷ []) x.wire y.wire y.stream at stays),
      );
}

-- what a step asks for stays so where the link was told something
pub asks_still : (w : Wording) (x m y : SessionIoParts) (step : Step) → Asks w x step m → y.session ≡ m.session
    → Tells m.wire y.wire Stays → y.stream ≡ m.stream → y.told ≡ m.told → Asks w x step y
asks_still w x m y step asks same stays stream told = record {
  made = asks.made;
  gave = subst (λ (s : SessionParts). Gave w asks.made x.session step s) (sym same) asks.gave;
  tells = tells_same x.told m.told y.told (Calls asks.made ∷ []) asks.tells told;
  wire = stays_on x.wire m.wire y.wire asks.wire stays;
  hears = λ (said : Said) (hearing : IsHearing said x).
      let heard = asks.hears said hearing in (
        heard.0,
        hearing_same (said_with said asks.made) m y
            (λ on. subst (λ (s : SessionParts). is_connected s.phase ≡ true) same on) stays stream heard.1,
      );
}

pub heard_malformed : (w : Wording) (x y : SessionIoParts) (z : Stream) (fields : List Tagged) (fault : TagFault)
    → is_connected x.session.phase ≡ true → (next_read x.stream).frame ≡ Some fields → envelope_read fields ≡ Err fault
    → z ≡ (next_read x.stream).stream → y.session ≡ (malformed x.session).1 → Tells x.wire y.wire Stays
    → TellsEvents x.told (Calls (heard_call (next_read x.stream).frame) ∷ []) y.told → Moves w x y
heard_malformed w x y z fields fault on next says is gone stays tells =
    moves_malformed w x y gone stays
    (λ (said : Said) (hearing : IsHearing said x).
    let at : ReaderOn (said ++ Err fault ∷ []) x.wire z =
    subst (λ (r : Result Envelope TagFault). ReaderOn (said ++ r ∷ []) x.wire z) says
    (on_gave said fields x.wire x.stream z (hearing on) next is) in
    (fault, on_first (said ++ Err fault ∷ []) x.wire z at))
    (subst (λ (made : SessionCall). TellsEvents x.told (Calls made ∷ []) y.told)
    (ap heard_call next ∙ ap heard_as says) tells)

-- ---- a call that gives a message

-- its frame was written, or the first bytes of it
speak_message : (w : Wording) (s now : SessionParts) (said : Said) (made : SessionCall)
    (answer : SessionAnswer Message) (stamp : StampParts) (frame : Vec ℕ) (later : List SessionCall) (a b c d : Wire)
    → called w.decoding s made ≡ added_message answer → Gives (λ (m : Message) (bytes : Vec ℕ). IsFramed w.encoding stamp (alone m) bytes.items) s answer (Ok frame) now → Hears said made a
    → Begins s made a b → Puts frame.items later b c → Speak w now (said_with said made) later c d
    → Speak w s said (made ∷ later) a d
speak_message w s now said made (Err refused, after) stamp frame later a b c d is gives hears begins puts rest =
    absurd (let e = gives.0 in cc)
speak_message w s now said made (Ok m, after) stamp frame later a b c d is gives hears begins puts rest =
    speak_made w s said made later stamp (frame.items ∷ []) a b c d hears begins
    (subst (λ (adds : Option StepParts). AreFramed w.encoding stamp (map alone (messages_in adds)) (frame.items ∷ []))
    (sym (ap (λ (a : Addition). a.0) is)) (gives.0, tt))
    (subst (λ (bytes : List ℕ). Puts bytes later b c) (sym (concat_one frame.items)) puts)
    (subst (λ (t : SessionParts). Speak w t (said_with said made) later c d) (gives.1 ∙ sym (ap (λ (a : Addition). a.1) is)) rest)

after_message : (answer : SessionAnswer Message) → (added_message answer).1 ≡ answer.1
after_message (Ok message, after) = refl
after_message (Err why, after) = refl

-- a session that logged on over a link that was dialled for it
pub moves_connected : (w : Wording) (s now : SessionParts) (stamp : StampParts) (frame : Vec ℕ) (a b : Wire)
    (x z : Stream) (t u : Told) (y : SessionIoParts) → Gives (λ (m : Message) (bytes : Vec ℕ). IsFramed w.encoding stamp (alone m) bytes.items) s (connect s) (Ok frame) now → Tells a b Dials
    → TellsEvents t (Calls call.Connect ∷ []) u → Writes frame.items (io_of now b z u) y → y.stream ≡ new_stream
    → Moves w (io_of s a x t) y
moves_connected w s now stamp frame a b x z t u y gives dials tells (inl all) fresh = record {
  calls = call.Connect ∷ [];
  session = all.0 ∙ (took_answer (λ (m : Message) (bytes : Vec ℕ). IsFramed w.encoding stamp (alone m) bytes.items) s now (connect s) frame gives ∙ sym (after_message (connect s)));
  no_leg = refl;
  no_note = λ waiting. refl;
  no_withdrawal = ap (λ l. l ++ []) (message_named (connect s));
  speaks = λ (said : Said) (hearing : IsHearing said (io_of s a x t)). (
    speak_message w s now said call.Connect (connect s) stamp frame [] a b y.wire y.wire refl gives tt dials (inl all.1)
        (speak_none w now [] y.wire y.wire (stays_here y.wire)),
    (λ on. subst (λ (l : Stream). ReaderOn [] y.wire l) (sym fresh)
        (on_takes [] frame.items b y.wire new_stream (on_dials a b dials) all.1)),
  );
  tells = tells_last t u y.told (Calls call.Connect ∷ []) tells all.2;
}
moves_connected w s now stamp frame a b x z t u y gives dials tells (inr part) fresh = record {
  calls = call.Connect ∷ call.Broken ∷ [];
  session = part.0 ∙ ap broken (took_answer (λ (m : Message) (bytes : Vec ℕ). IsFramed w.encoding stamp (alone m) bytes.items) s now (connect s) frame gives ∙ sym (after_message (connect s)));
  no_leg = refl;
  no_note = λ waiting. refl;
  no_withdrawal = ap (λ l. l ++ []) (message_named (connect s));
  speaks = λ (said : Said) (hearing : IsHearing said (io_of s a x t)). (
    speak_message w s now said call.Connect (connect s) stamp frame (call.Broken ∷ []) a b y.wire y.wire refl gives tt dials
        (inr (tt, takes_first frame.items b y.wire part.1)) (speak_broken w now [] y.wire y.wire (stays_here y.wire)),
    hearing_gone [] y (gone now y.session part.0),
  );
  tells = tells_on t u y.told (Calls call.Connect ∷ []) (Calls call.Broken ∷ []) tells part.2;
}

-- a connection that was dialled, where the session refused to log on
pub moves_not_connected : {Y : Type 0} (Is : Message → Y → Type 0) (w : Wording) (s now : SessionParts)
    (why : SessionFault) (a b : Wire) (x : Stream) (t : Told) (y : SessionIoParts) → (why ≡ fault.OutOfMemory → ⊥)
    → Gives Is s (connect s) (Err why) now → Tells a b Dials → y.session ≡ now → Tells b y.wire Stays → y.stream ≡ new_stream
    → TellsEvents t (Calls call.Connect ∷ []) y.told → Moves w (io_of s a x t) y
moves_not_connected Is w s now why a b x t y other gives dials same stays fresh tells =
    not_connected (connect s) refl gives where
      to : Tells a y.wire Dials
      to = stays_last Dials a b y.wire dials stays

      not_connected : (answer : SessionAnswer Message) → connect s ≡ answer → Gives Is s answer (Err why) now
          → Moves w (io_of s a x t) y
      not_connected (Ok m, after) is gave = absurd (other gave.0)
      not_connected (Err refused, after) is gave =
          moves_call w (io_of s a x t) y call.Connect refl (λ waiting. refl) (message_named (connect s))
          (ap (λ (r : SessionAnswer Message). messages_in (added_message r).0) is) (λ said hearing. tt) to
          (same ∙ (gave.1 ∙ sym (ap (λ (r : SessionAnswer Message). (added_message r).1) is)))
          (λ said hearing. λ on. subst (λ (l : Stream). ReaderOn [] y.wire l) (sym fresh) (on_dials a y.wire to)) tells

-- a session that can connect is down
down_connects : (s : SessionParts) (phase : Phase) (m : Message) (after : SessionParts) → connect_in phase s ≡ (Ok m, after)
    → phase ≡ Down
down_connects s Down m after is = refl
down_connects s Closed m after is = absurd (let e = ap (λ p. p.0) is in cc)
down_connects s LoggingOn m after is = absurd (let e = ap (λ p. p.0) is in cc)
down_connects s Settling m after is = absurd (let e = ap (λ p. p.0) is in cc)
down_connects s Up m after is = absurd (let e = ap (λ p. p.0) is in cc)
down_connects s Closing m after is = absurd (let e = ap (λ p. p.0) is in cc)
down_connects s LoggedOut m after is = absurd (let e = ap (λ p. p.0) is in cc)

-- no session refuses to connect for want of memory
never_spent : (b : Bool) (ok : SessionAnswer Message) (s after : SessionParts) → (ok.0 ≡ Err fault.OutOfMemory → ⊥)
    → (if b then ok else refuses fault.NumbersSpent s) ≡ (Err fault.OutOfMemory, after) → ⊥
never_spent true ok s after other is = other (ap (λ p. p.0) is)
never_spent false ok s after other is = absurd (let e = ap (λ p. p.0) is in cc)

never_refused : (s : SessionParts) (phase : Phase) (after : SessionParts)
    → connect_in phase s ≡ (Err fault.OutOfMemory, after) → ⊥
never_refused s Down after is = never_spent (may_write s) _ s after (λ e. absurd (cc)) is
never_refused s Closed after is = absurd (let e = ap (λ p. p.0) is in cc)
never_refused s LoggingOn after is = absurd (let e = ap (λ p. p.0) is in cc)
never_refused s Settling after is = absurd (let e = ap (λ p. p.0) is in cc)
never_refused s Up after is = absurd (let e = ap (λ p. p.0) is in cc)
never_refused s Closing after is = absurd (let e = ap (λ p. p.0) is in cc)
never_refused s LoggedOut after is = absurd (let e = ap (λ p. p.0) is in cc)

-- what a refused call says
the_fault : {Y : Type 0} → Result Y SessionFault → SessionFault
the_fault (Ok y) = fault.OutOfMemory
the_fault (Err why) = why

refused_as : SessionParts → SessionFault → SessionAnswer Message
refused_as after why = (Err why, after)

-- or where it wanted memory, and was given up
pub moves_gone : {Y : Type 0} (Is : Message → Y → Type 0) (w : Wording) (s now : SessionParts)
    (a b : Wire) (x : Stream) (t : Told) (y : SessionIoParts) → Gives Is s (connect s) (Err fault.OutOfMemory) now
    → Tells a b Dials → y.session ≡ broken now → Tells b y.wire Stays
    → TellsEvents t (Calls call.Broken ∷ []) y.told → Moves w (io_of s a x t) y
unfolding refused_as the_fault
moves_gone Is w s now a b x t y gives dials over stays tells = gone_from (connect s) refl gives where
  gone_from : (answer : SessionAnswer Message) → connect s ≡ answer → Gives Is s answer (Err fault.OutOfMemory) now
      → Moves w (io_of s a x t) y
  gone_from (Ok m, after) is gave =
      moves_call w (io_of s a x t) y call.Broken refl (λ waiting. refl) refl refl (λ said hearing. tt)
      (inr (down_connects s s.phase m after is, stays_last Dials a b y.wire dials stays)) (over ∙ ap broken gave.1)
      (λ said hearing. hearing_gone said y (gone now y.session over)) tells
  gone_from (Err refused, after) is gave =
      absurd (never_refused s s.phase after
      (is ∙ ap (refused_as after) (ap the_fault (sym gave.0))))

-- or where the session refused, and was given up
pub moves_given_up : {Y : Type 0} (Is : Message → Y → Type 0) (w : Wording) (s now : SessionParts)
    (why : SessionFault) (a b : Wire) (x : Stream) (t u : Told) (y : SessionIoParts) → (why ≡ fault.OutOfMemory → ⊥)
    → Gives Is s (connect s) (Err why) now → Tells a b Dials → TellsEvents t (Calls call.Connect ∷ []) u
    → y.session ≡ broken now → Tells b y.wire Stays → TellsEvents u (Calls call.Broken ∷ []) y.told
    → Moves w (io_of s a x t) y
moves_given_up Is w s now why a b x t u y other gives dials tells over stays later =
    let between : SessionIoParts = io_of now b new_stream u in
    moves_on w (io_of s a x t) between y
    (moves_not_connected Is w s now why a b x t between other gives dials refl (stays_here b) refl tells)
    (moves_broken w between y over stays later)

-- a refused call leaves the session as it was
refused : {X Y : Type 0} (Is : X → Y → Type 0) (Made : X → SessionParts → Type 0) (s now : SessionParts)
    (answer : SessionAnswer X) (why : SessionFault) → OrUnchanged s Made answer → Gives Is s answer (Err why) now → now ≡ s
refused Is Made s now (Ok said, after) why kept gives = gives.1
refused Is Made s now (Err other, after) why kept gives = gives.1 ∙ kept

pub refused_connect : {Y : Type 0} (Is : Message → Y → Type 0) (s now : SessionParts) (why : SessionFault)
    → Gives Is s (connect s) (Err why) now → now ≡ s
refused_connect Is s now why gives = refused Is (IsConnection s) s now (connect s) why (connect_keeps s) gives

pub refused_send : {Y : Type 0} (Is : Message → Y → Type 0) (s now : SessionParts) (leg : PlacedLeg) (why : SessionFault)
    → Gives Is s (send_leg s leg.ordinal leg.leg) (Err why) now → now ≡ s
refused_send Is s now leg why gives =
    refused Is (SendsLeg s leg.ordinal leg.leg) s now (send_leg s leg.ordinal leg.leg) why
    (send_leg_keeps s leg.ordinal leg.leg) gives

-- a call that wanted memory left the session as it was
pub refused_close : {Y : Type 0} (Is : StepParts → Y → Type 0) (s now : SessionParts) (why : SessionFault)
    → Gives Is s (close s) (Err why) now → now ≡ s
refused_close Is s now why gives = refused Is (IsCall s) s now (close s) why (close_keeps s) gives

pub refused_quiet : {Y : Type 0} (Is : StepParts → Y → Type 0) (s now : SessionParts) (why : SessionFault)
    → Gives Is s (quiet s) (Err why) now → now ≡ s
refused_quiet Is s now why gives = refused Is (IsCall s) s now (quiet s) why (quiet_keeps s) gives

pub refused_silent : {Y : Type 0} (Is : StepParts → Y → Type 0) (s now : SessionParts) (why : SessionFault)
    → Gives Is s (silent s) (Err why) now → now ≡ s
refused_silent Is s now why gives = refused Is (IsCall s) s now (silent s) why (silent_keeps s) gives

-- where it wasn't out of memory the state is that of the answer
answered : {X Y : Type 0} (Is : X → Y → Type 0) (s now : SessionParts) (answer : SessionAnswer X) (why : SessionFault)
    → (why ≡ fault.OutOfMemory → ⊥) → Gives Is s answer (Err why) now → now ≡ answer.1
answered Is s now (Ok said, after) why other gives = absurd (other gives.0)
answered Is s now (Err refused, after) why other gives = gives.1

-- a leg that was sent isn't withdrawn
none_unsent : {Y : Type 0} (Is : Message → Y → Type 0) (s now : SessionParts) (id : LegIdParts)
    (answer : SessionAnswer Message) (y : Y) → Gives Is s answer (Ok y) now → unless_sent id (added_message answer).0 ≡ []
none_unsent Is s now id (Ok m, after) y gives = refl
none_unsent Is s now id (Err refused, after) y gives = absurd (let e = gives.0 in cc)

-- a leg that was sent
pub hands_sent : (w : Wording) (leg : PlacedLeg) (s now : SessionParts) (stamp : StampParts) (frame : Vec ℕ)
    (a b : Wire) (x : Stream) (t u : Told) (y : SessionIoParts) → Gives (λ (m : Message) (bytes : Vec ℕ). IsFramed w.encoding stamp (alone m) bytes.items) s (send_leg s leg.ordinal leg.leg) (Ok frame) now
    → Tells a b Stays → TellsEvents t (Calls (call.SendLeg leg.ordinal leg.leg) ∷ []) u
    → Writes frame.items (io_of now b x u) y → y.stream ≡ x → Hands w leg true (io_of s a x t) y
hands_sent w leg s now stamp frame a b x t u y gives stays tells (inl all) stream =
    let is : y.session ≡ (send_leg s leg.ordinal leg.leg).1 = all.0 ∙ took_answer (λ (m : Message) (bytes : Vec ℕ). IsFramed w.encoding stamp (alone m) bytes.items) s now (send_leg s leg.ordinal leg.leg) frame gives in
    record {
      event = Calls (call.SendLeg leg.ordinal leg.leg);
      of_leg = inl refl;
      calls = [];
      session = is ∙ sym (after_message (send_leg s leg.ordinal leg.leg));
      no_leg = refl;
      no_note = λ waiting. refl;
      withdraws = ap (λ l. l ++ []) (none_unsent (λ (m : Message) (bytes : Vec ℕ). IsFramed w.encoding stamp (alone m) bytes.items)
          s now leg.leg.id (send_leg s leg.ordinal leg.leg) frame gives);
      speaks = λ (said : Said) (hearing : IsHearing said (io_of s a x t)). (
        speak_message w s now said (call.SendLeg leg.ordinal leg.leg) (send_leg s leg.ordinal leg.leg) stamp frame [] a b y.wire y.wire
            refl gives tt stays (inl all.1) (speak_none w now said y.wire y.wire (stays_here y.wire)),
        hearing_takes said frame.items (io_of s a x t) y
            (λ on. send_on s leg.ordinal leg.leg (subst (λ (l : SessionParts). is_connected l.phase ≡ true) is on))
            (stays_first (Takes frame.items) a b y.wire stays all.1) stream hearing,
      );
      tells = tells_last t u y.told (Calls (call.SendLeg leg.ordinal leg.leg) ∷ []) tells all.2;
    }
hands_sent w leg s now stamp frame a b x t u y gives stays tells (inr part) stream = record {
  event = Calls (call.SendLeg leg.ordinal leg.leg);
  of_leg = inl refl;
  calls = call.Broken ∷ [];
  session = part.0 ∙ ap broken (took_answer (λ (m : Message) (bytes : Vec ℕ). IsFramed w.encoding stamp (alone m) bytes.items) s now (send_leg s leg.ordinal leg.leg) frame gives ∙ sym (after_message (send_leg s leg.ordinal leg.leg)));
  no_leg = refl;
  no_note = λ waiting. refl;
  withdraws = ap (λ l. l ++ []) (none_unsent (λ (m : Message) (bytes : Vec ℕ). IsFramed w.encoding stamp (alone m) bytes.items)
      s now leg.leg.id (send_leg s leg.ordinal leg.leg) frame gives);
  speaks = λ (said : Said) (hearing : IsHearing said (io_of s a x t)). (
    speak_message w s now said (call.SendLeg leg.ordinal leg.leg) (send_leg s leg.ordinal leg.leg) stamp frame (call.Broken ∷ []) a b
        y.wire y.wire refl gives tt stays (inr (tt, takes_first frame.items b y.wire part.1))
        (speak_broken w now said y.wire y.wire (stays_here y.wire)),
    hearing_gone said y (gone now y.session part.0),
  );
  tells = tells_on t u y.told (Calls (call.SendLeg leg.ordinal leg.leg) ∷ []) (Calls call.Broken ∷ []) tells part.2;
}

-- one that the session refused
pub hands_refused : {Y : Type 0} (Is : Message → Y → Type 0) (w : Wording) (leg : PlacedLeg)
    (s now : SessionParts) (why : SessionFault) (a b : Wire) (x : Stream) (t u : Told) → (why ≡ fault.OutOfMemory → ⊥)
    → Gives Is s (send_leg s leg.ordinal leg.leg) (Err why) now → Tells a b Stays
    → TellsEvents t (Calls (call.SendLeg leg.ordinal leg.leg) ∷ []) u
    → Hands w leg false (io_of s a x t) (io_of now b x u)
hands_refused Is w leg s now why a b x t u other gives stays tells =
    was_refused (send_leg s leg.ordinal leg.leg) refl gives where
      was_refused : (answer : SessionAnswer Message) → send_leg s leg.ordinal leg.leg ≡ answer → Gives Is s answer (Err why) now
          → Hands w leg false (io_of s a x t) (io_of now b x u)
      was_refused (Ok m, after) is gave = absurd (other gave.0)
      was_refused (Err refused, after) is gave =
          let same : now ≡ (send_leg s leg.ordinal leg.leg).1 = gave.1 ∙ sym (ap (λ (r : SessionAnswer Message). r.1) is) in
          record {
            event = Calls (call.SendLeg leg.ordinal leg.leg);
            of_leg = inl refl;
            calls = [];
            session = gave.1 ∙ sym (ap (λ (r : SessionAnswer Message). (added_message r).1) is);
            no_leg = refl;
            no_note = λ waiting. refl;
            withdraws = ap (λ (r : SessionAnswer Message). unless_sent leg.leg.id (added_message r).0 ++ []) is;
            speaks = λ (said : Said) (hearing : IsHearing said (io_of s a x t)). (
              speak_silent w s said (call.SendLeg leg.ordinal leg.leg) [] a b b tt stays
                  (ap (λ (r : SessionAnswer Message). messages_in (added_message r).0) is)
                  (speak_none w (called w.decoding s (call.SendLeg leg.ordinal leg.leg)).1 said b b (stays_here b)),
              hearing_same said (io_of s a x t) (io_of now b x u)
                  (λ on. send_on s leg.ordinal leg.leg (subst (λ (l : SessionParts). is_connected l.phase ≡ true) same on)) stays
                  refl hearing,
            );
            tells = tells;
          }

-- one for which it wanted memory
pub hands_failed : {Y : Type 0} (Is : Message → Y → Type 0) (w : Wording) (leg : PlacedLeg)
    (s now : SessionParts) (why : SessionFault) (a : Wire) (x : Stream) (t : Told) (y : SessionIoParts)
    → Gives Is s (send_leg s leg.ordinal leg.leg) (Err why) now → y.session ≡ broken now → Tells a y.wire Stays
    → TellsEvents t (Fails leg ∷ []) y.told → Hands w leg false (io_of s a x t) y
hands_failed Is w leg s now why a x t y gives e stays tells = record {
  event = Fails leg;
  of_leg = inr refl;
  calls = [];
  session = e ∙ ap broken (refused_send Is s now leg why gives);
  no_leg = refl;
  no_note = λ waiting. refl;
  withdraws = refl;
  speaks = λ (said : Said) (hearing : IsHearing said (io_of s a x t)).
      (speak_broken w s said a y.wire stays, hearing_gone said y (gone now y.session e));
  tells = tells;
}

-- a session that is down or closed can't send a leg
not_up : (over : Bool) → (if over then Closed else Down) ≡ Up → ⊥
not_up true e = cc
not_up false e = cc

pub idle_in : (s : SessionParts) (phase : Phase) → s.phase ≡ phase → (phase ≡ Up → ⊥) → IsIdle s
idle_in s phase is other = λ up. absurd (other (sym is ∙ up))

pub idle_closing : (s : SessionParts) → (s.phase ≡ Closing) ⊎ (s.phase ≡ LoggedOut) → IsIdle s
idle_closing s (inl is) = idle_in s Closing is (λ e. cc)
idle_closing s (inr is) = idle_in s LoggedOut is (λ e. cc)

pub idle_broken : (s : SessionParts) → IsIdle (broken s)
idle_broken s =
    chosen IsIdle (is_connected s.phase) (disconnected false s) s
    (λ on. λ up. absurd (not_up (is_logged_out s.phase) up))
    (λ off. λ up. absurd (let on : is_connected s.phase ≡ true = ap is_connected up in cc))

pub idle_may_break : (s t : SessionParts) → IsIdle s → MayBreak s t → IsIdle t
idle_may_break s t idle (inl e) = subst IsIdle (sym e) idle
idle_may_break s t idle (inr e) = subst IsIdle (sym e) (idle_broken s)

closes_idle : (s : SessionParts) (phase : Phase) → s.phase ≡ phase → IsIdle (close_in phase s).1
closes_idle s Down is = λ up. absurd (let e : Down ≡ Up = sym is ∙ up in cc)
closes_idle s Closed is = λ up. absurd (let e : Closed ≡ Up = sym is ∙ up in cc)
closes_idle s Up is =
    chosen (λ (answer : SessionAnswer StepParts). IsIdle answer.1) (may_write s)
    (answers (puts_fence (quietly (closing_up s)))) (refuses fault.NumbersSpent s)
    (λ on. λ up. absurd (let e : Closing ≡ Up = up in cc))
    (λ off. λ up. off)
closes_idle s LoggingOn is = λ up. absurd (let e : LoggingOn ≡ Up = sym is ∙ up in cc)
closes_idle s Settling is = λ up. absurd (let e : Settling ≡ Up = sym is ∙ up in cc)
closes_idle s Closing is = λ up. absurd (let e : Closing ≡ Up = sym is ∙ up in cc)
closes_idle s LoggedOut is = λ up. absurd (let e : LoggedOut ≡ Up = sym is ∙ up in cc)

-- a session that was to close, and didn't want memory for it
pub idle_closed : {Y : Type 0} (Is : StepParts → Y → Type 0) (s now : SessionParts) (y : Y)
    → Gives Is s (close s) (Ok y) now → IsIdle now
idle_closed Is s now y gives =
    subst IsIdle (sym (took_answer Is s now (close s) y gives)) (closes_idle s s.phase refl)

pub idle_refused : {Y : Type 0} (Is : StepParts → Y → Type 0) (s now : SessionParts) (why : SessionFault)
    → (why ≡ fault.OutOfMemory → ⊥) → Gives Is s (close s) (Err why) now → IsIdle now
idle_refused Is s now why other gives =
    subst IsIdle (sym (answered Is s now (close s) why other gives)) (closes_idle s s.phase refl)

-- the legs that a close withdraws
closes_none : (s : SessionParts) (phase : Phase) → named_in (added (close_in phase s)).0 ≡ []
closes_none s Down = refl
closes_none s Closed = refl
closes_none s Up =
    chosen (λ (answer : SessionAnswer StepParts). named_in (added answer).0 ≡ []) (may_write s)
    (answers (puts_fence (quietly (closing_up s)))) (refuses fault.NumbersSpent s) (λ on. refl) (λ off. refl)
closes_none s LoggingOn = refl
closes_none s Settling = refl
closes_none s Closing = refl
closes_none s LoggedOut = refl

none_closed_in : (w : Encoding) (s now : SessionParts) (answer : SessionAnswer StepParts) (stamp : StampParts) (step : Step)
    → named_in (added answer).0 ≡ [] → Gives (IsStep w stamp) s answer (Ok step) now → step.withdrawn ≡ []
none_closed_in w s now (Ok said, after) stamp step none gives = gives.0.withdrawn ∙ none
none_closed_in w s now (Err refused, after) stamp step none gives = absurd (let e = gives.0 in cc)

-- its step names none
pub none_closed : (w : Encoding) (s now : SessionParts) (stamp : StampParts) (step : Step)
    → Gives (IsStep w stamp) s (close s) (Ok step) now → step.withdrawn ≡ []
none_closed w s now stamp step gives = none_closed_in w s now (close s) stamp step (closes_none s s.phase) gives
