-- What a session did over its link, where each call was told.
use Rattle.std.proofs.Common.{◌≡◌, ℕ, Bool, true, false, List, [], ◌∷◌, ◌++◌, length, refl, sym, ap, subst, ◌∙◌, inl, inr, arith}
use Rattle.std.proofs.lemmas.List.{append-nil}
use Rattle.link.proofs.Taking.{tells_nothing}
use Rattle.std.specs.List.{concat}
use Rattle.std.specs.Prelude.{Ok, Err}
use Rattle.std.specs.Global.{Vec}
use Rattle.leg.specs.declared.placed_leg.PlacedLeg.{PlacedLeg}
use Rattle.fix_text.specs.Reading.{Stream}
use Rattle.fix_text.specs.Calls.{new_stream}
use Rattle.fix_tags.specs.Stamp.{StampParts}
use Rattle.dialect.specs.declared.message.Message.{Message}
use Rattle.dialect.specs.Framed.{IsFramed}
use Rattle.dialect.specs.Wording.{Wording}
use Rattle.dialect.specs.Outgoing.{alone}
use Rattle.link.specs.Traffic.{Tells, Dials, Takes, TakesPart, Stays}
use Rattle.session_core.specs.declared.session_call.SessionCall.TheVariants as call
use Rattle.session_core.specs.declared.session_fault.SessionFault.{SessionFault}
use Rattle.session_core.specs.declared.session_fault.SessionFault.TheVariants as fault
use Rattle.session_core.specs.declared.session_call.SessionCall.{SessionCall}
use Rattle.session_core.specs.declared.step.Step.{Step}
use Rattle.session_core.specs.Session.{SessionParts, is_connected}
use Rattle.session_core.specs.Turn.{StepParts}
use Rattle.session_core.specs.Calling.{SessionAnswer, connect, send_leg, broken}
use Rattle.session_core.specs.Trial.{added, called, after_calls}
use Rattle.session_core.specs.CallResult.{Gives, IsStep}
use Rattle.session_worker.specs.Hearing.{Said, said_with, Hears}
use Rattle.session_worker.specs.Speaking.{Wire}
use Rattle.session_worker.specs.Events.{WorkerEvent, calls_in}
use Rattle.session_worker.specs.Events.WorkerEvent.{Calls, Fails}
use Rattle.session_worker.specs.Keeping.{Told, TellsEvents}
use Rattle.session_worker.specs.Linking.{SessionIoParts, io_of, StandsStill, SpeaksOn, Writes, Moves, Hands, IsPlain, Asks, calling}
use Rattle.session_worker.proofs.Told.{tells_none, tells_on, tells_then, tells_last, tells_same, tells_from}
use Rattle.session_worker.proofs.Spoken.{stays_here, stays_last}
use Rattle.session_worker.proofs.Speech.{stays_first, stays_on}
use Rattle.session_worker.proofs.Calling.{speaks_same, speaks_then, moves_refused, moves_connected, moves_not_connected, moves_given_up, hands_sent, hands_refused, asks_step}

-- no frame
pub writes_none : (frames : List (List ℕ)) (x : SessionIoParts) → length frames ≡ 0 → Writes (concat frames) x x
writes_none [] x none = inl (refl, tells_nothing x.wire, tells_none x.told x.told refl)
writes_none (frame ∷ frames) x none = absurd (omega arith)

-- all that was told is kept, and then the bytes were written
pub writes_kept : (bytes : List ℕ) (x m y : SessionIoParts) → StandsStill [] x m → y.session ≡ m.session
    → Tells m.wire y.wire (Takes bytes) → y.told ≡ m.told → Writes bytes x y
writes_kept bytes x m y still same takes told = inl (
  same ∙ still.session,
  stays_first (Takes bytes) x.wire m.wire y.wire still.wire takes,
  tells_same x.told m.told y.told [] still.told told,
)

-- or the first of them, and the connection was given up
pub writes_failed : (bytes : List ℕ) (x m n y : SessionIoParts) → StandsStill [] x m → n.session ≡ m.session
    → Tells m.wire n.wire (TakesPart bytes) → n.told ≡ m.told → y.session ≡ broken n.session
    → Tells n.wire y.wire Stays → TellsEvents n.told (Calls call.Broken ∷ []) y.told → Writes bytes x y
writes_failed bytes x m n y still same part told gone stays tells = inr (
  gone ∙ ap broken (same ∙ still.session),
  stays_last (TakesPart bytes) x.wire n.wire y.wire
      (stays_first (TakesPart bytes) x.wire m.wire n.wire still.wire part) stays,
  tells_then x.told m.told y.told (Calls call.Broken ∷ []) still.told
      (tells_from m.told n.told y.told (Calls call.Broken ∷ []) told tells),
)

-- the session logged on, and that was told
pub connected_told : (w : Wording) (s now : SessionParts) (stamp : StampParts) (frame : Vec ℕ) (a b : Wire)
    (x z : Stream) (t : Told) (m y : SessionIoParts)
    → Gives (λ (l : Message) (bytes : Vec ℕ). IsFramed w.encoding stamp (alone l) bytes.items) s (connect s) (Ok frame) now
    → Tells a b Dials → StandsStill (Calls call.Connect ∷ []) (io_of now b z t) m → Writes frame.items m y
    → y.stream ≡ new_stream → Moves w (io_of s a x t) y
connected_told w s now stamp frame a b x z t m y gives dials still wrote fresh =
    moves_connected w s now stamp frame a m.wire x m.stream t m.told y gives
    (stays_last Dials a b m.wire dials still.wire) still.told
    (subst (λ (l : SessionParts). Writes frame.items (io_of l m.wire m.stream m.told) y) still.session wrote) fresh

-- or refused to, for want of a number
pub not_connected_told : {Y : Type 0} (Is : Message → Y → Type 0) (w : Wording) (s now : SessionParts)
    (why : SessionFault) (a b : Wire) (x z : Stream) (t : Told) (m y : SessionIoParts) → (why ≡ fault.OutOfMemory → ⊥)
    → Gives Is s (connect s) (Err why) now → Tells a b Dials → StandsStill (Calls call.Connect ∷ []) (io_of now b z t) m
    → y.session ≡ m.session → Tells m.wire y.wire Stays → y.told ≡ m.told → y.stream ≡ new_stream
    → Moves w (io_of s a x t) y
not_connected_told Is w s now why a b x z t m y other gives dials still same stays told fresh =
    moves_not_connected Is w s now why a b x t y other gives dials (same ∙ still.session)
    (stays_on b m.wire y.wire still.wire stays) fresh
    (tells_same t m.told y.told (Calls call.Connect ∷ []) still.told told)

-- or refused to, and the connection was given up
pub given_up_told : {Y : Type 0} (Is : Message → Y → Type 0) (w : Wording) (s now : SessionParts)
    (why : SessionFault) (a b : Wire) (x z : Stream) (t : Told) (m y : SessionIoParts) → (why ≡ fault.OutOfMemory → ⊥)
    → Gives Is s (connect s) (Err why) now → Tells a b Dials → StandsStill (Calls call.Connect ∷ []) (io_of now b z t) m
    → y.session ≡ broken m.session → Tells m.wire y.wire Stays → TellsEvents m.told (Calls call.Broken ∷ []) y.told
    → Moves w (io_of s a x t) y
given_up_told Is w s now why a b x z t m y other gives dials still gone stays tells =
    moves_given_up Is w s now why a b x t m.told y other gives dials still.told (gone ∙ ap broken still.session)
    (stays_on b m.wire y.wire still.wire stays) tells

-- a leg was sent, and that was told
pub sent_told : (w : Wording) (leg : PlacedLeg) (s now : SessionParts) (stamp : StampParts) (frame : Vec ℕ) (a : Wire)
    (x : Stream) (t : Told) (m y : SessionIoParts)
    → Gives (λ (l : Message) (bytes : Vec ℕ). IsFramed w.encoding stamp (alone l) bytes.items) s
    (send_leg s leg.ordinal leg.leg) (Ok frame) now
    → StandsStill (Calls (call.SendLeg leg.ordinal leg.leg) ∷ []) (io_of now a x t) m → Writes frame.items m y
    → y.stream ≡ m.stream → Hands w leg true (io_of s a x t) y
sent_told w leg s now stamp frame a x t m y gives still wrote stream =
    hands_sent w leg s now stamp frame a m.wire x t m.told y gives still.wire still.told
    (subst (λ (l : SessionParts). Writes frame.items (io_of l m.wire x m.told) y) still.session wrote)
    (stream ∙ still.stream)

-- or refused, which was told too
pub refused_told : {Y : Type 0} (Is : Message → Y → Type 0) (w : Wording) (leg : PlacedLeg) (s now : SessionParts)
    (why : SessionFault) (a : Wire) (x : Stream) (t : Told) (y : SessionIoParts) → (why ≡ fault.OutOfMemory → ⊥)
    → Gives Is s (send_leg s leg.ordinal leg.leg) (Err why) now
    → StandsStill (Calls (call.SendLeg leg.ordinal leg.leg) ∷ []) (io_of now a x t) y
    → Hands w leg false (io_of s a x t) y
refused_told Is w leg s now why a x t y other gives still =
    let made : Hands w leg false (io_of s a x t) (io_of now y.wire x y.told) =
    hands_refused Is w leg s now why a y.wire x t y.told other gives still.wire still.told in
    let from : Hands w leg false (io_of s a x t) (io_of y.session y.wire x y.told) =
    subst (λ (l : SessionParts). Hands w leg false (io_of s a x t) (io_of l y.wire x y.told)) (sym still.session) made in
    subst (λ (l : Stream). Hands w leg false (io_of s a x t) (io_of y.session y.wire l y.told)) (sym still.stream) from

-- a call gave a step, and that was told
pub asked_told : (w : Wording) (x : SessionIoParts) (now : SessionParts) (made : SessionCall)
    (answer : SessionAnswer StepParts) (stamp : StampParts) (step : Step) (y : SessionIoParts) → IsPlain made
    → called w.decoding x.session made ≡ added answer
    → ((said : Said) → Hears said made x.wire) → ((said : Said) → said_with said made ≡ said)
    → (is_connected answer.1.phase ≡ true → is_connected x.session.phase ≡ true)
    → Gives (IsStep w.encoding stamp) x.session answer (Ok step) now
    → StandsStill (Calls made ∷ []) (io_of now x.wire x.stream x.told) y → Asks w x step y
asked_told w x now made answer stamp step y plain is hears same back gives still =
    asks_step w x.session now made answer stamp step x y refl still.session plain is hears same back gives still.wire
    still.stream still.told

-- a call was refused, and that was told
pub refused_step_told : {Y : Type 0} (Is : StepParts → Y → Type 0) (w : Wording) (x : SessionIoParts)
    (now : SessionParts) (made : SessionCall) (answer : SessionAnswer StepParts) (why : SessionFault) (y : SessionIoParts)
    → IsPlain made → (why ≡ fault.OutOfMemory → ⊥) → called w.decoding x.session made ≡ added answer
    → ((said : Said) → Hears said made x.wire) → ((said : Said) → said_with said made ≡ said)
    → (is_connected answer.1.phase ≡ true → is_connected x.session.phase ≡ true)
    → Gives Is x.session answer (Err why) now
    → StandsStill (Calls made ∷ []) (io_of now x.wire x.stream x.told) y → Moves w x y
refused_step_told Is w x now made answer why y plain other is hears same back gives still =
    moves_refused Is w x y made answer why plain other is hears same back
    (subst (λ (l : SessionParts). Gives Is x.session answer (Err why) l) (sym still.session) gives)
    still.wire still.stream still.told

-- ---- the session is as it was

pub still_here : (x : SessionIoParts) → StandsStill [] x x
still_here x = record { session = refl; wire = stays_here x.wire; stream = refl; told = tells_none x.told x.told refl }

pub still_same : (x y : SessionIoParts) → y ≡ x → StandsStill [] x y
still_same x y same = subst (λ (z : SessionIoParts). StandsStill [] x z) (sym same) (still_here x)

pub still_on : (x y z : SessionIoParts) (first more : List WorkerEvent) → StandsStill first x y → StandsStill more y z
    → StandsStill (first ++ more) x z
still_on x y z first more one next = record {
  session = next.session ∙ one.session;
  wire = stays_on x.wire y.wire z.wire one.wire next.wire;
  stream = next.stream ∙ one.stream;
  told = tells_on x.told y.told z.told first more one.told next.told;
}

-- what calls said stays said
speaks_still : (w : Wording) (x m y : SessionIoParts) (calls : List SessionCall)
    → m.session ≡ after_calls w.decoding x.session calls → SpeaksOn w x calls m → m.session ≡ y.session
    → Tells m.wire y.wire Stays → y.stream ≡ m.stream → SpeaksOn w x calls y
speaks_still w x m y calls session speaks same wire stream =
    subst (λ (l : List SessionCall). SpeaksOn w x l y) (append-nil calls)
    (speaks_then w x m y calls [] session speaks (speaks_same w m y (sym same) wire stream))

-- a leg was handed to the session, and then all that was told was kept
pub hands_still : (w : Wording) (leg : PlacedLeg) (sent : Bool) (x m y : SessionIoParts) → Hands w leg sent x m
    → StandsStill [] m y → Hands w leg sent x y
hands_still w leg sent x m y hands still = record {
  event = hands.event;
  of_leg = hands.of_leg;
  calls = hands.calls;
  session = still.session ∙ hands.session;
  no_leg = hands.no_leg;
  no_note = hands.no_note;
  withdraws = hands.withdraws;
  speaks = speaks_still w x m y (calls_in hands.event ++ hands.calls) hands.session hands.speaks (sym still.session)
      still.wire still.stream;
  tells = tells_last x.told m.told y.told (hands.event ∷ calling hands.calls) hands.tells still.told;
}
