-- What comes over the link was written to it: so a history that goes by bytes may happen.
use Rattle.std.proofs.Common.{◌≡◌, ◌<◌, ◌⊎◌, ℕ, false, List, [], ◌∷◌, ◌++◌, map, Some, None, Ok, Err, refl, sym, ap, subst, ◌∙◌, inl, inr}
use Rattle.std.specs.Prelude.{IfOk, Option, Result}
use Rattle.std.specs.List.{AllByRecursion, Contains}
use Rattle.std.proofs.lemmas.List.{append-nil}
use Rattle.std.proofs.lemmas.List.Elements.{All-contains, All-from_recursion, Contains-append_left, Contains-append_right, Contains-push}
use Rattle.std.proofs.lemmas.Option.{IfSome_then}
use Rattle.fix_tags.specs.Config.{ConfigParts, IsConfig}
use Rattle.fix_tags.specs.declared.envelope.Envelope.{Envelope}
use Rattle.fix_tags.specs.declared.session_body.SessionBody.TheVariants.{Logon, Heartbeat, TestRequest, ResendRequest, Reject, GapFill, Reset, Logout, BusinessReject}
use Rattle.fix_tags.specs.declared.tag_fault.TagFault.{TagFault}
use Rattle.leg.specs.declared.leg.Leg.{Leg}
use Rattle.leg.specs.declared.placed_leg.PlacedLeg.{PlacedLeg}
use Rattle.dialect.specs.declared.content.Content.{Content}
use Rattle.dialect.specs.declared.content.Content.TheVariants.{Session, Order, ExecutionReport, Other}
use Rattle.dialect.specs.declared.message.Message.{Message}
use Rattle.dialect.specs.declared.outgoing.Outgoing.{Outgoing}
use Rattle.dialect.specs.Message.{decoded}
use Rattle.dialect.specs.OrderView.{OrderViewParts}
use Rattle.dialect.specs.Outgoing.{alone}
use Rattle.dialect.specs.Wording.{Decoding, Wording, IsWording}
use Rattle.dialect.specs.Writable.{IsWritable, IsWritableContent}
use Rattle.session_core.specs.declared.session_call.SessionCall.{SessionCall}
use Rattle.session_core.specs.declared.session_call.SessionCall.TheVariants as call
use Rattle.session_core.specs.Session.{SessionParts, new_session, is_connected}
use Rattle.session_core.specs.Sound.{IsSound, IsRead, IsReadContent, AreWritable}
use Rattle.session_core.specs.Turn.{StepParts}
use Rattle.session_core.specs.Calling.{SessionAnswer, connect, send_leg, quiet, silent, close, broken}
use Rattle.session_core.specs.Trial.{called, added, added_message, IsReadCall}
use Rattle.session_core.proofs.AnyCalls.{calls_sound}
use Rattle.session_core.proofs.Kept.{kept-receive}
use Rattle.session_core.proofs.Promised.{connect_writable, send_leg_writable, quiet_writable, silent_writable, close_writable}
use Rattle.session_core.proofs.Sound.{all-map, all-append, sound-new}
use Rattle.exchange_core.specs.Acceptance.{Carried, RuleState, rule_opening, May}
use Rattle.exchange_core.specs.Keeping.{carried}
use Rattle.venue_line.specs.Line.{Line, in_connection_of}
use Rattle.session_worker.specs.Ends.{WorkerLeft, last_calls, Runs}
use Rattle.session_worker.specs.Events.{WorkerEvent, WorkerParts, calls_of, leg_in, taken_of}
use Rattle.session_worker.specs.Events.WorkerEvent.{Calls, Drops, Fails}
use Rattle.session_worker.specs.Hearing.{Said, said_with, AreHeard}
use Rattle.session_worker.specs.Speaking.{Wire, messages_in, Speaks, Speak}
use Rattle.worker_line.specs.Happening.{VenueEvent, works_of, after_event, MayHear, MayAllHappen}
use Rattle.worker_line.specs.Happening.VenueEvent.{Works, Exchanges, Releases}
use Rattle.worker_line.specs.Wire.{SaysFirst, messages_of, HasWritten, written_with}
use Rattle.worker_line.specs.Coming.{Brings, AreFrom, HearsFrom, AllCome, ExchangeKeeps, LegsAreInRange, TheWireTheorem}
use Rattle.worker_line.specs.WorkerTheorem.{released_line, works_in, Ran}
use Rattle.worker_line.proofs.Frames.{the_frames_theorem}
use Rattle.worker_line.proofs.SameConnection.{IsWithin, called_on}
use Rattle.worker_line.proofs.Wire.{OnWire, has_written, on_step}

-- ---- what was read is among what was written

contains : {A : Type 0} (P : A → Type 0) (xs : List A) (x : A) → AllByRecursion P xs → Contains xs x → P x
contains P xs x all there = All-contains P xs x (All-from_recursion P xs all) there

-- an envelope that is among those that were read
each_ok : (P : Envelope → Type 0) (envelopes : List Envelope) → AllByRecursion P envelopes
    → AllByRecursion (λ (one : Result Envelope TagFault). (e : Envelope) → one ≡ Ok e → P e) (map (λ e. Ok e) envelopes)
each_ok P [] all = tt
each_ok P (first ∷ envelopes) all = (
  λ e is. let same : first ≡ e = cc in subst P same all.0,
  each_ok P envelopes all.1,
)

each_there : {A B : Type 0} (f : A → B) (xs : List A) → AllByRecursion (λ x. Contains (map f xs) (f x)) xs
each_there f [] = tt
each_there f (x ∷ xs) = (
  Contains-append_left (f x ∷ []) (map f xs) (f x) (Contains-push [] (f x)),
  all-map (λ y. Contains (map f xs) (f y)) (λ y. Contains (f x ∷ map f xs) (f y))
      (λ y there. Contains-append_right (f x ∷ []) (map f xs) (f y) there) xs (each_there f xs),
)

among : (read : Decoding) (written : List Message) (said : Said) (envelope : Envelope) → SaysFirst read written said
    → Contains said (Ok envelope) → Contains written (decoded read envelope)
among read written said envelope says there =
    let first : List Message = map (decoded read) says.envelopes in
    let Holds : Envelope → Type 0 = λ e. Contains first (decoded read e) in
    let all = each_ok Holds says.envelopes (each_there (decoded read) says.envelopes) in
    let found : Contains (map (λ e. Ok e) says.envelopes) (Ok envelope) =
    subst (λ (l : Said). Contains l (Ok envelope)) says.says there in
    let now : Contains first (decoded read envelope) =
    contains (λ (one : Result Envelope TagFault). (e : Envelope) → one ≡ Ok e → Holds e)
    (map (λ e. Ok e) says.envelopes) (Ok envelope) all found envelope refl in
    subst (λ (l : List Message). Contains l (decoded read envelope)) says.first.1
    (Contains-append_left first says.first.0 (decoded read envelope) now)

said_alone : (messages : List Message) → messages_of (map alone messages) ≡ messages
said_alone [] = refl
said_alone (m ∷ messages) = ap (λ l. m ∷ l) (said_alone messages)

outs_of : (P : Message → Type 0) (written : List Outgoing) → AllByRecursion (λ out. P out.message) written
    → AllByRecursion P (messages_of written)
outs_of P [] all = tt
outs_of P (out ∷ written) all = (all.0, outs_of P written all.1)

alone_writable : (messages : List Message) → AreWritable messages → AllByRecursion IsWritable (map alone messages)
alone_writable [] can = tt
alone_writable (m ∷ messages) can = (can.0, alone_writable messages can.1)

-- ---- what a session writes

-- what was written and is read is in the ranges that a session asks for
read_content : (beside : Option OrderViewParts) (content : Content) → IsWritableContent beside content
    → IsReadContent content
read_content beside (Session (Logon heart reset next)) can = can.1
read_content beside (Session (Heartbeat id)) can = tt
read_content beside (Session (TestRequest id)) can = can
read_content beside (Session (ResendRequest begin last)) can = tt
read_content beside (Session (Reject number)) can = tt
read_content beside (Session (GapFill new_number)) can = can
read_content beside (Session (Reset new_number)) can = tt
read_content beside (Session Logout) can = tt
read_content beside (Session (BusinessReject number)) can = tt
read_content beside (Order read) can = tt
read_content beside (ExecutionReport read) can = tt
read_content beside Other can = tt

read_in_range : (out : Outgoing) → IsWritable out → IsRead out.message
read_in_range out can =
    record { number = can.number_to; content = read_content out.beside out.message.content can.content }

step_writable : (answer : SessionAnswer StepParts) → IfOk answer.0 (λ step. AreWritable step.written)
    → AreWritable (messages_in (added answer).0)
step_writable (Ok step, after) can = can
step_writable (Err why, after) can = tt

message_writable : (answer : SessionAnswer Message) → IfOk answer.0 (λ m. IsWritable (alone m))
    → AreWritable (messages_in (added_message answer).0)
message_writable (Ok m, after) can = (can, tt)
message_writable (Err why, after) can = tt

called_writable : (read : Decoding) (s : SessionParts) (made : SessionCall) → IsSound s → IsReadCall read made
    → LegsAreInRange (leg_in made) → AreWritable (messages_in (called read s made).0)
called_writable read s call.Connect sound range legs = message_writable (connect s) (connect_writable s sound)
called_writable read s (call.SendLeg ordinal leg) sound range legs =
    message_writable (send_leg s ordinal leg) (send_leg_writable s ordinal leg sound legs.0)
called_writable read s (call.Receive envelope) sound range legs =
    (kept-receive s (decoded read envelope) sound range).written
called_writable read s call.Confirm sound range legs = tt
called_writable read s call.Quiet sound range legs = step_writable (quiet s) (quiet_writable s sound)
called_writable read s call.Silent sound range legs = step_writable (silent s) (silent_writable s sound)
called_writable read s call.Close sound range legs = step_writable (close s) (close_writable s sound)
called_writable read s call.Malformed sound range legs = tt
called_writable read s call.Broken sound range legs = tt
called_writable read s call.Abandon sound range legs = tt

-- a call is Connect, or another one
by_call : (P : SessionCall → Type 0) → P call.Connect → ((made : SessionCall) → IsWithin made → P made)
    → (made : SessionCall) → P made
by_call P connects others call.Connect = connects
by_call P connects others (call.SendLeg ordinal leg) = others (call.SendLeg ordinal leg) tt
by_call P connects others (call.Receive envelope) = others (call.Receive envelope) tt
by_call P connects others call.Confirm = others call.Confirm tt
by_call P connects others call.Quiet = others call.Quiet tt
by_call P connects others call.Silent = others call.Silent tt
by_call P connects others call.Close = others call.Close tt
by_call P connects others call.Malformed = others call.Malformed tt
by_call P connects others call.Broken = others call.Broken tt
by_call P connects others call.Abandon = others call.Abandon tt

written_within : (read : Decoding) (s : SessionParts) (written : List Message) (made : SessionCall) → IsWithin made
    → written_with read s written made ≡ written ++ messages_in (called read s made).0
written_within read s written call.Connect within = absurd within
written_within read s written (call.SendLeg ordinal leg) within = refl
written_within read s written (call.Receive envelope) within = refl
written_within read s written call.Confirm within = refl
written_within read s written call.Quiet within = refl
written_within read s written call.Silent within = refl
written_within read s written call.Close within = refl
written_within read s written call.Malformed within = refl
written_within read s written call.Broken within = refl
written_within read s written call.Abandon within = refl

-- ---- a line after a call

record AfterCall (read : Decoding) (a : Line) (s : SessionParts) (made : SessionCall) (b : Line) : Type 0 where
  session : b.session ≡ (called read s made).1
  to : b.to_exchange ≡ a.to_exchange ++ in_connection_of (called read s made).1 (messages_in (called read s made).0)
  from : b.from_exchange ≡ a.from_exchange
  exchange : b.exchange ≡ a.exchange

after_call : (read : Decoding) (a : Line) (made : SessionCall)
    → AfterCall read a a.session made (after_event read a (Works (Calls made)))
after_call read a (call.Receive envelope) = record { session = refl; to = refl; from = refl; exchange = refl }
after_call read a call.Confirm =
    record { session = refl; to = sym (append-nil a.to_exchange); from = refl; exchange = refl }
after_call read a call.Connect = record { session = refl; to = refl; from = refl; exchange = refl }
after_call read a (call.SendLeg ordinal leg) = record { session = refl; to = refl; from = refl; exchange = refl }
after_call read a call.Quiet = record { session = refl; to = refl; from = refl; exchange = refl }
after_call read a call.Silent = record { session = refl; to = refl; from = refl; exchange = refl }
after_call read a call.Close = record { session = refl; to = refl; from = refl; exchange = refl }
after_call read a call.Malformed = record { session = refl; to = refl; from = refl; exchange = refl }
after_call read a call.Broken = record { session = refl; to = refl; from = refl; exchange = refl }
after_call read a call.Abandon = record { session = refl; to = refl; from = refl; exchange = refl }

after_failure : (read : Decoding) (a : Line) (leg : PlacedLeg)
    → AfterCall read a a.session call.Broken (after_event read a (Works (Fails leg)))
after_failure read a leg =
    record { session = refl; to = sym (append-nil a.to_exchange); from = refl; exchange = refl }

-- ---- along a history

module _ (w : Wording) (laws : IsWording w) (before : ℕ) where
  -- a line whose session wrote this in its present connection, which is on the wire; and what came was written
  record Stands (came : Carried → Type 0) (a : Line) (s : SessionParts) (from : List Carried) (x : RuleState)
      (written : List Message) (later : List SessionCall) (wire : Wire) : Type 0 where
    session : a.session ≡ s
    from_is : a.from_exchange ≡ from
    exchange : a.exchange ≡ x
    sound : IsSound s
    on : OnWire w.encoding before s written later wire
    writable : AreWritable written
    there : AllByRecursion (λ m. Contains a.to_exchange (carried s.connection m)) written
    known : (m : Carried) → came m → Contains a.to_exchange m

  -- what a reader reads of the wire was written to the exchange
  brought : (to : List Carried) (s : SessionParts) (written : List Message) (wire : Wire) (m : Carried)
      → (before < s.connection → HasWritten w.encoding written wire) → AreWritable written
      → AllByRecursion (λ m. Contains to (carried s.connection m)) written → Brings w.decoding before s wire m → Contains to m
  brought to s written None m has can there brings = absurd brings
  brought to s written (Some []) m has can there brings = absurd brings
  brought to s written (Some (last ∷ others)) m has can there brings =
      let read = brings.2 in
      let says : SaysFirst w.decoding written read.said =
      subst (λ (l : List Message). SaysFirst w.decoding l read.said) (said_alone written)
      (the_frames_theorem w laws (map alone written) last.written read.said (alone_writable written can) (has brings.0)
      read.first) in
      let found : Contains written brings.1 =
      subst (λ (one : Message). Contains written one) read.is
      (among w.decoding written read.said read.envelope says read.there) in
      subst (λ (one : Carried). Contains to one) (sym brings.3)
      (contains (λ one. Contains to (carried s.connection one)) written brings.1 there found)

  -- a message that the session receives is one that the exchange wrote, and in range
  record IsOfExchange (s : SessionParts) (from : List Carried) (m : Message) : Type 0 where
    wrote : Contains from (carried s.connection m)
    range : IsRead m

  received : (s : SessionParts) (from : List Carried) (said : Said) (envelope : Envelope) (heard : Wire)
      → AreFrom w.encoding s from heard → AreHeard (said ++ Ok envelope ∷ []) heard
      → IsOfExchange s from (decoded w.decoding envelope)
  received s from said envelope None are hears = absurd are
  received s from said envelope (Some []) are hears = absurd are
  received s from said envelope (Some (last ∷ others)) are hears =
      let says =
      the_frames_theorem w laws are.written last.read (said ++ Ok envelope ∷ []) are.writable are.first hears in
      let m : Message = decoded w.decoding envelope in
      let found : Contains (messages_of are.written) m =
      among w.decoding (messages_of are.written) (said ++ Ok envelope ∷ []) envelope says
      (Contains-push said (Ok envelope)) in
      record {
        wrote = contains (λ one. Contains from (carried s.connection one)) (messages_of are.written) m
            (outs_of (λ one. Contains from (carried s.connection one)) are.written are.by_exchange) found;
        range = contains IsRead (messages_of are.written) m
            (outs_of IsRead are.written
            (all-map IsWritable (λ out. IsRead out.message) read_in_range are.written are.writable)) found;
      }

  hears_read : (s : SessionParts) (from : List Carried) (said : Said) (made : SessionCall) (later : List SessionCall)
      (wire after : Wire) (one : Speaks w s said made later wire after) → HearsFrom w.encoding s from made one.heard
      → IsReadCall w.decoding made
  hears_read s from said (call.Receive envelope) later wire after one hears =
      (received s from said envelope one.heard hears one.hears).range
  hears_read s from said call.Connect later wire after one hears = tt
  hears_read s from said (call.SendLeg ordinal leg) later wire after one hears = tt
  hears_read s from said call.Confirm later wire after one hears = tt
  hears_read s from said call.Quiet later wire after one hears = tt
  hears_read s from said call.Silent later wire after one hears = tt
  hears_read s from said call.Close later wire after one hears = tt
  hears_read s from said call.Malformed later wire after one hears = tt
  hears_read s from said call.Broken later wire after one hears = tt
  hears_read s from said call.Abandon later wire after one hears = tt

  may_hear : (a : Line) (s : SessionParts) (from : List Carried) (said : Said) (made : SessionCall)
      (later : List SessionCall) (wire after : Wire) (one : Speaks w s said made later wire after) → a.session ≡ s
      → a.from_exchange ≡ from → HearsFrom w.encoding s from made one.heard → MayHear w.decoding a (Calls made)
  may_hear a s from said (call.Receive envelope) later wire after one session from_is hears =
      subst (λ (t : SessionParts). Contains a.from_exchange (carried t.connection (decoded w.decoding envelope)))
      (sym session)
      (subst (λ (l : List Carried). Contains l (carried s.connection (decoded w.decoding envelope))) (sym from_is)
      (received s from said envelope one.heard hears one.hears).wrote)
  may_hear a s from said call.Connect later wire after one session from_is hears = tt
  may_hear a s from said (call.SendLeg ordinal leg) later wire after one session from_is hears = tt
  may_hear a s from said call.Confirm later wire after one session from_is hears = tt
  may_hear a s from said call.Quiet later wire after one session from_is hears = tt
  may_hear a s from said call.Silent later wire after one session from_is hears = tt
  may_hear a s from said call.Close later wire after one session from_is hears = tt
  may_hear a s from said call.Malformed later wire after one session from_is hears = tt
  may_hear a s from said call.Broken later wire after one session from_is hears = tt
  may_hear a s from said call.Abandon later wire after one session from_is hears = tt

  -- what is written in the present connection, after a call
  writable_with : (s : SessionParts) (written : List Message) (made : SessionCall) → AreWritable written
      → AreWritable (messages_in (called w.decoding s made).0) → AreWritable (written_with w.decoding s written made)
  writable_with s written =
      by_call (λ made. AreWritable written → AreWritable (messages_in (called w.decoding s made).0)
      → AreWritable (written_with w.decoding s written made))
      (λ old now. now)
      (λ made within old now. subst AreWritable (sym (written_within w.decoding s written made within))
      (all-append (λ m. IsWritable (alone m)) written (messages_in (called w.decoding s made).0) old now))

  now_there : (to : List Carried) (t : SessionParts) (ms : List Message)
      → AllByRecursion (λ m. Contains (to ++ in_connection_of t ms) (carried t.connection m)) ms
  now_there to t ms =
      all-map (λ m. Contains (in_connection_of t ms) (carried t.connection m))
      (λ m. Contains (to ++ in_connection_of t ms) (carried t.connection m))
      (λ m there. Contains-append_right to (in_connection_of t ms) (carried t.connection m) there) ms
      (each_there (carried t.connection) ms)

  there_with : (to : List Carried) (s : SessionParts) (written : List Message) (made : SessionCall)
      → AllByRecursion (λ m. Contains to (carried s.connection m)) written
      → AllByRecursion
      (λ m. Contains (to ++ in_connection_of (called w.decoding s made).1 (messages_in (called w.decoding s made).0))
      (carried (called w.decoding s made).1.connection m)) (written_with w.decoding s written made)
  there_with to s written =
      by_call (λ made. AllByRecursion (λ m. Contains to (carried s.connection m)) written
      → AllByRecursion
      (λ m. Contains (to ++ in_connection_of (called w.decoding s made).1 (messages_in (called w.decoding s made).0))
      (carried (called w.decoding s made).1.connection m)) (written_with w.decoding s written made))
      (λ old. now_there to (called w.decoding s call.Connect).1 (messages_in (called w.decoding s call.Connect).0))
      (λ made within old.
      let t : SessionParts = (called w.decoding s made).1 in
      let ms : List Message = messages_in (called w.decoding s made).0 in
      let P : Message → Type 0 = λ m. Contains (to ++ in_connection_of t ms) (carried t.connection m) in
      subst (AllByRecursion P) (sym (written_within w.decoding s written made within))
      (all-append P written ms
      (all-map (λ m. Contains to (carried s.connection m)) P
      (λ m there. Contains-append_left to (in_connection_of t ms) (carried t.connection m)
      (subst (λ (c : ℕ). Contains to (carried c m)) (sym (called_on w.decoding s made within)) there)) written old)
      (now_there to t ms)))

  stands_step : (came : Carried → Type 0) (a b : Line) (s : SessionParts) (from : List Carried) (x : RuleState)
      (said : Said) (written : List Message) (made : SessionCall) (later : List SessionCall) (wire after : Wire)
      → Stands came a s from x written (made ∷ later) wire → Speaks w s said made later wire after
      → AfterCall w.decoding a s made b → IsReadCall w.decoding made → LegsAreInRange (leg_in made)
      → Stands (λ m. came m ⊎ Brings w.decoding before (called w.decoding s made).1 after m) b (called w.decoding s made).1
      from x (written_with w.decoding s written made) later after
  stands_step came a b s from x said written made later wire after stands one next range legs =
      let t : SessionParts = (called w.decoding s made).1 in
      let ms : List Message = messages_in (called w.decoding s made).0 in
      let all : List Message = written_with w.decoding s written made in
      let on : OnWire w.encoding before t all later after = on_step w before s said written made later wire after stands.on one in
      let can : AreWritable all =
      writable_with s written made stands.writable (called_writable w.decoding s made stands.sound range legs) in
      let there : AllByRecursion (λ m. Contains b.to_exchange (carried t.connection m)) all =
      subst (λ (l : List Carried). AllByRecursion (λ m. Contains l (carried t.connection m)) all) (sym next.to)
      (there_with a.to_exchange s written made stands.there) in
      record {
        session = next.session;
        from_is = next.from ∙ stands.from_is;
        exchange = next.exchange ∙ stands.exchange;
        sound = calls_sound w.decoding s (made ∷ []) stands.sound (range, tt);
        on = on;
        writable = can;
        there = there;
        known = λ m came_so. elim came_so [
          | inl old ↦ subst (λ (l : List Carried). Contains l m) (sym next.to)
              (Contains-append_left a.to_exchange (in_connection_of t ms) m (stands.known m old))
          | inr brings ↦ brought b.to_exchange t all after m
              (λ begun. has_written w.encoding before t all later after begun on) can there brings
        ];
      }

  front_of : (first more : List PlacedLeg) → LegsAreInRange (first ++ more)
      → LegsAreInRange first × LegsAreInRange more
  front_of [] more all = (tt, all)
  front_of (leg ∷ first) more all = let rest = front_of first more all.1 in ((all.0, rest.0), rest.1)

  may_happen : (came : Carried → Type 0) (a : Line) (s : SessionParts) (from : List Carried) (x : RuleState)
      (said : Said) (written : List Message) (events : List VenueEvent) (wire after : Wire)
      (speak : Speak w s said (calls_of (works_of events)) wire after)
      → Stands came a s from x written (calls_of (works_of events)) wire → LegsAreInRange (taken_of (works_of events))
      → AllCome w before came s said from events wire after speak → ExchangeKeeps x events → MayAllHappen w.decoding a events
  may_happen came a s from x said written [] wire after speak stands legs come keeps = tt
  may_happen came a s from x said written (Works (Calls made) ∷ events) wire after speak stands legs come keeps =
      let b = after_event w.decoding a (Works (Calls made)) in
      let later = calls_of (works_of events) in
      let parts = front_of (leg_in made) (taken_of (works_of events)) legs in
      let next : AfterCall w.decoding a s made b =
      subst (λ (t : SessionParts). AfterCall w.decoding a t made b) stands.session (after_call w.decoding a made) in (
        may_hear a s from said made later wire speak.0 speak.1 stands.session stands.from_is come.0,
        may_happen (λ m. came m ⊎ Brings w.decoding before (called w.decoding s made).1 speak.0 m) b
            (called w.decoding s made).1 from x (said_with said made) (written_with w.decoding s written made) events
            speak.0 after speak.2
            (stands_step came a b s from x said written made later wire speak.0 stands speak.1 next
            (hears_read s from said made later wire speak.0 speak.1 come.0) parts.0) parts.1 come.1 keeps,
      )
  may_happen came a s from x said written (Works (Drops leg) ∷ events) wire after speak stands legs come keeps = (
    tt,
    may_happen came (after_event w.decoding a (Works (Drops leg))) s from x said written events wire after speak
        (record {
          session = stands.session;
          from_is = stands.from_is;
          exchange = stands.exchange;
          sound = stands.sound;
          on = stands.on;
          writable = stands.writable;
          there = stands.there;
          known = stands.known;
        }) legs.1 come keeps,
  )
  may_happen came a s from x said written (Works (Fails leg) ∷ events) wire after speak stands legs come keeps =
      let b = after_event w.decoding a (Works (Fails leg)) in
      let later = calls_of (works_of events) in
      let next : AfterCall w.decoding a s call.Broken b =
      subst (λ (t : SessionParts). AfterCall w.decoding a t call.Broken b) stands.session
      (after_failure w.decoding a leg) in
      let all : List Message = written_with w.decoding s written call.Broken in
      let done =
      stands_step came a b s from x said written call.Broken later wire speak.0 stands speak.1 next tt tt in (
        tt,
        may_happen came b (broken s) from x said all events speak.0 after speak.2
            (record {
              session = done.session;
              from_is = done.from_is;
              exchange = done.exchange;
              sound = done.sound;
              on = done.on;
              writable = done.writable;
              there = done.there;
              known = λ m old. done.known m (inl old);
            }) legs.1 come keeps,
      )
  may_happen came a s from x said written (Exchanges coming t more ∷ events) wire after speak stands legs come keeps = (
    (
      IfSome_then coming come.0 stands.known,
      subst (λ (y : RuleState). May y coming t more) (sym stands.exchange) keeps.0,
    ),
    may_happen came (after_event w.decoding a (Exchanges coming t more)) s (from ++ more) t said written events wire
        after speak
        (record {
          session = stands.session;
          from_is = ap (λ (l : List Carried). l ++ more) stands.from_is;
          exchange = refl;
          sound = stands.sound;
          on = stands.on;
          writable = stands.writable;
          there = stands.there;
          known = stands.known;
        }) legs come.1 keeps.1,
  )
  may_happen came a s from x said written (Releases released ∷ events) wire after speak stands legs come keeps = (
    tt,
    may_happen came (after_event w.decoding a (Releases released)) s from x said written events wire after speak
        (record {
          session = stands.session;
          from_is = stands.from_is;
          exchange = stands.exchange;
          sound = stands.sound;
          on = stands.on;
          writable = stands.writable;
          there = stands.there;
          known = stands.known;
        }) legs come keeps,
  )

  -- ---- from the start

  -- a line whose session has no connection, and has begun so many
  stands_from : (a : Line) (s : SessionParts) (later : List SessionCall) (wire : Wire) → a.session ≡ s → IsSound s
      → is_connected s.phase ≡ false → s.connection ≡ before
      → Stands (Contains a.to_exchange) a s a.from_exchange a.exchange [] later wire
  stands_from a s later wire session sound off same = record {
    session = session;
    from_is = refl;
    exchange = refl;
    sound = sound;
    on = inr (inr (inl off, same));
    writable = tt;
    there = tt;
    known = λ m there. there;
  }

start_stands : (w : Wording) (laws : IsWording w) (config : ConfigParts) (legs : List Leg) (later : List SessionCall)
    (wire : Wire) → IsConfig config
    → Stands w laws 0 (λ m. ⊥) (released_line config legs) (new_session config) [] rule_opening [] later wire
start_stands w laws config legs later wire good = record {
  session = refl;
  from_is = refl;
  exchange = refl;
  sound = sound-new config good;
  on = inr (inr (inl refl, refl));
  writable = tt;
  there = tt;
  known = λ m none. absurd none;
}

-- so of every line whose session has no connection: where what comes by the bytes came, and the exchange keeps the
-- rules, all of it may happen
pub happens_from : (w : Wording) → IsWording w → (a : Line) (s : SessionParts) (events : List VenueEvent)
    (wire after : Wire) (speak : Speak w s [] (calls_of (works_of events)) wire after) → a.session ≡ s → IsSound s
    → is_connected s.phase ≡ false → LegsAreInRange (taken_of (works_of events))
    → AllCome w s.connection (Contains a.to_exchange) s [] a.from_exchange events wire after speak
    → ExchangeKeeps a.exchange events → MayAllHappen w.decoding a events
happens_from w laws a s events wire after speak session sound off range come keeps =
    may_happen w laws s.connection (Contains a.to_exchange) a s a.from_exchange a.exchange [] [] events wire after speak
    (stands_from w laws s.connection a s (calls_of (works_of events)) wire session sound off refl) range come keeps

calls_append : (first more : List WorkerEvent) → calls_of (first ++ more) ≡ calls_of first ++ calls_of more
calls_append [] more = refl
calls_append (Calls made ∷ first) more = ap (λ l. made ∷ l) (calls_append first more)
calls_append (Drops leg ∷ first) more = calls_append first more
calls_append (Fails leg ∷ first) more = ap (λ l. call.Broken ∷ l) (calls_append first more)

drops_call_none : (legs : List PlacedLeg) → calls_of (map (λ leg. Drops leg) legs) ≡ []
drops_call_none [] = refl
drops_call_none (leg ∷ legs) = drops_call_none legs

-- the calls of a run, beside the legs that were dropped at its end
calls_run : (turns last : List WorkerEvent) (dropped : List PlacedLeg)
    → calls_of (turns ++ (last ++ map (λ leg. Drops leg) dropped)) ≡ calls_of (turns ++ last)
calls_run turns last dropped =
    calls_append turns (last ++ map (λ leg. Drops leg) dropped)
    ∙ (ap (λ l. calls_of turns ++ l) (calls_append last (map (λ leg. Drops leg) dropped)
    ∙ (ap (λ l. calls_of last ++ l) (drops_call_none dropped) ∙ append-nil (calls_of last)))
    ∙ sym (calls_append turns last))

-- a run speaks over its link
pub run_speaks : (w : Wording) (before : WorkerParts) (left : WorkerLeft) (runs : Runs w before left)
    (events : List VenueEvent) → works_of events ≡ works_in runs → is_connected before.session.phase ≡ false
    → Speak w before.session [] (calls_of (works_of events)) before.wire left.parts.wire
run_speaks w before left runs events works off =
    let last = last_calls runs.at.session.phase in
    let same : calls_of (runs.turns ++ last) ≡ calls_of (works_of events) =
    sym (ap calls_of works ∙ calls_run runs.turns last runs.dropped) in
    subst (λ (l : List SessionCall). Speak w before.session [] l before.wire left.parts.wire) same (runs.bytes off)

ran_speaks : (w : Wording) (config : ConfigParts) (events : List VenueEvent) (after : WorkerParts)
    (ran : Ran w config events after)
    → Speak w (new_session config) [] (calls_of (works_of events)) ran.before.wire after.wire
ran_speaks w config events after ran =
    let off : is_connected ran.before.session.phase ≡ false =
    ap (λ (s : SessionParts). is_connected s.phase) ran.new in
    subst (λ (s : SessionParts). Speak w s [] (calls_of (works_of events)) ran.before.wire after.wire) ran.new
    (run_speaks w ran.before (record { parts = after; reason = ran.why }) ran.runs events ran.works off)

pub the_wire_theorem : (w : Wording) → IsWording w → TheWireTheorem w
the_wire_theorem w laws config legs events after good ran range =
    let speak = ran_speaks w config events after ran in
    let wire : Wire = ran.before.wire in
    record {
      speak = speak;
      happens = λ come keeps.
          may_happen w laws 0 (λ m. ⊥) (released_line config legs) (new_session config) [] rule_opening [] [] events wire
          after.wire speak (start_stands w laws config legs (calls_of (works_of events)) wire good) range come keeps;
    }
