-- A venue after a frame came to its exchange: what is read of its frames, and what it keeps.
use Rattle.std.proofs.Common.{◌≡◌, ◌==◌, Bool, true, false, ℕ, zero, suc, ◌⊎◌, inl, inr, List, [], ◌∷◌, ◌++◌, Option, Some, None, Ok, Err, refl, sym, ap, subst, ◌∙◌}
use Rattle.std.specs.Prelude.{IfSome, slice_get}
use Rattle.std.specs.Option.{option_map}
use Rattle.std.specs.Global.{Vec}
use Rattle.std.specs.List.{AllByRecursion}
use Rattle.std.proofs.lemmas.List.{append-nil}
use Rattle.std.proofs.lemmas.Option.{same_Some, slice_get-map}
use Rattle.fix_text.specs.Reading.{NextFrame, next_read}
use Rattle.leg.specs.Numbered.{numbered}
use Rattle.dialect.specs.OrderView.{OrderViewParts}
use Rattle.dialect.specs.declared.content.Content.{Content}
use Rattle.dialect.specs.declared.content.Content.TheVariants.{Session, Order, ExecutionReport, Other}
use Rattle.fix_tags.specs.declared.session_body.SessionBody.TheVariants.{Logon, Heartbeat, TestRequest, ResendRequest, Reject, GapFill, Reset, Logout, BusinessReject}
use Rattle.dialect.specs.declared.message.Message.{Message}
use Rattle.dialect.specs.declared.outgoing.Outgoing.{Outgoing}
use Rattle.dialect.specs.Framed.{AreFramed}
use Rattle.dialect.specs.Wording.{Decoding, Encoding}
use Rattle.dialect.specs.Writable.{IsWritable, IsWritableContent}
use Rattle.dialect.proofs.FrameBack.{Agrees, frame_back}
use Rattle.exchange_core.specs.declared.exchange_fault.ExchangeFault.{ExchangeFault}
use Rattle.exchange_core.specs.declared.live_connection.LiveConnection.{LiveConnection}
use Rattle.exchange_core.specs.Exchange.{ExchangeParts, Answer, live_connection, with_connection, logon_answer, due_taken, asks, received, take, drop_connection}
use Rattle.exchange_core.specs.Frames.{bytes_of, TakeGives}
use Rattle.exchange_core.specs.Keeping.{IsFillInRange}
use Rattle.exchange_core.specs.Sound as exchange
use Rattle.exchange_core.proofs.Promises.{take_is_sound, drop_is_sound}
use Rattle.exchange_core.proofs.Written.{take_said}
use Rattle.exchange_core.proofs.Cases.{IsLive, by_number_is, take_is}
use Rattle.session_core.specs.Session.{SessionParts}
use Rattle.session_core.specs.Sound as session
use Rattle.schedule.specs.declared.event.Event.TheVariants as event
use Rattle.schedule.specs.World as world
use Rattle.schedule.specs.World.{World, VenueParts, venue_in}
use Rattle.schedule.specs.Happening.{with_venue, to_exchange, happens}
use Rattle.venue_replay.specs.declared.frame.Frame.{Frame}
use Rattle.venue_replay.specs.Network.{moment, stream_of, said_by, said_in, all_said, IsWritten}
use Rattle.venue_replay.specs.AtVenue.{written_in}
use Rattle.venue_replay.specs.Delivering.{IsMessage, IsFrameOfMessage, taken}
use Rattle.venue_replay.specs.Kept.{last_connection, IsKept}
use Rattle.venue_replay.proofs.FramesRead.{reads, said_more, all_more}
use Rattle.venue_replay.proofs.ExchangeWrites.{said_written, are_written, last_none, last_written, if_some, some_if}
use Rattle.venue_replay.proofs.WorldAfter.{at_there, with_same}

-- the frame of a number
pub numbered_said : (r : Decoding) (number : ℕ) (frames : List Frame)
    → numbered number (all_said r frames) ≡ option_map (said_in r) (numbered number frames)
numbered_said r zero frames = refl
numbered_said r (suc before) frames = slice_get-map (said_in r) frames before

all_at : {A : Type 0} (P : A → Type 0) (xs : List A) (k : ℕ) (x : A) → AllByRecursion P xs → slice_get xs k ≡ Some x → P x
all_at P [] k x all is = absurd cc
all_at P (y ∷ ys) zero x all is = let same : x ≡ y = cc in subst P (sym same) all.0
all_at P (y ∷ ys) (suc k) x all is = all_at P ys k x all.1 is

pub written_at : (w : Encoding) (number : ℕ) (frames : List Frame) (frame : Frame) → AllByRecursion (IsWritten w) frames
    → numbered number frames ≡ Some frame
    → IsWritten w frame
written_at w zero frames frame all is = absurd cc
written_at w (suc before) frames frame all is = all_at (IsWritten w) frames before frame all is

-- it is the frame of a message
pub is_frame : (w : Encoding) (r : Decoding) → Agrees w r → (frame : Frame) → IsWritten w frame
    → IsFrameOfMessage (next_read (stream_of frame.bytes.items)).frame
is_frame w r agrees frame is =
    let bytes = frame.bytes.items in
    let back = frame_back w r moment is.out bytes [] (stream_of bytes) agrees is.writable is.framed (sym (append-nil bytes)) in
    subst IsFrameOfMessage (sym (ap (λ (next : NextFrame). next.frame) back.next)) (subst IsMessage (sym back.is_read) tt)

-- what was written and is read is in the ranges that the two ends ask for
session_reads : (beside : Option OrderViewParts) (content : Content) → IsWritableContent beside content → session.IsReadContent content
session_reads beside (Session (Logon heart reset next)) can = can.1
session_reads beside (Session (Heartbeat id)) can = tt
session_reads beside (Session (TestRequest id)) can = can
session_reads beside (Session (ResendRequest begin last)) can = tt
session_reads beside (Session (Reject number)) can = tt
session_reads beside (Session (GapFill new_number)) can = can
session_reads beside (Session (Reset new_number)) can = tt
session_reads beside (Session Logout) can = tt
session_reads beside (Session (BusinessReject number)) can = tt
session_reads beside (Order (Ok leg)) can = tt
session_reads beside (Order (Err fault)) can = tt
session_reads beside (ExecutionReport read) can = tt
session_reads beside Other can = tt

exchange_reads : (beside : Option OrderViewParts) (content : Content) → IsWritableContent beside content → exchange.IsReadContent content
exchange_reads beside (Session (Logon heart reset next)) can = can.0
exchange_reads beside (Session (Heartbeat id)) can = tt
exchange_reads beside (Session (TestRequest id)) can = can
exchange_reads beside (Session (ResendRequest begin last)) can = tt
exchange_reads beside (Session (Reject number)) can = tt
exchange_reads beside (Session (GapFill new_number)) can = tt
exchange_reads beside (Session (Reset new_number)) can = tt
exchange_reads beside (Session Logout) can = tt
exchange_reads beside (Session (BusinessReject number)) can = tt
exchange_reads beside (Order (Ok leg)) can = can
exchange_reads beside (Order (Err fault)) can = tt
exchange_reads beside (ExecutionReport read) can = tt
exchange_reads beside Other can = tt

fill_reads : (beside : Option OrderViewParts) (content : Content) → IsWritableContent beside content → IsFillInRange content
fill_reads beside (Session (Logon heart reset next)) can = tt
fill_reads beside (Session (Heartbeat id)) can = tt
fill_reads beside (Session (TestRequest id)) can = tt
fill_reads beside (Session (ResendRequest begin last)) can = tt
fill_reads beside (Session (Reject number)) can = tt
fill_reads beside (Session (GapFill new_number)) can = can
fill_reads beside (Session (Reset new_number)) can = tt
fill_reads beside (Session Logout) can = tt
fill_reads beside (Session (BusinessReject number)) can = tt
fill_reads beside (Order (Ok leg)) can = tt
fill_reads beside (Order (Err fault)) can = tt
fill_reads beside (ExecutionReport read) can = tt
fill_reads beside Other can = tt

pub session_read : (out : Outgoing) → IsWritable out → session.IsRead out.message
session_read out can =
    record { number = can.number_to; content = session_reads out.beside out.message.content can.content }

pub exchange_read : (out : Outgoing) → IsWritable out → exchange.IsRead out.message
exchange_read out can = record {
  range = record { number = can.number_to; fill = fill_reads out.beside out.message.content can.content };
  content = exchange_reads out.beside out.message.content can.content;
}

-- after a message the live connection is as it was, and is that of the message where something was written; or it is
-- that of the message, and something was written
abbrev Live : ExchangeParts → ℕ → Answer → Type 0
Live x connection a =
    (live : ℕ) → live_connection a.1 ≡ Some live
    → ((live_connection x ≡ Some live) × ((a.0 ≡ []) ⊎ (live ≡ connection)))
    ⊎ ((a.0 ≡ [] → ⊥) × (live ≡ connection))

-- of a message that is no Logon
abbrev Stays : ExchangeParts → ℕ → Answer → Type 0
Stays x connection a = (live : ℕ) → live_connection a.1 ≡ Some live → (live_connection x ≡ Some live) × (live ≡ connection)

logon_live : (x : ExchangeParts) (connection number : ℕ) (b : Bool) (heart : ℕ) (next : Option ℕ)
    → Live x connection (logon_answer (with_connection x connection number) connection b heart next)
logon_live x connection number b heart (Some told) = λ live is. inr (λ none. absurd cc, sym (same_Some connection live is))
logon_live x connection number true heart None = λ live is. inr (λ none. absurd cc, sym (same_Some connection live is))
logon_live x connection number false heart None = λ live is. inr (λ none. absurd cc, sym (same_Some connection live is))

module _ (x : ExchangeParts) (connection : ℕ) (at : LiveConnection) (is_live : IsLive x connection at) where
  here : Some connection ≡ live_connection x
  here = ap Some (sym is_live.here) ∙ sym (ap (λ (l : Option LiveConnection). option_map (λ (c : LiveConnection). c.connection) l) is_live.is)

  stays : (y : ExchangeParts) → y.live ≡ x.live → (live : ℕ) → live_connection y ≡ Some live → (live_connection x ≡ Some live) × (live ≡ connection)
  stays y same live is =
      let was : live_connection x ≡ Some live = sym (ap (λ (l : Option LiveConnection). option_map (λ (c : LiveConnection). c.connection) l) same) ∙ is in
      (was, sym (same_Some connection live (here ∙ was)))

  due_live : (content : Content) → Stays x connection (due_taken x content)
  due_live (Session (Logon heart reset next)) = stays (due_taken x (Session (Logon heart reset next))).1 refl
  due_live (Session (Heartbeat id)) = stays (due_taken x (Session (Heartbeat id))).1 refl
  due_live (Session (TestRequest id)) = stays (due_taken x (Session (TestRequest id))).1 refl
  due_live (Session (ResendRequest begin last)) = stays (due_taken x (Session (ResendRequest begin last))).1 refl
  due_live (Session (Reject number)) = stays (due_taken x (Session (Reject number))).1 refl
  due_live (Session (GapFill new_number)) = stays (due_taken x (Session (GapFill new_number))).1 refl
  due_live (Session (Reset new_number)) = stays (due_taken x (Session (Reset new_number))).1 refl
  due_live (Session Logout) = λ live is. absurd cc
  due_live (Session (BusinessReject number)) = stays (due_taken x (Session (BusinessReject number))).1 refl
  due_live (Order (Ok leg)) = stays (due_taken x (Order (Ok leg))).1 refl
  due_live (Order (Err fault)) = stays (due_taken x (Order (Err fault))).1 refl
  due_live (ExecutionReport read) = stays (due_taken x (ExecutionReport read)).1 refl
  due_live Other = stays (due_taken x Other).1 refl

  asks_live : Stays x connection (asks x at)
  asks_live live is =
      let same : live ≡ connection = sym (same_Some at.connection live is) ∙ is_live.here in
      (sym here ∙ ap Some (sym same), same)

  received_live : (number : ℕ) (content : Content) → Live x connection (received x at number content)
  received_live number content live is =
      let stayed = by_number_is x at number content (Stays x connection) (stays x refl) (λ due. due_live content) asks_live live is in
      inl (stayed.0, inr stayed.1)

take_live : (x : ExchangeParts) (connection : ℕ) (m : Message) → Live x connection (take x connection m)
take_live x connection m =
    take_is x connection m (Live x connection) (λ live is. inl (is, inl refl))
    (λ heart reset next room taken. logon_live x connection m.number (m.number == x.expected) heart next)
    (λ at room is. received_live x connection at is m.number m.content)

last_after : (x : ExchangeParts) (connection live : ℕ) (a : Answer) (w : Encoding) (from : List Frame) (written : List (Vec ℕ))
    → IfSome (live_connection x) (λ at. last_connection from ≡ Some at) → AreFramed w moment a.0 (bytes_of written)
    → ((live_connection x ≡ Some live) × ((a.0 ≡ []) ⊎ (live ≡ connection))) ⊎ ((a.0 ≡ [] → ⊥) × (live ≡ connection))
    → last_connection (from ++ written_in connection written) ≡ Some live
last_after x connection live ([], y) w from [] last framed (inl was) =
    last_none from connection ∙ some_if (live_connection x) (λ at. last_connection from ≡ Some at) live last was.0
last_after x connection live ([], y) w from [] last framed (inr was) = absurd (was.0 refl)
last_after x connection live ([], y) w from (bytes ∷ written) last framed is = absurd framed
last_after x connection live (out ∷ more, y) w from [] last framed is = absurd framed
last_after x connection live (out ∷ more, y) w from (bytes ∷ written) last framed (inl (was, inl none)) = absurd cc
last_after x connection live (out ∷ more, y) w from (bytes ∷ written) last framed (inl (was, inr same)) =
    last_written from connection bytes written ∙ ap Some (sym same)
last_after x connection live (out ∷ more, y) w from (bytes ∷ written) last framed (inr (some, same)) =
    last_written from connection bytes written ∙ ap Some (sym same)

-- the exchange took a frame
pub taken_kept : (w : Encoding) (s : SessionParts) (x now : ExchangeParts) (to from new : List Frame) (connection : ℕ) (m : Message)
    (written : List (Vec ℕ)) → IsKept w s x to from → exchange.IsRead m
    → AreFramed w moment (take x connection m).0 (bytes_of written)
    → now ≡ (take x connection m).1
    → new ≡ from ++ written_in connection written
    → IsKept w s now to new
taken_kept w s x now to from new connection m written kept read framed is added = record {
  session = kept.session;
  exchange = subst exchange.IsSound (sym is) (take_is_sound x connection m kept.exchange read);
  to_exchange = kept.to_exchange;
  from_exchange = subst (AllByRecursion (IsWritten w)) (sym added)
      (all_more (IsWritten w) from _ kept.from_exchange
      (are_written w connection _ written (take_said x connection m kept.exchange read) framed));
  live = if_some (live_connection now) (λ at. last_connection new ≡ Some at)
      (λ live at.
      ap last_connection added
      ∙ last_after x connection live (take x connection m) w from written kept.live framed
      (take_live x connection m live (sym (ap live_connection is) ∙ at)));
}

-- what is known of a frame that was written
said_range : (w : Encoding) (r : Decoding) → Agrees w r → (frame : Frame) → IsWritten w frame
    → exchange.IsRead (said_by r frame.bytes.items)
said_range w r agrees frame is =
    subst exchange.IsRead (sym (reads w r agrees is.out frame.bytes.items is.writable is.framed)) (exchange_read is.out is.writable)

took : (w : Encoding) (x now : ExchangeParts) (a : Answer) (frames : Vec (Vec ℕ)) → TakeGives w moment x a (Ok frames) now
    → AreFramed w moment a.0 (bytes_of frames.items) × (now ≡ a.1)
took w x now (written, after) frames gives = gives

pub delivered_kept : (w : Encoding) (r : Decoding) → Agrees w r → (s : SessionParts) (x now : ExchangeParts)
    (to from new : List Frame) (frame : Frame) (written : Vec (Vec ℕ)) → IsKept w s x to from → IsWritten w frame
    → TakeGives w moment x (take x frame.connection (said_by r frame.bytes.items)) (Ok written) now
    → new ≡ from ++ written_in frame.connection written.items
    → IsKept w s now to new
delivered_kept w r agrees s x now to from new frame written kept is gives added =
    let m = said_by r frame.bytes.items in
    let parts = took w x now (take x frame.connection m) written gives in
    taken_kept w s x now to from new frame.connection m written.items kept (said_range w r agrees frame is) parts.0 parts.1 added

-- what it wrote is lost for lack of memory, and so is its connection
pub dropped_kept : (w : Encoding) (r : Decoding) → Agrees w r → (s : SessionParts) (x now left : ExchangeParts)
    (to from new : List Frame) (frame : Frame) (written : Vec (Vec ℕ)) → IsKept w s x to from → IsWritten w frame
    → TakeGives w moment x (take x frame.connection (said_by r frame.bytes.items)) (Ok written) now
    → left ≡ drop_connection now
    → new ≡ from
    → IsKept w s left to new
dropped_kept w r agrees s x now left to from new frame written kept is gives dropped same =
    let m = said_by r frame.bytes.items in
    let parts = took w x now (take x frame.connection m) written gives in
    let sound = subst exchange.IsSound (sym parts.1) (take_is_sound x frame.connection m kept.exchange (said_range w r agrees frame is)) in
    record {
      session = kept.session;
      exchange = subst exchange.IsSound (sym dropped) (drop_is_sound now sound);
      to_exchange = kept.to_exchange;
      from_exchange = subst (AllByRecursion (IsWritten w)) (sym same) kept.from_exchange;
      live = subst (λ (y : ExchangeParts). IfSome (live_connection y) (λ live. last_connection new ≡ Some live)) (sym dropped) tt;
    }

-- the message was not taken, for lack of memory
pub untaken_kept : (w : Encoding) (s : SessionParts) (x now : ExchangeParts) (to from : List Frame) (a : Answer) (why : ExchangeFault)
    → IsKept w s x to from → TakeGives w moment x a (Err why) now
    → IsKept w s now to from
untaken_kept w s x now to from (written, after) why kept gives =
    subst (λ (y : ExchangeParts). IsKept w s y to from) (sym gives.1) kept

-- what became of the venue
pub delivered_said : (w : Encoding) (r : Decoding) → Agrees w r → (venue : VenueParts) (to from new : List Frame) (number : ℕ)
    (frame : Frame) (written : Vec (Vec ℕ)) (now : ExchangeParts) → venue.to_exchange ≡ all_said r to
    → venue.from_exchange ≡ all_said r from
    → numbered number to ≡ Some frame
    → IsWritten w frame
    → exchange.IsSound venue.exchange
    → TakeGives w moment venue.exchange (take venue.exchange frame.connection (said_by r frame.bytes.items)) (Ok written) now
    → new ≡ from ++ written_in frame.connection written.items
    → record venue { exchange = now; from_exchange = all_said r new } ≡ taken venue (numbered number venue.to_exchange)
delivered_said w r agrees venue to from new number frame written now said_to said_from there is sound gives added =
    let m = said_by r frame.bytes.items in
    let answer = take venue.exchange frame.connection m in
    let parts = took w venue.exchange now answer written gives in
    let can = take_said venue.exchange frame.connection m sound (said_range w r agrees frame is) in
    let here = said_written w r agrees frame.connection answer.0 written.items can parts.0 in
    let more = ap (all_said r) added ∙ said_more r from (written_in frame.connection written.items) in
    let found : numbered number venue.to_exchange ≡ Some (said_in r frame) =
    ap (numbered number) said_to ∙ (numbered_said r number to ∙ ap (option_map (said_in r)) there) in
    (λ k. record venue { exchange = now; from_exchange = more k })
    ∙ ((λ k. record venue { exchange = parts.1 k; from_exchange = sym said_from k ++ here k })
    ∙ sym (ap (taken venue) found))

pub not_delivered : (r : Decoding) (venue : VenueParts) (to : List Frame) (number : ℕ) → venue.to_exchange ≡ all_said r to
    → numbered number to ≡ None
    → venue ≡ taken venue (numbered number venue.to_exchange)
not_delivered r venue to number said_to none_there =
    let found : numbered number venue.to_exchange ≡ None =
    ap (numbered number) said_to ∙ (numbered_said r number to ∙ ap (option_map (said_in r)) none_there) in
    sym (ap (taken venue) found)

-- the world
delivered_is : (w : World) (v : ℕ) (venue : VenueParts) (frame : Option world.Frame) → venue_in w v ≡ Some venue
    → with_venue w v (taken venue frame) ≡ to_exchange w v venue frame
delivered_is w v venue None there = with_same w v venue there
delivered_is w v venue (Some frame) there = refl

pub to_exchange_happens : (w : World) (v : ℕ) (before now : VenueParts) (number : ℕ) → venue_in w v ≡ Some before
    → now ≡ taken before (numbered number before.to_exchange)
    → with_venue w v now ≡ happens w (event.ToExchange v number)
to_exchange_happens w v before now number there is =
    ap (with_venue w v) is
    ∙ (delivered_is w v before (numbered number before.to_exchange) there
    ∙ sym (at_there w v before (λ venue. to_exchange w v venue (numbered number venue.to_exchange)) there))
