-- An order is written as a frame, and the frame is read back as its leg, in any dialect.
use Rattle.std.proofs.Common.{◌≡◌, ℕ, ◌+◌, ◌<◌, ◌≤◌, Bool, true, false, List, [], ◌∷◌, ◌==◌, length, Some, None, Option, Result, Ok, Err, codes, refl, sym, ap, subst, ◌∙◌, append-nil, if◌then◌else◌, arith}
use Rattle.std.specs.Prelude.{IsOk, IsOkUnless, MatchOption}
use Rattle.fix_text.specs.Tagged.{Tagged}
use Rattle.fix_text.specs.Frame.{frame_text}
use Rattle.fix_text.specs.Reading.{NextFrame, next_read}
use Rattle.fix_tags.proofs.MessageLaws.{written_messages_are_short}
use Rattle.fix_tags.specs.Message.{envelope_fields, envelope_refusal}
use Rattle.fix_tags.specs.Stamp.{StampParts}
use Rattle.fix_tags.specs.declared.envelope.Envelope.{Envelope}
use Rattle.fix_tags.specs.declared.write_fault.WriteFault.{WriteFault}
use Rattle.fix_tags.specs.declared.write_fault.WriteFault.TheVariants.{OutOfMemory}
use Rattle.fix_tags.specs.Body.{Body}
use Rattle.fix_tags.specs.declared.body.Body.TheVariants as body
use Rattle.fix_tags.specs.CompId.{IsCompId}
use Rattle.leg.specs.Leg.{IsLeg}
use Rattle.leg.specs.declared.leg.Leg.{Leg}
use Rattle.dialect.specs.Dialect.{Appends}
use Rattle.dialect.specs.Framed.{IsBody}
use Rattle.dialect.specs.Wording.{Decoding, Encoding}
use Rattle.dialect.specs.declared.content.Content.TheVariants.{Order, ExecutionReport, Other}
use Rattle.dialect.specs.declared.message.Message.{Message}
use Rattle.dialect.specs.Message.{content_of}
use Rattle.dialect.specs.Writable.{IsWritable}
use Rattle.dialect.specs.declared.fault.DialectFault.{DialectFault}
use Rattle.dialect.proofs.FrameBack.{Agrees, frame_back, never_refused}
use Rattle.order_command.specs.Header.{HeaderParts, IsHeader}
use Rattle.order_command.specs.OrderFrame.{order_envelope, order_message, stream_of, IsOrderFrame, as_order, order_in, order_of_message, order_of_fields, order_read_from, ReadsOrder, GivesLeg}
use Rattle.order_command.specs.declared.order_fault.OrderFault.{OrderFault}
use Rattle.order_command.specs.declared.order_fault.OrderFault.TheVariants as of

-- a message of parts in range can be written
pub order_in_range : (leg : Leg) (header : HeaderParts) → IsCompId header.from → IsCompId header.to → IsHeader header
    → IsLeg leg → IsWritable (order_message leg header)
order_in_range leg header from to number content = record {
  from = from;
  to = to;
  number_from = number.number_from;
  number_to = number.number_to;
  content = content;
}

-- an order's fields are the body of its message
pub order_body : (w : Encoding) (leg : Leg) (header : HeaderParts) (order : List Tagged) → w.IsOrder leg header.at order
    → IsBody w header.at (order_message leg header).beside (order_message leg header).message.content
    (body.App (codes "D") order)
order_body w leg header order written = record { fields = order; written = written; body_is = refl }

-- what is known of the message of an order once its fields are written
pub record IsMade (w : Encoding) (leg : Leg) (header : HeaderParts) (order : List Tagged) (e : Envelope)
    (at : StampParts) : Type 0 where
  pub in_range : IsWritable (order_message leg header)
  pub written : w.IsOrder leg header.at order
  pub message : e ≡ order_envelope header order
  pub time : at ≡ header.at

-- the fields that were appended to none are those of the order at the header's moment
pub order_at_its_time : (w : Encoding) (leg : Leg) (header : HeaderParts) (order : List Tagged) (at : StampParts)
    → at ≡ header.at → Appends (w.IsOrder leg at) [] order → w.IsOrder leg header.at order
order_at_its_time w leg header order at time appended =
    let so = subst (w.IsOrder leg at) (sym appended.2) appended.1 in
    subst (λ (s : StampParts). w.IsOrder leg s order) time so

-- the message of an order has no fault
pub unrefused : (w : Encoding) (read : Decoding) (leg : Leg) (header : HeaderParts) (order : List Tagged) (e : Envelope)
    (at : StampParts) → Agrees w read → IsMade w leg header order e at → envelope_refusal e at ≡ None
unrefused w read leg header order e at agrees made =
    let says = order_body w leg header order made.written in
    let none = never_refused w read header.at (order_message leg header) (body.App (codes "D") order) agrees made.in_range says in
    subst (λ (s : StampParts). envelope_refusal e s ≡ None) (sym made.time)
    (subst (λ (m : Envelope). envelope_refusal m header.at ≡ None) (sym made.message) none)

-- an order's fields under its header are its frame
pub order_framed : (w : Encoding) (leg : Leg) (header : HeaderParts) (order : List Tagged) (e : Envelope)
    (at : StampParts) (bytes : List ℕ) → IsMade w leg header order e at → bytes ≡ frame_text (envelope_fields e at)
    → IsOrderFrame w leg header bytes
order_framed w leg header order e at bytes made is = record {
  in_range = made.in_range;
  framed = record {
    says = body.App (codes "D") order;
    is_body = order_body w leg header order made.written;
    written = is
        ∙ ap (λ (m : Envelope). frame_text (envelope_fields m at)) made.message
        ∙ ap (λ (s : StampParts). frame_text (envelope_fields (order_envelope header order) s)) made.time;
  };
}

-- a message without a fault is written where there is room for the longest frame
pub written_with_room : (e : Envelope) (at : StampParts) (room len : ℕ) (result : Result (Unit {0}) WriteFault)
    → MatchOption (envelope_refusal e at) (IsOkUnless result OutOfMemory) (λ fault. result ≡ Err fault)
    → (result ≡ Err OutOfMemory → room < len + length (frame_text (envelope_fields e at)))
    → envelope_refusal e at ≡ None → len ≡ 0 → 4120 ≤ room → IsOk result
written_with_room e at room len (Ok done) refusal full none empty fits = refl
written_with_room e at room len (Err fault) refusal full none empty fits =
    let short = written_messages_are_short e at none in
    let no_other = subst (λ (o : Option WriteFault). MatchOption o (fault ≡ OutOfMemory)
    (λ other. ◌≡◌ {A = Result (Unit {0}) WriteFault} (Err fault) (Err other))) none refusal in
    let wants = full (ap Err no_other) in
    absurd (omega (arith, short, wants, empty, fits))

-- the leg of a message whose content is an order that was read
by_kind : (read : Decoding) (fields : List Tagged) (leg : Leg) (is_order is_report : Bool)
    → (if is_order then Order (read.order fields)
    else (if is_report then ExecutionReport (read.report fields) else Other)) ≡ Order (Ok leg)
    → (if is_order then as_order (read.order fields) else Err of.NoOrder) ≡ Ok leg
by_kind read fields leg true is_report is = let found : read.order fields ≡ Ok leg = cc in ap as_order found
by_kind read fields leg false true is = cc
by_kind read fields leg false false is = cc

order_said : (read : Decoding) (b : Body) (leg : Leg) → content_of read b ≡ Order (Ok leg) → order_in read.order b ≡ Ok leg
order_said read (body.Session says) leg is = cc
order_said read (body.App [] fields) leg is = cc
order_said read (body.App (c ∷ []) fields) leg is = by_kind read fields leg (c == 68) (c == 56) is
order_said read (body.App (c ∷ d ∷ more) fields) leg is = cc

-- the frame of an order is read back as its leg
pub order_back : (w : Encoding) (read : Decoding) (leg : Leg) (header : HeaderParts) (bytes : List ℕ) → Agrees w read
    → IsOrderFrame w leg header bytes → order_read_from read.order (stream_of bytes) ≡ Ok leg
order_back w read leg header bytes agrees frame =
    let whole = sym (append-nil bytes) in
    let message = order_message leg header in
    let back = frame_back w read header.at message bytes [] (stream_of bytes) agrees frame.in_range frame.framed whole in
    let first : (next_read (stream_of bytes)).frame ≡ Some back.fields = ap (λ (n : NextFrame). n.frame) back.next in
    let said : content_of read back.envelope.body ≡ Order (Ok leg) = ap (λ (m : Message). m.content) back.is_decoded in
    ap (order_of_fields read.order) first
    ∙ ap (order_of_message read.order) back.is_read
    ∙ order_said read back.envelope.body leg said

-- so a call answers that leg
pub gives_back : (read : List Tagged → Result Leg DialectFault) (frame : Option (List Tagged)) (leg : Leg)
    (answer : Result Leg OrderFault) → ReadsOrder read frame answer → order_of_fields read frame ≡ Ok leg → GivesLeg leg answer
gives_back read frame leg (Ok other) reads is = cc
gives_back read frame leg (Err of.OutOfMemory) reads is = tt
gives_back read frame leg (Err of.NoFrame) reads is = cc
gives_back read frame leg (Err (of.NoMessage fault)) reads is = cc
gives_back read frame leg (Err of.NoOrder) reads is = cc
gives_back read frame leg (Err (of.BadOrder fault)) reads is = cc
