-- The body that an application message pushes is short, and framed it is the message's frame.
use Rattle.std.proofs.Common.{◌≡◌, ℕ, ◌≤◌, ◌<◌, ◌+◌, true, List, [], ◌++◌, length, nat_le, codes, Option, Some, None, refl, sym, ap, subst, ◌∙◌, arith}
use Rattle.std.specs.Prelude.{Result, Ok, Err, OnOk, OnErr, IsSome, IsSomeAnd}
use Rattle.std.specs.declared.alloc.AllocError.{AllocError}
use Rattle.std.proofs.lemmas.Bool.{cond-true}
use Rattle.std.proofs.lemmas.Bool.Decides.{nat_tests}
use Rattle.fix_text.specs.Tagged.{Tagged}
use Rattle.fix_text.specs.Text.{fields_text}
use Rattle.fix_text.specs.Frame.{framed, frame_text}
use Rattle.fix_text.specs.Sink.{if_short, TakesFields}
use Rattle.fix_tags.specs.Message.{header_fields, envelope_fields}
use Rattle.fix_tags.specs.Stamp.{StampParts, stamp_text}
use Rattle.fix_tags.specs.Body.{Body}
use Rattle.fix_tags.specs.declared.body.Body.TheVariants as body
use Rattle.fix_tags.specs.declared.body.Body.TheVariants.{App}
use Rattle.fix_tags.specs.declared.session_body.SessionBody.{SessionBody}
use Rattle.fix_tags.specs.declared.envelope.Envelope.{Envelope}
use Rattle.leg.specs.declared.leg.Leg.{Leg}
use Rattle.dialect.specs.declared.report.Report.{Report}
use Rattle.dialect.specs.declared.content.Content.{Content}
use Rattle.dialect.specs.declared.content.Content.TheVariants.{Session, Order, ExecutionReport}
use Rattle.dialect.specs.declared.outgoing.Outgoing.{Outgoing}
use Rattle.dialect.specs.OrderView.{OrderViewParts}
use Rattle.fix_tags.proofs.AppFits.{header_length}
use Rattle.fix_tags.proofs.Written.{length-stamp_text}
use Rattle.dialect.proofs.FrameBack.{number_is}
use Rattle.dialect.specs.declared.message.Message.{Message}
use Rattle.dialect.specs.Dialect.{FitsMessage}
use Rattle.dialect.specs.Framed.{IsBody, envelope_of, AppendsApp, AppendsSession, AppendsFrame, WantsApp, WantsFrame}
use Rattle.dialect.specs.Wording.{Encoding}
use Rattle.dialect.specs.Writable.{IsAddressed}

-- the text of an application message's fields
abbrev pub app_text : Message → StampParts → List ℕ → List Tagged → List ℕ
app_text m stamp kind fields = fields_text (envelope_fields (envelope_of m (App kind fields)) stamp)

kept : (text : List ℕ) → length text ≤ 1152 → if_short text ≡ Some text
kept text short =
    let test : nat_le (length text) 1152 ≡ true = grind (arith, nat_tests) in
    cond-true (nat_le (length text) 1152) (Some text) None test

-- what is left once the header and the fields are pushed
pub straight_body : (m : Message) (stamp : StampParts) (kind : List ℕ) (fields : List Tagged)
    (before after : Option (List ℕ)) → IsAddressed m → length kind ≤ 8 → FitsMessage fields
    → TakesFields (Some []) before (header_fields (envelope_of m (App kind [])) (stamp_text stamp))
    → TakesFields before after fields → after ≡ Some (app_text m stamp kind fields)
straight_body m stamp kind fields before after to short fits header_taken fields_taken =
    let header : List Tagged = header_fields (envelope_of m (App kind [])) (stamp_text stamp) in
    let here = header_length (envelope_of m (App kind [])) (stamp_text stamp) fields short to.from to.to
    (number_is m.number to.number_from to.number_to) (omega (arith, length-stamp_text stamp)) in
    let within : length (fields_text (header ++ fields)) ≤ 1152 = omega (arith, here, fits.short) in
    fields_taken header (header_taken [] refl) ∙ kept (fields_text (header ++ fields)) within

pub straight_is_some : (m : Message) (stamp : StampParts) (kind : List ℕ) (fields : List Tagged)
    (after : Option (List ℕ)) → after ≡ Some (app_text m stamp kind fields) → IsSome after
straight_is_some m stamp kind fields (Some text) is = refl
straight_is_some m stamp kind fields None is = absurd cc

-- its frame is the message's
pub straight_appended : (IsWritten : List Tagged → Type 0) (m : Message) (stamp : StampParts) (kind : List ℕ)
    (fields : List Tagged) (after : Option (List ℕ)) (old new : List ℕ) (result : Result (Unit {0}) AllocError)
    → after ≡ Some (app_text m stamp kind fields) → IsWritten fields
    → OnOk result (IsSomeAnd after (λ text. new ≡ old ++ framed text))
    → OnOk result (AppendsApp IsWritten m stamp kind old new)
straight_appended IsWritten m stamp kind fields after old new (Ok done) is written appended =
    (fields, written, subst (λ (body : Option (List ℕ)). IsSomeAnd body (λ text. new ≡ old ++ framed text)) is appended)
straight_appended IsWritten m stamp kind fields after old new (Err fault) is written appended = tt

-- behind so many bytes there is no room for it
pub straight_wanted : (IsWritten : List Tagged → Type 0) (m : Message) (stamp : StampParts) (kind : List ℕ)
    (fields : List Tagged) (after : Option (List ℕ)) (used capacity : ℕ) (result : Result (Unit {0}) AllocError)
    → after ≡ Some (app_text m stamp kind fields) → IsWritten fields
    → OnErr result (IsSomeAnd after (λ text. capacity < used + length (framed text)))
    → OnErr result (WantsApp IsWritten m stamp kind used capacity)
straight_wanted IsWritten m stamp kind fields after used capacity (Ok done) is written wanted = tt
straight_wanted IsWritten m stamp kind fields after used capacity (Err fault) is written wanted = (
  fields,
  written,
  subst (λ (body : Option (List ℕ)). IsSomeAnd body (λ text. capacity < used + length (framed text))) is wanted,
)

-- the frame of an order, of a report and of a message of the session
pub framed_order : (w : Encoding) (stamp : StampParts) (out : Outgoing) (leg : Leg) (old new : List ℕ)
    (result : Result (Unit {0}) AllocError) → out.message.content ≡ Order (Ok leg)
    → OnOk result (AppendsApp (w.IsOrder leg stamp) out.message stamp (codes "D") old new)
    → OnOk result (AppendsFrame w stamp out old new)
framed_order w stamp out leg old new (Ok done) says appended =
    let b : Body = App (codes "D") appended.0 in
    let is : IsBody w stamp out.beside (Order (Ok leg)) b =
    record { fields = appended.0; written = appended.1; body_is = refl } in (
      frame_text (envelope_fields (envelope_of out.message b) stamp),
      record {
        says = b;
        is_body = subst (λ (content : Content). IsBody w stamp out.beside content b) (sym says) is;
        written = refl;
      },
      appended.2,
    )
framed_order w stamp out leg old new (Err fault) says appended = tt

pub framed_report : (w : Encoding) (stamp : StampParts) (out : Outgoing) (report : Report) (view : OrderViewParts)
    (old new : List ℕ) (result : Result (Unit {0}) AllocError) → out.message.content ≡ ExecutionReport (Ok report)
    → out.beside ≡ Some view → OnOk result (AppendsApp (w.IsReport report view) out.message stamp (codes "8") old new)
    → OnOk result (AppendsFrame w stamp out old new)
framed_report w stamp out report view old new (Ok done) says beside appended =
    let b : Body = App (codes "8") appended.0 in
    let is : IsBody w stamp (Some view) (ExecutionReport (Ok report)) b =
    record { fields = appended.0; written = appended.1; body_is = refl } in
    let at_content : IsBody w stamp (Some view) out.message.content b =
    subst (λ (content : Content). IsBody w stamp (Some view) content b) (sym says) is in (
      frame_text (envelope_fields (envelope_of out.message b) stamp),
      record {
        says = b;
        is_body = subst (λ (known : Option OrderViewParts). IsBody w stamp known out.message.content b) (sym beside) at_content;
        written = refl;
      },
      appended.2,
    )
framed_report w stamp out report view old new (Err fault) says beside appended = tt

pub framed_session : (w : Encoding) (stamp : StampParts) (out : Outgoing) (says : SessionBody) (old new : List ℕ)
    (result : Result (Unit {0}) AllocError) → out.message.content ≡ Session says
    → OnOk result (AppendsSession out.message says stamp old new) → OnOk result (AppendsFrame w stamp out old new)
framed_session w stamp out says old new (Ok done) is appended = (
  frame_text (envelope_fields (envelope_of out.message (body.Session says)) stamp),
  record {
    says = body.Session says;
    is_body = subst (λ (content : Content). IsBody w stamp out.beside content (body.Session says)) (sym is) refl;
    written = refl;
  },
  appended,
)
framed_session w stamp out says old new (Err fault) is appended = tt

-- and where there is no room for it
pub wants_order : (w : Encoding) (stamp : StampParts) (out : Outgoing) (leg : Leg) (used capacity : ℕ)
    (result : Result (Unit {0}) AllocError) → out.message.content ≡ Order (Ok leg)
    → OnErr result (WantsApp (w.IsOrder leg stamp) out.message stamp (codes "D") used capacity)
    → OnErr result (WantsFrame w stamp out used capacity)
wants_order w stamp out leg used capacity (Ok done) says wanted = tt
wants_order w stamp out leg used capacity (Err fault) says wanted =
    let b : Body = App (codes "D") wanted.0 in
    let is : IsBody w stamp out.beside (Order (Ok leg)) b =
    record { fields = wanted.0; written = wanted.1; body_is = refl } in (
      frame_text (envelope_fields (envelope_of out.message b) stamp),
      record {
        says = b;
        is_body = subst (λ (content : Content). IsBody w stamp out.beside content b) (sym says) is;
        written = refl;
      },
      wanted.2,
    )

pub wants_report : (w : Encoding) (stamp : StampParts) (out : Outgoing) (report : Report) (view : OrderViewParts)
    (used capacity : ℕ) (result : Result (Unit {0}) AllocError) → out.message.content ≡ ExecutionReport (Ok report)
    → out.beside ≡ Some view
    → OnErr result (WantsApp (w.IsReport report view) out.message stamp (codes "8") used capacity)
    → OnErr result (WantsFrame w stamp out used capacity)
wants_report w stamp out report view used capacity (Ok done) says beside wanted = tt
wants_report w stamp out report view used capacity (Err fault) says beside wanted =
    let b : Body = App (codes "8") wanted.0 in
    let is : IsBody w stamp (Some view) (ExecutionReport (Ok report)) b =
    record { fields = wanted.0; written = wanted.1; body_is = refl } in
    let at_content : IsBody w stamp (Some view) out.message.content b =
    subst (λ (content : Content). IsBody w stamp (Some view) content b) (sym says) is in (
      frame_text (envelope_fields (envelope_of out.message b) stamp),
      record {
        says = b;
        is_body = subst (λ (known : Option OrderViewParts). IsBody w stamp known out.message.content b) (sym beside) at_content;
        written = refl;
      },
      wanted.2,
    )

pub wants_session : (w : Encoding) (stamp : StampParts) (out : Outgoing) (says : SessionBody) (used capacity : ℕ)
    (result : Result (Unit {0}) AllocError) → out.message.content ≡ Session says
    → OnErr result (capacity < used
    + length (frame_text (envelope_fields (envelope_of out.message (body.Session says)) stamp)))
    → OnErr result (WantsFrame w stamp out used capacity)
wants_session w stamp out says used capacity (Ok done) is wanted = tt
wants_session w stamp out says used capacity (Err fault) is wanted = (
  frame_text (envelope_fields (envelope_of out.message (body.Session says)) stamp),
  record {
    says = body.Session says;
    is_body = subst (λ (content : Content). IsBody w stamp out.beside content (body.Session says)) (sym is) refl;
    written = refl;
  },
  wanted,
)
