-- A message as the bytes of one frame, in a dialect, and as what a stream that begins with it reads as.
use Rattle.std.specs.Prelude.{◌≡◌, ◌<◌, ◌+◌, ℕ, length, false, List, [], ◌∷◌, ◌++◌, Option, Some, None, Result, Ok, Err, codes}
use Rattle.fix_text.specs.Tagged.{Tagged}
use Rattle.fix_text.specs.Frame.{frame_text}
use Rattle.fix_text.specs.Reading.{Stream, next_read}
use Rattle.fix_tags.specs.Message.{envelope_fields}
use Rattle.fix_tags.specs.Reading.{envelope_read}
use Rattle.fix_tags.specs.Stamp.{StampParts}
use Rattle.fix_tags.specs.Body.{Body}
use Rattle.fix_tags.specs.declared.body.Body.TheVariants as body
use Rattle.fix_tags.specs.declared.envelope.Envelope.{Envelope}
use Rattle.leg.specs.declared.leg.Leg.{Leg}
use Rattle.dialect.specs.declared.fault.DialectFault.{DialectFault}
use Rattle.dialect.specs.declared.report.Report.{Report}
use Rattle.dialect.specs.declared.content.Content.{Content}
use Rattle.dialect.specs.declared.content.Content.TheVariants.{Session, Order, ExecutionReport, Other}
use Rattle.fix_tags.specs.declared.session_body.SessionBody.{SessionBody}
use Rattle.dialect.specs.declared.message.Message.{Message}
use Rattle.dialect.specs.Message.{decoded}
use Rattle.dialect.specs.Wording.{Encoding, Decoding}
use Rattle.dialect.specs.OrderView.{OrderViewParts}
use Rattle.dialect.specs.declared.outgoing.Outgoing.{Outgoing}

-- an application message of this kind, with fields of which this holds
pub record IsApp (IsWritten : List Tagged → Type 0) (kind : List ℕ) (b : Body) : Type 0 where
  pub fields : List Tagged
  pub written : IsWritten fields
  pub body_is : b ≡ body.App kind fields

-- the body of an order: of kind `D`, with the message's own stamp; what wasn't read isn't written
abbrev pub IsOrderBody : Encoding → StampParts → Result Leg DialectFault → Body → Type 0
IsOrderBody w stamp (Ok leg) b = IsApp (w.IsOrder leg stamp) (codes "D") b
IsOrderBody w stamp (Err fault) b = ⊥

-- the body of a report: of kind `8`, beside what its exchange knew of the order
abbrev pub IsReportBody : Encoding → Result Report DialectFault → Option OrderViewParts → Body → Type 0
IsReportBody w (Ok report) (Some view) b = IsApp (w.IsReport report view) (codes "8") b
IsReportBody w (Ok report) None b = ⊥
IsReportBody w (Err fault) beside b = ⊥

-- the bodies that may be written for a content
abbrev pub IsBody : Encoding → StampParts → Option OrderViewParts → Content → Body → Type 0
IsBody w stamp beside (Session says) b = b ≡ body.Session says
IsBody w stamp beside (Order read) b = IsOrderBody w stamp read b
IsBody w stamp beside (ExecutionReport read) b = IsReportBody w read beside b
IsBody w stamp beside Other b = ⊥

-- the message under its header, never under another number again (no 97)
abbrev pub envelope_of : Message → Body → Envelope
envelope_of m b =
    record { sender = m.from; target = m.to; number = m.number; poss_dup = m.poss_dup; poss_resend = false; body = b }

-- the bytes are the one frame of this message at this moment, in a dialect's terms
pub record IsFramed (w : Encoding) (stamp : StampParts) (out : Outgoing) (bytes : List ℕ) : Type 0 where
  pub says : Body
  pub is_body : IsBody w stamp out.beside out.message.content says
  pub written : bytes ≡ frame_text (envelope_fields (envelope_of out.message says) stamp)

-- new is old with the frame of an application message of this kind behind it, with fields of which this holds
abbrev pub AppendsApp : (List Tagged → Type 0) → Message → StampParts → List ℕ → List ℕ → List ℕ → Type 0
AppendsApp IsWritten m stamp kind old new =
    (fields : List Tagged) × IsWritten fields
    × (new ≡ old ++ frame_text (envelope_fields (envelope_of m (body.App kind fields)) stamp))

-- new is old with the frame of a message of the session behind it
abbrev pub AppendsSession : Message → SessionBody → StampParts → List ℕ → List ℕ → Type 0
AppendsSession m says stamp old new =
    new ≡ old ++ frame_text (envelope_fields (envelope_of m (body.Session says)) stamp)

-- new is old with the one frame of this message behind it
abbrev pub AppendsFrame : Encoding → StampParts → Outgoing → List ℕ → List ℕ → Type 0
AppendsFrame w stamp out old new = (bytes : List ℕ) × IsFramed w stamp out bytes × (new ≡ old ++ bytes)

-- behind so many bytes there is no room for the frame of an application message of this kind, with fields of which this
-- holds
abbrev pub WantsApp : (List Tagged → Type 0) → Message → StampParts → List ℕ → ℕ → ℕ → Type 0
WantsApp IsWritten m stamp kind used capacity =
    (fields : List Tagged) × IsWritten fields
    × (capacity < used + length (frame_text (envelope_fields (envelope_of m (body.App kind fields)) stamp)))

-- behind so many bytes there is no room for a frame of this message
abbrev pub WantsFrame : Encoding → StampParts → Outgoing → ℕ → ℕ → Type 0
WantsFrame w stamp out used capacity =
    (bytes : List ℕ) × IsFramed w stamp out bytes × (capacity < used + length bytes)

-- the frames are those of these messages, one each and in order, each written at this moment
abbrev pub AreFramed : Encoding → StampParts → List Outgoing → List (List ℕ) → Type 0
AreFramed w stamp [] [] = Unit {0}
AreFramed w stamp [] (bytes ∷ frames) = ⊥
AreFramed w stamp (out ∷ written) [] = ⊥
AreFramed w stamp (out ∷ written) (bytes ∷ frames) = IsFramed w stamp out bytes × AreFramed w stamp written frames

-- the next frame of a stream is read as this message, and then the rest follows
pub record IsReadAs (read : Decoding) (stream : Stream) (rest : List ℕ) (m : Message) : Type 0 where
  pub fields : List Tagged
  pub next : next_read stream ≡ record { frame = Some fields; stream = record stream { rest = rest } }
  pub envelope : Envelope
  pub is_read : envelope_read fields ≡ Ok envelope
  pub is_decoded : decoded read envelope ≡ m
