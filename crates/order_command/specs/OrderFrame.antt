-- An order as the bytes of one frame, in any dialect.
use Rattle.std.specs.Prelude.{
  ◌≡◌,
  ℕ,
  ◌<◌,
  false,
  List,
  [],
  ◌∷◌,
  length,
  ◌==◌,
  Option,
  Some,
  None,
  Result,
  Ok,
  Err,
  codes,
  if◌then◌else◌,
}
use Rattle.fix_text.specs.Tagged.{Tagged}
use Rattle.fix_text.specs.Reading.{Stream, next_read}
use Rattle.fix_tags.specs.Reading.{envelope_read}
use Rattle.fix_tags.specs.Body.{Body}
use Rattle.fix_tags.specs.declared.body.Body.TheVariants.{App}
use Rattle.fix_tags.specs.declared.envelope.Envelope.{Envelope}
use Rattle.fix_tags.specs.declared.tag_fault.TagFault.{TagFault}
use Rattle.leg.specs.declared.leg.Leg.{Leg}
use Rattle.dialect.specs.Framed.{IsFramed}
use Rattle.dialect.specs.Wording.{Encoding}
use Rattle.dialect.specs.declared.content.Content.TheVariants.{Order}
use Rattle.dialect.specs.declared.outgoing.Outgoing.{Outgoing}
use Rattle.dialect.specs.Outgoing.{alone}
use Rattle.dialect.specs.Writable.{IsWritable}
use Rattle.dialect.specs.declared.fault.DialectFault.{DialectFault}
use Rattle.order_command.specs.declared.order_fault.OrderFault.{OrderFault}
use Rattle.order_command.specs.declared.order_fault.OrderFault.TheVariants as of
use Rattle.order_command.specs.Header.{HeaderParts}

-- the message of an order for this leg under a header, sent once
abbrev pub order_message : Leg → HeaderParts → Outgoing
order_message leg header =
    alone (record {
      from = header.from;
      to = header.to;
      number = header.number;
      poss_dup = false;
      content = Order (Ok leg);
    })

-- the same with the fields of the order as they are written
abbrev pub order_envelope : HeaderParts → List Tagged → Envelope
order_envelope header order =
    record {
      sender = header.from;
      target = header.to;
      number = header.number;
      poss_dup = false;
      poss_resend = false;
      body = App (codes "D") order;
    }

-- the leg and the header are in range, and the bytes are the frame of an order for this leg, under this header
pub record IsOrderFrame (writers : Encoding) (leg : Leg) (header : HeaderParts) (bytes : List ℕ) : Type 0 where
  pub in_range : IsWritable (order_message leg header)
  pub framed : IsFramed writers header.at (order_message leg header) bytes

-- the leg that a dialect reads, or its fault
abbrev pub as_order : Result Leg DialectFault → Result Leg OrderFault
as_order (Ok leg) = Ok leg
as_order (Err fault) = Err (of.BadOrder fault)

-- the leg of an application message of kind `D`
abbrev pub order_in : (List Tagged → Result Leg DialectFault) → Body → Result Leg OrderFault
order_in read (App (c ∷ []) fields) = if c == 68 then as_order (read fields) else Err of.NoOrder
order_in read _ = Err of.NoOrder

-- the leg of a message
abbrev pub order_of_message : (List Tagged → Result Leg DialectFault) → Result Envelope TagFault
    → Result Leg OrderFault
order_of_message read (Ok e) = order_in read e.body
order_of_message read (Err fault) = Err (of.NoMessage fault)

-- the leg of the fields of a frame, if there is one
abbrev pub order_of_fields : (List Tagged → Result Leg DialectFault) → Option (List Tagged) → Result Leg OrderFault
order_of_fields read (Some fields) = order_of_message read (envelope_read fields)
order_of_fields read None = Err of.NoFrame

-- a stream of these bytes
abbrev pub stream_of : List ℕ → Stream
stream_of bytes = record { rest = bytes; skipped = 0; garbled = 0 }

-- the leg of the first frame of a stream
abbrev pub order_read_from : (List Tagged → Result Leg DialectFault) → Stream → Result Leg OrderFault
order_read_from read stream = order_of_fields read (next_read stream).frame

-- out of memory may be answered for a frame alone that is there, of more than 64 fields
abbrev pub MayWantMemory : Option (List Tagged) → Type 0
MayWantMemory (Some fields) = 64 < length fields
MayWantMemory None = ⊥

-- what a call answers for the frame with these fields, if there is one: what is read of them, or out of memory
abbrev pub ReadsOrder : (List Tagged → Result Leg DialectFault) → Option (List Tagged) → Result Leg OrderFault → Type 0
ReadsOrder read frame (Ok leg) = order_of_fields read frame ≡ Ok leg
ReadsOrder read frame (Err of.OutOfMemory) = MayWantMemory frame
ReadsOrder read frame (Err of.NoFrame) = order_of_fields read frame ≡ Err of.NoFrame
ReadsOrder read frame (Err (of.NoMessage fault)) = order_of_fields read frame ≡ Err (of.NoMessage fault)
ReadsOrder read frame (Err of.NoOrder) = order_of_fields read frame ≡ Err of.NoOrder
ReadsOrder read frame (Err (of.BadOrder fault)) = order_of_fields read frame ≡ Err (of.BadOrder fault)

-- a call answers this leg, unless memory runs out
abbrev pub GivesLeg : Leg → Result Leg OrderFault → Type 0
GivesLeg leg (Ok read) = read ≡ leg
GivesLeg leg (Err of.OutOfMemory) = Unit {0}
GivesLeg leg (Err other) = ⊥
