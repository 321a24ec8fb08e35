-- What a worker's link tells of messages: the bytes that went over it are those of their frames.
use Rattle.std.specs.Prelude.{◌≡◌, ◌<◌, ℕ, zero, suc, false, List, [], ◌∷◌, ◌++◌, map, take, Some, None, Ok}
use Rattle.std.specs.List.{AllByRecursion, concat}
use mathlib.Core.List.{IsPrefix}
use Rattle.fix_tags.specs.Stamp.{StampParts}
use Rattle.fix_tags.specs.declared.envelope.Envelope.{Envelope}
use Rattle.dialect.specs.declared.message.Message.{Message}
use Rattle.dialect.specs.declared.outgoing.Outgoing.{Outgoing}
use Rattle.dialect.specs.Framed.{IsFramed}
use Rattle.dialect.specs.Message.{decoded}
use Rattle.dialect.specs.Outgoing.{alone}
use Rattle.dialect.specs.Wording.{Encoding, Decoding, Wording}
use Rattle.dialect.specs.Writable.{IsWritable}
use Rattle.session_core.specs.declared.session_call.SessionCall.{SessionCall}
use Rattle.session_core.specs.declared.session_call.SessionCall.TheVariants as call
use Rattle.session_core.specs.Session.{SessionParts, is_connected}
use Rattle.session_core.specs.Trial.{called, after_calls}
use Rattle.session_worker.specs.Hearing.{Said, said_with, AreFirstSaid}
use Rattle.session_worker.specs.Speaking.{Wire, messages_in, Speak}

-- the frames are those of these messages, one each and in order, each written at some moment
abbrev pub AreWritten : Encoding → List Outgoing → List (List ℕ) → Type 0
AreWritten w [] [] = Unit {0}
AreWritten w [] (bytes ∷ frames) = ⊥
AreWritten w (out ∷ written) [] = ⊥
AreWritten w (out ∷ written) (bytes ∷ frames) =
    ((stamp : StampParts) × IsFramed w stamp out bytes) × AreWritten w written frames

-- the bytes are the first ones of the frames of these messages: all of them, or less
pub record AreFirstOf (w : Encoding) (written : List Outgoing) (bytes : List ℕ) : Type 0 where
  pub frames : List (List ℕ)
  pub are : AreWritten w written frames
  pub first : IsPrefix bytes (concat frames)

-- what valid frames say are messages alone, and these are the first of those that were written, each as it was
pub record SaysFirst (read : Decoding) (written : List Message) (said : Said) : Type 0 where
  pub envelopes : List Envelope
  pub says : said ≡ map (λ e. Ok e) envelopes
  pub first : IsPrefix (map (decoded read) envelopes) written

abbrev pub messages_of : List Outgoing → List Message
messages_of written = map (λ out. out.message) written

-- whatever is read of the first bytes of the frames of messages that can be written are the first of these messages
abbrev pub TheFramesTheorem : Wording → Type 0
TheFramesTheorem w = (written : List Outgoing) (bytes : List ℕ) (said : Said) → AllByRecursion IsWritable written
    → AreFirstOf w.encoding written bytes → AreFirstSaid bytes said
    → SaysFirst w.decoding (messages_of written) said

-- the messages that a session wrote since its last Connect: with those of a call, where it had written these before
abbrev pub written_with : Decoding → SessionParts → List Message → SessionCall → List Message
written_with read s written call.Connect = messages_in (called read s call.Connect).0
written_with read s written made = written ++ messages_in (called read s made).0

-- and after these calls
abbrev pub written_after : Decoding → SessionParts → List Message → List SessionCall → List Message
written_after read s written [] = written
written_after read s written (made ∷ calls) =
    written_after read (called read s made).1 (written_with read s written made) calls

-- the bytes that the connection took which was dialled last are the first ones of their frames
abbrev pub HasWritten : Encoding → List Message → Wire → Type 0
HasWritten w written None = Unit {0}
HasWritten w written (Some []) = ⊥
HasWritten w written (Some (last ∷ others)) = AreFirstOf w (map alone written) last.written

-- what the link tells after the first so many calls
abbrev pub wire_at : (w : Wording) (s : SessionParts) (said : Said) (n : ℕ) (calls : List SessionCall)
    (wire after : Wire) → Speak w s said calls wire after → Wire
wire_at w s said zero calls wire after speak = wire
wire_at w s said (suc n) [] wire after speak = after
wire_at w s said (suc n) (made ∷ later) wire after speak =
    wire_at w (called w.decoding s made).1 (said_with said made) n later speak.0 after speak.2

-- a session has begun a connection since it stood so
abbrev pub HasDialled : SessionParts → SessionParts → Type 0
HasDialled before s = before.connection < s.connection

-- at each moment of a session that begins with no connection, once it has begun one
abbrev pub TheWritingTheorem : Wording → Type 0
TheWritingTheorem w = (s : SessionParts) (calls : List SessionCall) (wire after : Wire) → is_connected s.phase ≡ false
    → (speak : Speak w s [] calls wire after) (n : ℕ) → HasDialled s (after_calls w.decoding s (take n calls))
    → HasWritten w.encoding (written_after w.decoding s [] (take n calls)) (wire_at w s [] n calls wire after speak)
