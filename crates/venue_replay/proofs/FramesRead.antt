-- Frames are read as the messages that they were written of.
use Rattle.std.proofs.Common.{◌≡◌, ℕ, List, [], ◌∷◌, ◌++◌, map, refl, sym, ap, ◌∙◌}
use Rattle.std.specs.Global.{Vec}
use Rattle.std.specs.List.{AllByRecursion}
use Rattle.std.proofs.lemmas.List.{append-nil}
use Rattle.fix_text.specs.Reading.{NextFrame}
use Rattle.dialect.specs.declared.message.Message.{Message}
use Rattle.dialect.specs.declared.outgoing.Outgoing.{Outgoing}
use Rattle.dialect.specs.Framed.{IsFramed, AreFramed}
use Rattle.dialect.specs.Wording.{Decoding, Encoding}
use Rattle.dialect.specs.Outgoing.{alone}
use Rattle.dialect.specs.Writable.{IsWritable}
use Rattle.dialect.proofs.FrameBack.{Agrees, frame_back}
use Rattle.session_core.specs.Sound.{AreWritable}
use Rattle.schedule.specs.World as world
use Rattle.schedule.specs.Happening.{in_connection}
use Rattle.venue_replay.specs.declared.frame.Frame.{Frame}
use Rattle.venue_replay.specs.Network.{moment, stream_of, message_of, message_in, said_by, said_in, all_said, IsWritten}
use Rattle.venue_replay.specs.AtVenue.{written_in}

-- a frame of a message that can be written is read as that message
pub reads : (w : Encoding) (r : Decoding) → Agrees w r → (out : Outgoing) (bytes : List ℕ) → IsWritable out
    → IsFramed w moment out bytes
    → said_by r bytes ≡ out.message
reads w r agrees out bytes can framed =
    let back = frame_back w r moment out bytes [] (stream_of bytes) agrees can framed (sym (append-nil bytes)) in
    ap (λ (next : NextFrame). message_in r next.frame) back.next ∙ (ap (message_of r) back.is_read ∙ back.is_decoded)

-- more frames are read as more messages
pub said_more : (r : Decoding) (frames more : List Frame) → all_said r (frames ++ more) ≡ all_said r frames ++ all_said r more
said_more r [] more = refl
said_more r (frame ∷ frames) more = ap (λ (l : List world.Frame). said_in r frame ∷ l) (said_more r frames more)

pub all_more : {A : Type 0} (P : A → Type 0) (xs ys : List A) → AllByRecursion P xs → AllByRecursion P ys
    → AllByRecursion P (xs ++ ys)
all_more P [] ys first next = next
all_more P (x ∷ xs) ys first next = (first.0, all_more P xs ys first.1 next)

-- the frames of the messages of a session's step
pub said_step : (w : Encoding) (r : Decoding) → Agrees w r → (connection : ℕ) (messages : List Message) (written : List (Vec ℕ))
    → AreWritable messages → AreFramed w moment (map alone messages) (map (λ (bytes : Vec ℕ). bytes.items) written)
    → all_said r (written_in connection written) ≡ in_connection connection messages
said_step w r agrees connection [] [] can framed = refl
said_step w r agrees connection [] (bytes ∷ written) can framed = absurd framed
said_step w r agrees connection (m ∷ messages) [] can framed = absurd framed
said_step w r agrees connection (m ∷ messages) (bytes ∷ written) can framed =
    let first = reads w r agrees (alone m) bytes.items can.0 framed.0 in
    let next = said_step w r agrees connection messages written can.1 framed.1 in
    λ k. record { connection = connection; message = first k } ∷ next k

pub written_step : (w : Encoding) (connection : ℕ) (messages : List Message) (written : List (Vec ℕ)) → AreWritable messages
    → AreFramed w moment (map alone messages) (map (λ (bytes : Vec ℕ). bytes.items) written)
    → AllByRecursion (IsWritten w) (written_in connection written)
written_step w connection [] [] can framed = tt
written_step w connection [] (bytes ∷ written) can framed = absurd framed
written_step w connection (m ∷ messages) [] can framed = absurd framed
written_step w connection (m ∷ messages) (bytes ∷ written) can framed = (
  record { out = alone m; writable = can.0; framed = framed.0 },
  written_step w connection messages written can.1 framed.1,
)
