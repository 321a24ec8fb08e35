-- Frames that an exchange wrote: what is read of them, and the connection of the last one.
use Rattle.std.proofs.Common.{◌≡◌, ℕ, suc, ◌-◌, All, List, [], ◌∷◌, ◌++◌, length, Option, Some, None, refl, sym, ap, ◌∙◌, arith}
use Rattle.std.specs.Prelude.{IfSome, slice_get}
use Rattle.std.specs.Option.{option_map}
use Rattle.std.specs.Global.{Vec}
use Rattle.std.specs.List.{AllByRecursion}
use Rattle.std.proofs.lemmas.List.{append-nil}
use Rattle.dialect.specs.declared.outgoing.Outgoing.{Outgoing}
use Rattle.dialect.specs.Framed.{AreFramed}
use Rattle.dialect.specs.Wording.{Decoding, Encoding}
use Rattle.dialect.specs.Writable.{IsWritable}
use Rattle.dialect.proofs.FrameBack.{Agrees}
use Rattle.exchange_core.specs.Frames.{bytes_of}
use Rattle.schedule.specs.Happening.{in_connection, messages_of}
use Rattle.venue_replay.specs.declared.frame.Frame.{Frame}
use Rattle.venue_replay.specs.Network.{moment, all_said, IsWritten}
use Rattle.venue_replay.specs.AtVenue.{written_in}
use Rattle.venue_replay.specs.Kept.{last_connection}
use Rattle.venue_replay.proofs.FramesRead.{reads}

-- what was written of an exchange's messages
pub said_written : (w : Encoding) (r : Decoding) → Agrees w r → (connection : ℕ) (out : List Outgoing) (written : List (Vec ℕ))
    → All IsWritable out → AreFramed w moment out (bytes_of written)
    → all_said r (written_in connection written) ≡ in_connection connection (messages_of out)
said_written w r agrees connection [] [] can framed = refl
said_written w r agrees connection [] (bytes ∷ written) can framed = absurd framed
said_written w r agrees connection (m ∷ out) [] can framed = absurd framed
said_written w r agrees connection (m ∷ out) (bytes ∷ written) can framed =
    let first = reads w r agrees m bytes.items (can 0 m (omega arith)) framed.0 in
    let next = said_written w r agrees connection out written (λ k d inside. can (suc k) d (omega (arith, inside))) framed.1 in
    λ k. record { connection = connection; message = first k } ∷ next k

pub are_written : (w : Encoding) (connection : ℕ) (out : List Outgoing) (written : List (Vec ℕ)) → All IsWritable out
    → AreFramed w moment out (bytes_of written)
    → AllByRecursion (IsWritten w) (written_in connection written)
are_written w connection [] [] can framed = tt
are_written w connection [] (bytes ∷ written) can framed = absurd framed
are_written w connection (m ∷ out) [] can framed = absurd framed
are_written w connection (m ∷ out) (bytes ∷ written) can framed = (
  record { out = m; writable = can 0 m (omega arith); framed = framed.0 },
  are_written w connection out written (λ k d inside. can (suc k) d (omega (arith, inside))) framed.1,
)

-- the connection of the last frame
pub last_none : (frames : List Frame) (connection : ℕ) → last_connection (frames ++ written_in connection []) ≡ last_connection frames
last_none frames connection = ap last_connection (append-nil frames)

pub last_written : (frames : List Frame) (connection : ℕ) (bytes : Vec ℕ) (written : List (Vec ℕ))
    → last_connection (frames ++ written_in connection (bytes ∷ written)) ≡ Some connection
last_written [] connection bytes [] = refl
last_written [] connection bytes (more ∷ written) = last_written [] connection more written
last_written (frame ∷ []) connection bytes written = last_written [] connection bytes written
last_written (frame ∷ next ∷ frames) connection bytes written = last_written (next ∷ frames) connection bytes written

pub last_is : (frames : List Frame)
    → option_map (λ (frame : Frame). frame.connection) (slice_get frames (length frames - 1)) ≡ last_connection frames
last_is [] = refl
last_is (frame ∷ []) = refl
last_is (frame ∷ next ∷ frames) =
    let place : suc (suc (length frames)) - 1 ≡ suc (length frames) = omega arith in
    let on : suc (length frames) - 1 ≡ length frames = omega arith in
    ap (λ (n : ℕ). option_map (λ (f : Frame). f.connection) (slice_get (frame ∷ next ∷ frames) n)) place
    ∙ (ap (λ (n : ℕ). option_map (λ (f : Frame). f.connection) (slice_get (next ∷ frames) n)) (sym on) ∙ last_is (next ∷ frames))

-- what holds of what is there
pub if_some : {A : Type 0} (o : Option A) (P : A → Type 0) → ((x : A) → o ≡ Some x → P x) → IfSome o P
if_some (Some x) P holds = holds x refl
if_some None P holds = tt

pub some_if : {A : Type 0} (o : Option A) (P : A → Type 0) (x : A) → IfSome o P → o ≡ Some x → P x
some_if o P x holds is = rw is at holds
