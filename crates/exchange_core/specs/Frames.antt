-- What a call gives: frames, each of one message.
use Rattle.std.specs.Prelude.{◌≡◌, ◌<◌, ℕ, length, List, ◌++◌, map, Option, option_to_list, Result, Ok, Err}
use Rattle.std.specs.Global.{Vec}
use Rattle.fix_tags.specs.Stamp.{StampParts}
use Rattle.dialect.specs.Framed.{AreFramed}
use Rattle.dialect.specs.Wording.{Encoding}
use Rattle.dialect.specs.declared.outgoing.Outgoing.{Outgoing}
use Rattle.exchange_core.specs.declared.exchange_fault.ExchangeFault.{ExchangeFault}
use Rattle.exchange_core.specs.declared.exchange_fault.ExchangeFault.TheVariants.{OutOfMemory}
use Rattle.exchange_core.specs.Exchange.{ExchangeParts, Answer}
use Rattle.exchange_core.specs.Acts.{ActAnswer}

-- the frames of a session's own messages are the same in every dialect: they are those in one that writes no orders
-- and no reports
abbrev pub no_dialect : Encoding
no_dialect = record { IsOrder = λ leg stamp fields. ⊥; IsReport = λ report view fields. ⊥; most_fields = 0 }

-- the bytes of each frame
abbrev pub bytes_of : List (Vec ℕ) → List (List ℕ)
bytes_of frames = map (λ (frame : Vec ℕ). frame.items) frames

-- what an act answers: a frame, if something is written
abbrev pub ActResult : Type 0
ActResult = Result (Option (Vec ℕ)) ExchangeFault

-- what an act gives: its refusal; or the frame of what is written, if anything is; or out of memory, where it would
-- not have been refused, and the exchange as it was
abbrev pub ActGives : Encoding → StampParts → ExchangeParts → ActAnswer → ActResult → ExchangeParts → Type 0
ActGives w stamp before (Err fault, after) answer now = (answer ≡ Err fault) × (now ≡ after)
ActGives w stamp before (Ok written, after) (Ok frame) now =
    AreFramed w stamp written (bytes_of (option_to_list frame)) × (now ≡ after)
ActGives w stamp before (Ok written, after) (Err fault) now = (fault ≡ OutOfMemory) × (now ≡ before)

-- an act uses a number of the exchange's own
abbrev pub UsesNumber : ExchangeParts → ActAnswer → Type 0
UsesNumber before (Ok written, after) = length before.own < length after.own
UsesNumber before (Err fault, after) = ⊥

-- the frames of these messages were put behind the others
pub record Writes (w : Encoding) (stamp : StampParts) (written : List Outgoing) (old new : List (Vec ℕ)) : Type 0 where
  pub frames : List (Vec ℕ)
  pub added : new ≡ old ++ frames
  pub framed : AreFramed w stamp written (bytes_of frames)

-- what a message that comes is answered with
abbrev pub TakeResult : Type 0
TakeResult = Result (Vec (Vec ℕ)) ExchangeFault

-- what is given for it: the frames of what is written; or out of memory, and the exchange as it was
abbrev pub TakeGives : Encoding → StampParts → ExchangeParts → Answer → TakeResult → ExchangeParts → Type 0
TakeGives w stamp before (written, after) (Ok frames) now =
    AreFramed w stamp written (bytes_of frames.items) × (now ≡ after)
TakeGives w stamp before (written, after) (Err fault) now = (fault ≡ OutOfMemory) × (now ≡ before)
