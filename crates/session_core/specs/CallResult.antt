-- What a call of a session hands its caller: the frames that it wrote, and what it says beside them.
use Rattle.std.specs.Prelude.{◌≡◌, ◌+◌, ◌<◌, length, map, Result, Ok, Err}
use Rattle.fix_tags.specs.Stamp.{StampParts}
use Rattle.dialect.specs.Framed.{AreFramed}
use Rattle.dialect.specs.Wording.{Encoding}
use Rattle.dialect.specs.Outgoing.{alone}
use Rattle.session_core.specs.declared.session_fault.SessionFault.{SessionFault}
use Rattle.session_core.specs.declared.session_fault.SessionFault.TheVariants.{OutOfMemory}
use Rattle.session_core.specs.declared.step.Step.{Step}
use Rattle.session_core.specs.Session.{SessionParts}
use Rattle.session_core.specs.Turn.{StepParts}
use Rattle.session_core.specs.Calling.{SessionAnswer}

-- the step that was said, with the frames of its messages
pub record IsStep (w : Encoding) (stamp : StampParts) (said : StepParts) (step : Step) : Type 0 where
  pub out : AreFramed w stamp (map alone said.written) step.out
  pub note : step.note ≡ said.note
  pub withdrawn : step.withdrawn ≡ said.withdrawn
  pub ended : step.ended ≡ said.ended

-- what is said takes memory: a frame is written, or legs are withdrawn
abbrev pub TakesMemory : StepParts → Type 0
TakesMemory said = 0 < length said.written + length said.withdrawn

-- the definition's answer and the state after it; or out of memory, where it would have been Ok, and nothing changed
abbrev pub Gives : {X Y : Type 0} → (X → Y → Type 0) → SessionParts → SessionAnswer X → Result Y SessionFault
    → SessionParts → Type 0
Gives Is before (Err fault, after) result now = (result ≡ Err fault) × (now ≡ after)
Gives Is before (Ok said, after) (Ok given) now = Is said given × (now ≡ after)
Gives Is before (Ok said, after) (Err fault) now = (fault ≡ OutOfMemory) × (now ≡ before)
