-- What a session promises that is called for a step, whichever call it is.
use Rattle.std.proofs.Common.{◌≡◌, Ok, Err, refl}
use Rattle.std.specs.Prelude.{IfOk}
use Rattle.std.specs.Result.{result_err}
use Rattle.session_core.specs.Session.{SessionParts}
use Rattle.session_core.specs.Turn.{StepParts}
use Rattle.session_core.specs.Calling.{SessionAnswer}
use Rattle.session_core.specs.Sound.{IsSound, AreWritable}
use Rattle.session_core.proofs.Promised.{quiet_sound, quiet_writable, silent_sound, silent_writable, close_sound, close_writable}
use Rattle.venue_replay.specs.declared.step_call.StepCall.{StepCall}
use Rattle.venue_replay.specs.declared.step_call.StepCall.TheVariants.{Quiet, Silent, Close}
use Rattle.venue_replay.specs.AtVenue.{answer_of}
use Rattle.venue_replay.specs.Ending.{ending_of, refusal_of}

pub answer_sound : (made : StepCall) (s : SessionParts) → IsSound s → IsSound (answer_of made s).1
answer_sound Quiet s sound = quiet_sound s sound
answer_sound Silent s sound = silent_sound s sound
answer_sound Close s sound = close_sound s sound

pub answer_writable : (made : StepCall) (s : SessionParts) → IsSound s
    → IfOk (answer_of made s).0 (λ said. AreWritable said.written)
answer_writable Quiet s sound = quiet_writable s sound
answer_writable Silent s sound = silent_writable s sound
answer_writable Close s sound = close_writable s sound

-- the refusal alone, of a call that may also end the connection
pub refusal_alone : (answer : SessionAnswer StepParts) → result_err (ending_of answer) ≡ refusal_of answer
refusal_alone (Ok step, after) = refl
refusal_alone (Err fault, after) = refl
