-- Why a session ended its connection, and why a call was refused.
use Rattle.std.specs.Prelude.{Option, Some, None, Result, Ok, Err}
use Rattle.session_core.specs.declared.ended.Ended.{Ended}
use Rattle.session_core.specs.declared.session_fault.SessionFault.{SessionFault}
use Rattle.session_core.specs.Turn.{StepParts}
use Rattle.session_core.specs.Calling.{SessionAnswer}

-- what a call of the session that gives a step tells: why the connection ended, if it did, or the session's refusal
abbrev pub ending_of : SessionAnswer StepParts → Result (Option Ended) SessionFault
ending_of (Ok step, session) = Ok step.ended
ending_of (Err fault, session) = Err fault

-- the refusal of a call, if it was refused, by what it answers and what is after it
abbrev pub refusal_of : {X F After : Type 0} → Result X F × After → Option F
refusal_of (Ok said, after) = None
refusal_of (Err fault, after) = Some fault
