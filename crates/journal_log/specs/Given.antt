-- The frames that a call of the code gives.
use Rattle.std.specs.Prelude.{ℕ, List, [], ◌∷◌, Result, Ok, Err}
use Rattle.std.specs.Global.{Vec}
use Rattle.session_core.specs.declared.session_fault.SessionFault.{SessionFault}
use Rattle.session_core.specs.declared.step.Step.{Step}

-- a refused call gives none
abbrev pub frames_given : Result Step SessionFault → List (List ℕ)
frames_given (Ok step) = step.out
frames_given (Err fault) = []

abbrev pub frame_given : Result (Vec ℕ) SessionFault → List (List ℕ)
frame_given (Ok frame) = frame.items ∷ []
frame_given (Err fault) = []
