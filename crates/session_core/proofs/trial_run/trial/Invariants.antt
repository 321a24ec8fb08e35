use Rattle.std.proofs.Common.{◌≡◌, take}
use Rattle.session_core.specs.Session.{new_session}
use Rattle.session_core.specs.Trial.{after_calls, steps_of, AreSteps}
use Rattle.session_core.proofs.trial_run.trial.Given as goal

abbrev pub invariant-loop-call : goal.invariant-loop-call
invariant-loop-call g l =
    (l.session
    ≡ after_calls (g.D.Dialect.wording l.dialect).decoding
    (new_session l.fn.config) (take l.call-index l.calls))
    × AreSteps (g.D.Dialect.wording l.dialect).encoding l.stamp
    (steps_of (g.D.Dialect.wording l.dialect).decoding
    (new_session l.fn.config) (take l.call-index l.calls)) l.steps.items
