use Rattle.std.proofs.Common.{◌≡◌}
use Rattle.std.proofs.lemmas.Result.{err_from_is_err_and}
use Rattle.session_core.specs.Session.{new_session}
use Rattle.session_core.proofs.AnyCalls.{calls_keep_rules}
use Rattle.session_core.proofs.CallsMade.{step-more, no_step-more, call-wanting, push-wanting}
use Rattle.session_core.proofs.trial_run.trial.Goals as goal
use Rattle.session_core.proofs.trial_run.trial.Goals.{in-Some+in_ok-push, in_default}

pub returns-in_err-step-clause-run : goal.returns-in_err-step-clause-run
returns-in_err-step-clause-run g c =
    let p = err_from_is_err_and c.from_residual.result c.from_residual.ensures.1 in
    let same : p.0 ≡ c.in_err-step.field-0.0 = cc p.2 in
    rw (p.1, same)
    (call-wanting _ c.args.stamp.now _ (new_session c.args.config) c.args.calls.now c.loop-call.call-index
    c.call-item.result c.loop-call-test.true c.call-item.is c.loop-call.session c.make.new.self _
    c.in_err-step.field-0.0 c.loop-call.invariant.0 c.in_err-step.ensures)

pub returns-in_err-step-clause-rules : goal.returns-in_err-step-clause-rules
returns-in_err-step-clause-rules g c = calls_keep_rules _ (new_session c.args.config) c.args.calls.now

pub returns-in_err-push-clause-run : goal.returns-in_err-push-clause-run
returns-in_err-push-clause-run g c =
    let p = err_from_is_err_and c.from_residual-in_err-push.result c.from_residual-in_err-push.ensures.1 in
    rw p.1
    (push-wanting _ c.args.stamp.now _ (new_session c.args.config) c.args.calls.now c.loop-call.call-index
    c.call-item.result c.loop-call-test.true c.call-item.is c.loop-call.session c.make.new.self _ c.in-Some.step p.0
    c.loop-call.invariant.0 (rw c.in-Some.is at c.in_ok-step.ensures) p.2)

pub returns-in_err-push-clause-rules : goal.returns-in_err-push-clause-rules
returns-in_err-push-clause-rules g c = calls_keep_rules _ (new_session c.args.config) c.args.calls.now

pub loop-call-preserved : goal.loop-call-preserved
loop-call-preserved g c =
    elim c.match-branch-2.branch [
      | in-Some+in_ok-push w ↦
          rw w.steps-is
          (step-more _ c.args.stamp.now _ (new_session c.args.config) c.args.calls.now c.loop-call.call-index
          c.call-item.result c.loop-call-test.true c.call-item.is c.loop-call.session c.make.new.self
          c.loop-call.steps.items w.push.new.self.items w.in-Some.step c.loop-call.invariant
          (rw w.in-Some.is at c.in_ok-step.ensures) w.in_ok-push.ensures.items)
      | in_default w ↦
          rw w.steps-is
          (no_step-more _ c.args.stamp.now _ (new_session c.args.config) c.args.calls.now c.loop-call.call-index
          c.call-item.result c.loop-call-test.true c.call-item.is c.loop-call.session c.make.new.self
          c.loop-call.steps.items c.loop-call.invariant (rw w.in_default.is at c.in_ok-step.ensures))
    ]

pub returns-clause-rules : goal.returns-clause-rules
returns-clause-rules g c = calls_keep_rules _ (new_session c.args.config) c.args.calls.now
