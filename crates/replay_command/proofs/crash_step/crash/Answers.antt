use Rattle.std.proofs.Common.{◌≡◌, false, Result, sym, ap, subst, ◌∙◌}
use Rattle.std.specs.Result.{is_ok}
use Rattle.script.specs.declared.day_event.DayEvent.TheVariants.{Crash}
use Rattle.world_restart.specs.Start.{Loss, may_lose}
use Rattle.world_restart.specs.Day.{after_crash}
use Rattle.replay_command.specs.declared.fault.CommandFault.{CommandFault}
use Rattle.replay_command.specs.Days.{event_end}
use Rattle.replay_command.specs.Steps.{Told}
use Rattle.replay_command.specs.Stream.{RunsLine}
use Rattle.replay_command.proofs.Crashes.{crash_impossible, crash_over}
use Rattle.replay_command.proofs.crash_step.crash.Goals as goal
use Rattle.replay_command.proofs.crash_step.crash.Goals.{in-Ok, in-Err+in_ok-why_impossible-in-Err}

pub returns-clause-runs : goal.returns-clause-runs
returns-clause-runs c =
    let number = c.args.line.now.number in
    let day = c.args.course.now.day in
    let loss = c.args.loss.now in
    let later = c.crash.new.self in
    let days = ap (λ (t : Told). t.day) c.course.view_is in
    let sweeps = c.sweeps.ensures in
    let lines = c.lines.ensures in
    let same : ◌≡◌ {A = Loss} (record { sweeps = c.sweeps.result; lines = c.lines.result.now }) loss =
    (λ i. record { sweeps = sweeps i; lines = lines i }) in
    let rules = c.in_ok-crash.ensures.rules ∙ (λ i. may_lose (days i) (same i)) in
    elim c.match-branch-2.branch [
      | in-Ok x ↦
          subst (λ (r : Result (Unit {0}) CommandFault). RunsLine false r later (event_end number day (Crash loss)))
          (sym x.result-is)
          (crash_over number day later loss (ap is_ok (sym x.in-Ok.is) ∙ rules)
          (c.in_ok-crash.ensures.day ∙ (λ i. after_crash (days i) (same i))))
      | in-Err+in_ok-why_impossible-in-Err x ↦
          subst (λ (r : Result (Unit {0}) CommandFault). RunsLine false r later (event_end number day (Crash loss)))
          (sym x.result-is) (crash_impossible number day loss (ap is_ok (sym x.in-Err.is) ∙ rules))
    ]
