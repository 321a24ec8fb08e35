use Rattle.std.proofs.Common.{rules, ◌≡◌, true, Result, Err, ap, subst, ◌∙◌}
use Rattle.script.specs.declared.day_event.DayEvent.TheVariants.{Crash}
use Rattle.world_restart.specs.Start.{Day, day_started, may_lose}
use Rattle.event_text.specs.Crash.{settled_again}
use Rattle.replay_command.specs.Steps.{Told}
use Rattle.replay_command.specs.declared.fault.CommandFault.{CommandFault}
use Rattle.replay_command.specs.Days.{event_end}
use Rattle.replay_command.specs.Stream.{RunsLine}
use Rattle.replay_command.proofs.Crashes.{crash_led, told_crash, told_too}
use Rattle.replay_command.proofs.crash_step.tell_crash.Goals as goal

pub returns-in_err-crash-clause-runs : goal.returns-in_err-crash-clause-runs
returns-in_err-crash-clause-runs g c =
    let ending = event_end c.args.line.now.number c.args.course.now.day (Crash c.args.loss.now) in
    let same : Err c.in_err-crash.field-0.0 ≡ c.from_residual-in_err-crash.result = search rules in
    subst (λ (r : Result (Unit {0}) CommandFault). RunsLine true r c.crash.new.course.day ending) same
    (told_too c.in_err-crash.field-0.0 ending c.in_err-crash.ensures.runs)

pub returns-clause-told : goal.returns-clause-told
returns-clause-told g c =
    let old = c.args.course.now in
    let loss = c.args.loss.now in
    let led = crash_led (may_lose old.day loss) c.args.line.now.number (day_started old.day loss) c.crash.new.course.day
    c.in_ok-crash.ensures.runs in
    let day : c.course-2.inside.day ≡ day_started old.day loss =
    ap (λ (t : Told). t.day) c.course-2.view_is ∙ led in
    told_crash old loss c.course-2.inside.day c.course-2.inside.events c.start_again-course-inside.result
    c.print_step.result day (ap (λ (t : Told). t.events) c.course-2.view_is ∙ c.in_ok-crash.ensures.same.0)
    (c.start_again-course-inside.ensures
    ∙ ap settled_again (c.world-3.ensures ∙ ap (λ (d : Day). d.world) day))
