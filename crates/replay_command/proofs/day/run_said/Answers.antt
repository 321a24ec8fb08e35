use Rattle.std.proofs.Common.{◌≡◌, sym, subst}
use Rattle.std.specs.Prelude.{OnOk}
use Rattle.script.specs.declared.day_event.DayEvent.{DayEvent}
use Rattle.replay_command.specs.Steps.{told_after}
use Rattle.replay_command.proofs.day.run_said.Goals as goal

pub returns-in-Crash-clause-told : goal.returns-in-Crash-clause-told
returns-in-Crash-clause-told g c on =
    subst (λ (e : DayEvent). OnOk c.run_crash.result (c.run_crash.new.course ≡ told_after c.args.course.now e))
    (sym c.in-Crash.is) (c.run_crash.ensures.told on)
