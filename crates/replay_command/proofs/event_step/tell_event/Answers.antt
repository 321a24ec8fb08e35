use Rattle.std.proofs.Common.{◌≡◌, ◌+◌, ℕ, List, ap, subst, ◌∙◌}
use Rattle.std.specs.Prelude.{OnOk}
use Rattle.std.specs.Io.KnownBytes.{Appends}
use Rattle.schedule.specs.World.{World}
use Rattle.world_restart.specs.Start.{Day}
use Rattle.event_text.specs.Before.{before_of}
use Rattle.replay_command.specs.Steps.{step_line}
use Rattle.replay_command.proofs.StepsPrinted.{printed_deeds}
use Rattle.replay_command.proofs.event_step.tell_event.Goals as goal

pub returns-clause-step : goal.returns-clause-step
returns-clause-step g c =
    let event = c.args.event in
    let number = c.args.line.now.number in
    let line = c.args.line.now.text.now in
    let out = g.W.Write.contents c.args.out.now in
    let new = g.W.Write.contents c.print_step.new.out in
    let made = subst (λ (d : List ℕ). OnOk c.print_step.result
    (Appends out new (step_line (c.course.inside.events + 1) number line d))) c.deref.ensures.value
    c.print_step.ensures.out in
    printed_deeds c.args.course.now event number line out new c.print_step.result c.course.inside.day
    c.course.inside.events c.course.inside.settled c.in_ok-before.before c.world-2.result.now c.in_ok-told.told
    c.in_ok-deeds.deeds.items c.course.view_is
    (c.in_ok-before.ensures ∙ ap (λ (w : World). before_of w event) c.world.ensures)
    (c.world-2.ensures ∙ ap (λ (d : Day). d.world) c.in_ok-told.ensures.day) c.in_ok-told.ensures.told
    c.in_ok-deeds.ensures.text made
