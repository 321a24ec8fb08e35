use Rattle.std.proofs.Common.{rules, ◌≡◌, true, Ok, List, ℕ, sym, ap, subst}
use Rattle.std.specs.Prelude.{IfSome}
use Rattle.std.specs.Io.KnownBytes.{Appends}
use Rattle.schedule.specs.World.{World}
use Rattle.replay_command.specs.Days.{end_of}
use Rattle.replay_command.specs.Steps.{PrintsSteps}
use Rattle.replay_command.specs.Stream.{RunsTo, ShowsLast, last_lines}
use Rattle.replay_command.proofs.DayEnds.{day_printed}
use Rattle.replay_command.proofs.print_day.print_day.Goals as goal

pub returns : goal.returns
returns g c =
    let bytes = g.R.Read.remaining c.args.input.now in
    let before = g.W.Write.contents c.args.out.now in
    let between = g.W.Write.contents c.run_input.new.out in
    let after = g.W.Write.contents c.print.new.out in
    let day = c.in_ok-day.day in
    let runs : IfSome bytes (λ all. RunsTo c.args.shown.steps (Ok day) (end_of all)) = search rules in
    let prints : c.args.shown.steps ≡ true → IfSome bytes (λ all. PrintsSteps all before between) =
    λ on. let printed = c.in_ok-day.ensures.prints on in search rules in
    day_printed tt c.args.shown bytes before between after day c.in_ok-text.text.items runs prints
    (λ off. ap g.W.Write.contents (c.in_ok-day.ensures.kept off))
    (subst (λ (w : World). ShowsLast c.args.shown.frames c.in_ok-text.text.items (last_lines c.args.shown.summary w))
    c.world.ensures c.in_ok-text.ensures)
    (subst (λ (t : List ℕ). Appends between after t) c.deref.ensures.value c.in_ok-print.ensures.ok)
