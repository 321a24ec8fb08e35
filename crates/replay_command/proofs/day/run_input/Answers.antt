use Rattle.std.proofs.Common.{◌≡◌, ℕ, List, Bool, Result, length, map, sym, ap, subst, ◌∙◌}
use Rattle.std.specs.Prelude.{IfSome, OnOk}
use Rattle.schedule.specs.Script.{ScriptHead, lines_of}
use Rattle.schedule.specs.World.{opening}
use Rattle.world_restart.specs.Day.{opening_day}
use Rattle.replay_command.specs.Days.{first_day, lines_end}
use Rattle.replay_command.specs.Days.Ending.{Over}
use Rattle.replay_command.specs.Steps.{PrintsLines, dawn}
use Rattle.replay_command.specs.Stream.{RunsTo}
use Rattle.replay_command.proofs.DayEnds.{day_runs}
use Rattle.replay_command.proofs.StepsPrinted.{day_prints}
use Rattle.replay_command.proofs.day.run_input.Goals as goal

pub returns-clause-day : goal.returns-clause-day
returns-clause-day g c =
    let left = g.R.Read.remaining c.begin.new.input in
    let begun = c.in_ok-head.field-0 in
    let venues : c.venue_count.result ≡ length begun.head.venues =
    c.venue_count.ensures.count in
    let next = c.deref.ensures.value ∙ c.in_ok-next.ensures.next in
    let number = c.max_number.ensures.number in
    let first : c.in_ok-day.day ≡ first_day begun.head =
    c.in_ok-day.ensures.day
    ∙ (λ i. opening_day (opening (next i) (number i))) in
    day_runs c.args.steps c.run_lines.result (g.R.Read.remaining c.args.input.now) left begun c.in_ok-day.day
    c.in_ok-head.ensures first
    (subst (λ (k : ℕ). IfSome left (λ rest. RunsTo c.args.steps c.run_lines.result
    (lines_end k begun.number (lines_of rest) (Over c.in_ok-day.day)))) venues
    c.run_lines.ensures.day)

pub returns-clause-prints : goal.returns-clause-prints
returns-clause-prints g c on =
    let left = g.R.Read.remaining c.begin.new.input in
    let start = g.W.Write.contents c.args.out.now in
    let out = g.W.Write.contents c.run_lines.new.out in
    let begun = c.in_ok-head.field-0 in
    let venues : c.venue_count.result ≡ length begun.head.venues =
    c.venue_count.ensures.count in
    let next = c.deref.ensures.value ∙ c.in_ok-next.ensures.next in
    let number = c.max_number.ensures.number in
    let first : c.in_ok-day.day ≡ first_day begun.head =
    c.in_ok-day.ensures.day
    ∙ (λ i. opening_day (opening (next i) (number i))) in
    day_prints c.run_lines.result (g.R.Read.remaining c.args.input.now) left start out begun c.in_ok-day.day
    c.in_ok-head.ensures first
    (subst (λ (k : ℕ). OnOk c.run_lines.result (IfSome left (λ rest.
    PrintsLines k (dawn c.in_ok-day.day) begun.number (lines_of rest) start out))) venues
    (c.run_lines.ensures.prints on))
