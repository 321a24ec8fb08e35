use Rattle.std.proofs.Common.{rules, ◌≡◌, Option, Some, Ok, Err, Result, subst}
use Rattle.script.specs.declared.day_event.DayEvent.{DayEvent}
use Rattle.script.specs.DayScript.{day_said_by}
use Rattle.replay_command.specs.Days.{Ending, said_end}
use Rattle.replay_command.specs.Stream.{GivesEvent, RunsLine}
use Rattle.replay_command.specs.declared.fault.CommandFault.{CommandFault}
use Rattle.replay_command.proofs.InputRuns.{event_said, line_not_given}
use Rattle.replay_command.proofs.StepsPrinted.{passed_line, printed_line}
use Rattle.replay_command.proofs.day.run_line.Goals as goal

pub returns-in_err-event-clause-runs : goal.returns-in_err-event-clause-runs
returns-in_err-event-clause-runs g c =
    let day = c.args.course.now.day in
    let number = c.args.line.now.number in
    let said = day_said_by c.args.venues c.args.line.now.text.now in
    let same : Err c.in_err-event.field-0.0 ≡ c.from_residual.result = search rules in
    subst (λ (r : Result (Unit {0}) CommandFault). RunsLine c.args.steps r day (said_end number day said)) same
    (line_not_given c.args.steps number day day said c.in_err-event.field-0.0 c.in_err-event.ensures)

pub returns-clause-runs : goal.returns-clause-runs
returns-clause-runs g c =
    let day = c.args.course.now.day in
    let number = c.args.line.now.number in
    let said = day_said_by c.args.venues c.args.line.now.text.now in
    let gives = subst (λ (e : Option DayEvent). GivesEvent (Ok e) number said) c.in-Some.is c.in_ok-event.ensures in
    subst (λ (e : Ending). RunsLine c.args.steps c.run_said.result c.run_said.new.course.day e)
    (event_said number day said c.in-Some.event gives) c.run_said.ensures.runs

pub returns-clause-prints : goal.returns-clause-prints
returns-clause-prints g c on =
    let number = c.args.line.now.number in
    let said = day_said_by c.args.venues c.args.line.now.text.now in
    let gives = subst (λ (e : Option DayEvent). GivesEvent (Ok e) number said) c.in-Some.is c.in_ok-event.ensures in
    printed_line number c.args.line.now.text.now c.args.course.now c.run_said.new.course said c.in-Some.event
    (g.W.Write.contents c.args.out.now) (g.W.Write.contents c.run_said.new.out) c.run_said.result gives
    (c.run_said.ensures.told on) (c.run_said.ensures.step on)

pub returns-in_default-clause-prints : goal.returns-in_default-clause-prints
returns-in_default-clause-prints g c on =
    let number = c.args.line.now.number in
    let said = day_said_by c.args.venues c.args.line.now.text.now in
    let gives = subst (λ (e : Option DayEvent). GivesEvent (Ok e) number said) c.in_default.is c.in_ok-event.ensures in
    passed_line number c.args.line.now.text.now c.args.course.now said (g.W.Write.contents c.args.out.now) gives
