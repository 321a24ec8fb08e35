use Rattle.std.proofs.Common.{rules, ◌≡◌, Result, Err, subst}
use Rattle.schedule.specs.Script.{event_of_words, words_of}
use Rattle.script.specs.Crash.{goes}
use Rattle.script.specs.Reading.{ReadsLine}
use Rattle.script.specs.declared.day_event.DayEvent.{DayEvent}
use Rattle.script.specs.declared.line_fault.LineFault.{LineFault}
use Rattle.script.proofs.Goes.{goes_err, goes_ok}
use Rattle.script.proofs.day_event.read_other.Goals as goal

pub returns-in_err-read_event : goal.returns-in_err-read_event
returns-in_err-read_event c =
    let said = event_of_words c.args.venues (words_of c.args.line.now) in
    let same : Err c.in_err-read_event.field-0.0 ≡ c.from_residual.result = search rules in
    subst (λ (r : Result DayEvent LineFault). ReadsLine (goes said) r) same
    (goes_err said c.in_err-read_event.field-0.0 c.in_err-read_event.ensures)

pub returns : goal.returns
returns c =
    goes_ok (event_of_words c.args.venues (words_of c.args.line.now)) c.in_ok-read_event.field-0 c.in_ok-read_event.ensures
