use Rattle.std.proofs.Common.{◌≡◌, refl}
use Rattle.std.specs.Prelude.{Ok}
use Rattle.schedule.specs.Script.{events_of_lines}
use Rattle.script.specs.Reading.{said_by}
use Rattle.script.proofs.EventsSoFar.{line_read, next_line}
use Rattle.script.proofs.read.read_events.Goals as goal

pub loop-line-preserved : goal.loop-line-preserved
loop-line-preserved c =
    let line = c.in-Some.line in
    let lines = c.loop-line.lines in
    let behind = c.next.new.self in
    let next =
    next_line c.args.venues lines.number line.number behind.number line.text.now lines.lines behind.lines
    c.in-Some.ensures.lines c.in-Some.ensures.numbers.0 c.in-Some.ensures.numbers.1 in
    line_read c.loop-line.events.is_refused c.keep_line.new.events.is_refused c.loop-line.events.items.items c.keep_line.new.events.items.items
    line.number (said_by c.args.venues line.text.now) (Ok tt) _ _ _ next refl c.in_ok-keep_line.ensures c.loop-line.invariant
