use Rattle.std.proofs.Common.{length}
use Rattle.schedule.specs.Script.{events_of_lines}
use Rattle.script.proofs.EventsSoFar.{EventsSoFar}
use Rattle.script.proofs.read.read_events.Given as goal

abbrev pub invariant-loop-line : goal.invariant-loop-line
invariant-loop-line l = EventsSoFar l.events.is_refused l.events.items.items (events_of_lines l.venues l.lines.number l.lines.lines) (events_of_lines l.venues l.fn.lines.number l.fn.lines.lines)

abbrev pub decreases-loop-line : goal.decreases-loop-line
decreases-loop-line l = length l.lines.lines
