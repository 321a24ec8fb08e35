use Rattle.std.proofs.Common.{◌≡◌, ◌++◌, true}
use Rattle.std.specs.Arc.{arc_value}
use Rattle.crossbeam_queue.specs.Passes.{view, IsPassOf}
use Rattle.venue_queue.specs.Rule.{hand}
use Rattle.venue_queue.proofs.meeting.meet.Given as goal

abbrev pub invariant-loop : goal.invariant-loop
invariant-loop g l = IsPassOf (arc_value l.ring) l.both × (view l.both ≡ hand true true l.fn.feed.legs (l.fn.drain.legs ++ l.left.items))
