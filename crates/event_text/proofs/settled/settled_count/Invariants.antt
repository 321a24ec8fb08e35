use Rattle.std.proofs.Common.{◌≡◌}
use Rattle.event_text.specs.Step.{settled_from}
use Rattle.event_text.proofs.settled.settled_count.Given as goal

abbrev pub invariant-loop-at : goal.invariant-loop-at
invariant-loop-at g l = settled_from l.world l.venue l.at ≡ settled_from l.world l.venue 0
