use Rattle.std.proofs.Common.{◌≡◌}
use Rattle.event_text.proofs.SettledAgain.{told_to}
use Rattle.event_text.proofs.settled.Settled.start_again.Given as goal

abbrev pub invariant-loop-number : goal.invariant-loop-number
invariant-loop-number g l = l.told ≡ told_to l.world l.number
