use Rattle.std.proofs.Common.{length}
use Rattle.script.proofs.Venues.{VenuesSoFar}
use Rattle.script.proofs.head.read_venues.Given as goal

abbrev pub invariant-loop-word : goal.invariant-loop-word
invariant-loop-word l = VenuesSoFar l.venues.items l.words l.fn.words

abbrev pub decreases-loop-word : goal.decreases-loop-word
decreases-loop-word l = length l.words
