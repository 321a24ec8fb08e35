use Rattle.std.proofs.Common.{append_assoc}
use Rattle.desk_news.proofs.venue_state.VenueStateDisplay.fmt.Goals as goal

pub returns-in-Unreachable-clause-writes : goal.returns-in-Unreachable-clause-writes
returns-in-Unreachable-clause-writes g c =
    λ plain written. rw c.in-Unreachable.is (simp append_assoc (c.write-in-Unreachable.ensures.writes plain written))
