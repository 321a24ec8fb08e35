use Rattle.std.proofs.Common.{ap}
use Rattle.venue_queue.proofs.Keeps.{merges, both_learn}
use Rattle.venue_queue.proofs.meeting.agree.Goals as goal

pub absorb-requires-clause-rule : goal.absorb-requires-clause-rule
absorb-requires-clause-rule c =
    merges _ _ _ _ (ap (λ v. v.feeds) c.feed.invariant.1) (ap (λ v. v.drains) c.drain.invariant.1)

pub learn_as-requires-clause-rule : goal.learn_as-requires-clause-rule
learn_as-requires-clause-rule c = both_learn _ _
