use Rattle.std.proofs.Common.{ap}
use Rattle.venue_queue.proofs.Keeps.{merges, keeps_pop, both_learn}
use Rattle.venue_queue.proofs.meeting.meet.Goals as goal

pub absorb-requires-clause-rule : goal.absorb-requires-clause-rule
absorb-requires-clause-rule g c =
    merges _ _ _ _ (ap (λ v. v.feeds) c.feed.invariant.1) (ap (λ v. v.drains) c.drain.invariant.1)

pub pop_as-requires-clause-rule : goal.pop_as-requires-clause-rule
pop_as-requires-clause-rule g c = (keeps_pop _ _ (ap (λ v. v.drains) c.loop.invariant.1), both_learn _ _)
