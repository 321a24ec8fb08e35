use Rattle.std.proofs.Common.{ap}
use Rattle.venue_queue.proofs.Keeps.{keeps_pop, both_learn}
use Rattle.venue_queue.proofs.drain.Drain.pop.Goals as goal

pub pop_as-requires-clause-rule : goal.pop_as-requires-clause-rule
pop_as-requires-clause-rule g c = (keeps_pop _ _ (ap (λ v. v.drains) c.self.invariant.1), both_learn _ _)
