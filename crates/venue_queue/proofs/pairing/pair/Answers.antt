use Rattle.std.proofs.Common.{ap}
use Rattle.venue_queue.proofs.Keeps.{begins, forks}
use Rattle.venue_queue.proofs.pairing.pair.Goals as goal

pub ruled-requires-clause-rule : goal.ruled-requires-clause-rule
ruled-requires-clause-rule c = begins

pub another-draining-requires-clause-rule : goal.another-draining-requires-clause-rule
another-draining-requires-clause-rule c =
    forks _ _ (ap (λ v. v.feeds) c.in_ok-ring.ensures.3) (ap (λ v. v.drains) c.in_ok-ring.ensures.3)
