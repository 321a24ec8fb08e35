use Rattle.std.proofs.Common.{ap}
use Rattle.venue_queue.proofs.Keeps.{keeps_push, feed_learns}
use Rattle.venue_queue.proofs.feed.Feed.push.Goals as goal

pub push_as-requires-clause-rule : goal.push_as-requires-clause-rule
push_as-requires-clause-rule g c =
    (keeps_push _ _ _ _ (ap (λ v. v.feeds) c.self.invariant.1), feed_learns _ _ (ap (λ v. v.feeds) c.self.invariant.1))
