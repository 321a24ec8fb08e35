use Rattle.desk_serve.proofs.Counting.{more_counted}
use Rattle.desk_serve.proofs.counted.Counted.add.Goals as goal

pub invariant_of-self-2 : goal.invariant_of-self-2
invariant_of-self-2 c =
    more_counted c.self.inside.of_sweeps.items _ c.self.inside.sums c.in_ok-push.ensures.items c.self.invariant
