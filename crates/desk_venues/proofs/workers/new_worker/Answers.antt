use Rattle.desk_venues.proofs.workers.new_worker.Goals as goal

pub invariant_of-link : goal.invariant_of-link
invariant_of-link g c = record { begun = c.args.link.link.link.begun }
