use Rattle.clock.proofs.utc_clock.UtcClock.tell.Goals as goal

pub returns-clause-last : goal.returns-clause-last
returns-clause-last g c = rw c.in-Ok.is (c.stamp_at.result, c.stamp_at.ensures, c.unwrap_or-self.ensures)
