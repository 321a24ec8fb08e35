use Rattle.event_text.proofs.idle_text.IdleTextDisplay.fmt.Goals as goal

pub returns-in-AnotherThere-clause-writes : goal.returns-in-AnotherThere-clause-writes
returns-in-AnotherThere-clause-writes g c = rw c.in-AnotherThere.is c.write-in-AnotherThere.ensures.writes
