use Rattle.std.proofs.Common.{append_assoc}
use Rattle.order_limits.proofs.over.OverDisplay.fmt.Goals as goal

pub returns-in-LegShares-clause-writes : goal.returns-in-LegShares-clause-writes
returns-in-LegShares-clause-writes g c =
    λ plain written. rw c.in-LegShares.is (simp append_assoc (c.write.ensures.writes plain written))

pub returns-in-LegDollars-clause-writes : goal.returns-in-LegDollars-clause-writes
returns-in-LegDollars-clause-writes g c =
    λ plain written. rw c.in-LegDollars.is (simp append_assoc (c.write-in-LegDollars.ensures.writes plain written))

pub returns-in-SweepDollars-clause-writes : goal.returns-in-SweepDollars-clause-writes
returns-in-SweepDollars-clause-writes g c =
    λ plain written. rw c.in-SweepDollars.is (simp append_assoc (c.write-in-SweepDollars.ensures.writes plain written))

pub returns-in-DayDollars-clause-writes : goal.returns-in-DayDollars-clause-writes
returns-in-DayDollars-clause-writes g c =
    λ plain written. rw c.in-DayDollars.is (simp append_assoc (c.write-in-DayDollars.ensures.writes plain written))

pub returns-in-OtherSymbol-clause-writes : goal.returns-in-OtherSymbol-clause-writes
returns-in-OtherSymbol-clause-writes g c =
    λ plain written. rw c.in-OtherSymbol.is (c.write-in-OtherSymbol.ensures.writes plain written)
