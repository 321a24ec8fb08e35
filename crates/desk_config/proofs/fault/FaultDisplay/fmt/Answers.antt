use Rattle.std.proofs.Common.{append_assoc}
use Rattle.desk_config.proofs.fault.FaultDisplay.fmt.Goals as goal

pub returns-in-Bad-clause-writes : goal.returns-in-Bad-clause-writes
returns-in-Bad-clause-writes g c =
    λ plain written.
    rw c.in-Bad.is (rw (← c.wants-wants.ensures) (simp append_assoc (c.write-in-Bad.ensures.writes plain written)))

pub returns-in-Host-clause-writes : goal.returns-in-Host-clause-writes
returns-in-Host-clause-writes g c =
    λ plain written.
    rw c.in-Host.is (simp append_assoc (c.write-in-Host.ensures.writes plain written))

pub returns-in-Symbol-clause-writes : goal.returns-in-Symbol-clause-writes
returns-in-Symbol-clause-writes g c =
    λ plain written.
    rw c.in-Symbol.is (simp append_assoc (c.write-in-Symbol.ensures.writes plain written))

pub returns-in-DeskName-clause-writes : goal.returns-in-DeskName-clause-writes
returns-in-DeskName-clause-writes g c =
    λ plain written.
    rw c.in-DeskName.is (simp append_assoc (c.write-in-DeskName.ensures.writes plain written))

pub returns-in-Right-clause-writes : goal.returns-in-Right-clause-writes
returns-in-Right-clause-writes g c =
    λ plain written.
    rw c.in-Right.is (simp append_assoc (c.write-in-Right.ensures.writes plain written))

pub returns-in-RightTwice-clause-writes : goal.returns-in-RightTwice-clause-writes
returns-in-RightTwice-clause-writes g c =
    λ plain written.
    rw c.in-RightTwice.is (simp append_assoc (c.write-in-RightTwice.ensures.writes plain written))

pub returns-in-Address-clause-writes : goal.returns-in-Address-clause-writes
returns-in-Address-clause-writes g c =
    λ plain written.
    rw c.in-Address.is (simp append_assoc (c.write-in-Address.ensures.writes plain written))
