-- A message as it is written: beside a report stands what its exchange knew of the order.
use Rattle.std.specs.Prelude.{None}
use Rattle.dialect.specs.declared.message.Message.{Message}
use Rattle.dialect.specs.declared.outgoing.Outgoing.{Outgoing}

-- a message that is no report has nothing beside it
abbrev pub alone : Message → Outgoing
alone m = record { message = m; beside = None }
