use Rattle.std.proofs.Common.{[], arith}
use Rattle.day_log.proofs.Writes.{writes_end}
use Rattle.day_log.proofs.laws.written_messages_are_noted.Goals as goal

pub returns : goal.returns
returns c = λ message writes noted are some fits. writes_end [] message writes noted are some (omega (arith, fits))
