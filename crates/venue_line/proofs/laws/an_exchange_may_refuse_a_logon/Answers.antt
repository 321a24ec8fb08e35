use Rattle.venue_line.proofs.Partings.{it_refuses_a_logon}
use Rattle.venue_line.proofs.laws.an_exchange_may_refuse_a_logon.Goals as goal

pub returns : goal.returns
returns c = it_refuses_a_logon
