use Rattle.venue_line.proofs.Partings.{it_logs_out_first}
use Rattle.venue_line.proofs.laws.an_exchange_may_log_out_first.Goals as goal

pub returns : goal.returns
returns c = it_logs_out_first
