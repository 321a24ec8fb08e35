use Rattle.session_core.proofs.Received.{receive_is_received}
use Rattle.session_core.proofs.laws.what_is_received_leads_onward.Goals as goal

pub returns : goal.returns
returns c = receive_is_received
