use Rattle.session_core.proofs.LoggedOut.{out_writes_fills}
use Rattle.session_core.proofs.laws.a_logged_out_session_fills_alone.Goals as goal

pub returns : goal.returns
returns c = out_writes_fills
