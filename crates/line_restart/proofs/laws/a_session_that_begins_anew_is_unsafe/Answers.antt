use Rattle.line_restart.proofs.UnsafeStarts.{is_begun_anew}
use Rattle.line_restart.proofs.laws.a_session_that_begins_anew_is_unsafe.Goals as goal

pub returns : goal.returns
returns c = is_begun_anew
