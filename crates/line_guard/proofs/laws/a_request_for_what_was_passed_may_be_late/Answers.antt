use Rattle.line_guard.proofs.Late.{asked_when_up}
use Rattle.line_guard.proofs.laws.a_request_for_what_was_passed_may_be_late.Goals as goal

pub returns : goal.returns
returns c = asked_when_up
