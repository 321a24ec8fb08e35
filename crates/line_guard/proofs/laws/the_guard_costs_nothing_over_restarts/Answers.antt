use Rattle.line_guard.proofs.Asked.{the_guard_over_restarts}
use Rattle.line_guard.proofs.laws.the_guard_costs_nothing_over_restarts.Goals as goal

pub returns : goal.returns
returns c = the_guard_over_restarts
