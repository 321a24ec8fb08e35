use Rattle.line_guard.proofs.Asked.{the_guard_costs_nothing}
use Rattle.line_guard.proofs.laws.the_guard_costs_nothing.Goals as goal

pub returns : goal.returns
returns c = the_guard_costs_nothing
