use Rattle.day_executions.proofs.Calls.{nothing_looked}
use Rattle.day_executions.proofs.laws.nothing_is_an_index.Goals as goal

pub returns : goal.returns
returns c = nothing_looked
