use Rattle.day_executions.proofs.NothingListed.{nothing_listed}
use Rattle.day_executions.proofs.laws.what_is_not_told_is_not_listed.Goals as goal

pub returns : goal.returns
returns c = nothing_listed
