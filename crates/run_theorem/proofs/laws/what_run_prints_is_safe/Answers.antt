use Rattle.run_theorem.proofs.Printed.{the_run_theorem}
use Rattle.run_theorem.proofs.laws.what_run_prints_is_safe.Goals as goal

pub returns : goal.returns
returns c = the_run_theorem
