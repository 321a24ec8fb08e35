use Rattle.std.proofs.Common.{[]}
use Rattle.log_rules.specs.Checker.{new_checker}
use Rattle.log_rules.proofs.ReportsFollow.{reports_follow}
use Rattle.log_rules.proofs.laws.reports_follow_orders.Goals as goal

pub returns : goal.returns
returns c entries held = reports_follow new_checker entries [] held (λ id known. cc)
