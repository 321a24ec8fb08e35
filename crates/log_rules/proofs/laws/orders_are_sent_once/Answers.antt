use Rattle.log_rules.specs.Checker.{new_checker}
use Rattle.log_rules.proofs.SentOnce.{sent_apart}
use Rattle.log_rules.proofs.laws.orders_are_sent_once.Goals as goal

pub returns : goal.returns
returns c entries fine = (sent_apart new_checker entries fine).1
