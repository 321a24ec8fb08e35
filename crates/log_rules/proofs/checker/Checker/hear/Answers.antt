use Rattle.std.proofs.Common.{option_map}
use Rattle.log_rules.proofs.Heard.{heard_in_parts}
use Rattle.log_rules.proofs.checker.Checker.hear.Goals as goal

pub returns-clause-ok : goal.returns-clause-ok
returns-clause-ok c =
    heard_in_parts (record { standing = c.self.inside.standing; ledger = c.self.inside.ledger; chains = c.self.inside.chains })
    c.args.self.now c.args.entry.now c.after-self-inside.result c.hear.new.self c.go_on.new.self c.verdicts-verdicts.result
    c.number_of_report-number.result (option_map (λ id. id.items) c.in_ok-order.order)
    c.self.view_is c.verdicts-verdicts.ensures c.number_of_report-number.ensures c.in_ok-order.ensures
    c.after-self-inside.ensures c.in_ok-hear.ensures.ok c.go_on.ensures
