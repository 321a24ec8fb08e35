use Rattle.exchange_core.proofs.Reporting.{reject_fit}
use Rattle.exchange_core.proofs.exchange.Exchange.reject.Goals as goal

pub report-requires-clause-fit : goal.report-requires-clause-fit
report-requires-clause-fit g c =
    reject_fit c.args.self.now c.args.place c.in_ok-decision.decision c.in_ok-decision.ensures.sound c.in_ok-decision.ensures.answer
