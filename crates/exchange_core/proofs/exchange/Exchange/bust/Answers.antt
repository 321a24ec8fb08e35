use Rattle.exchange_core.proofs.Reporting.{bust_fit}
use Rattle.exchange_core.proofs.exchange.Exchange.bust.Goals as goal

pub report-requires-clause-fit : goal.report-requires-clause-fit
report-requires-clause-fit g c =
    bust_fit c.args.self.now c.args.place c.args.which c.in_ok-decision.decision c.in_ok-decision.ensures.sound c.in_ok-decision.ensures.answer
