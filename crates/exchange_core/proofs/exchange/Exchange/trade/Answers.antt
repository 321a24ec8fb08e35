use Rattle.exchange_core.proofs.Reporting.{trade_fit}
use Rattle.exchange_core.proofs.exchange.Exchange.trade.Goals as goal

pub report-requires-clause-fit : goal.report-requires-clause-fit
report-requires-clause-fit g c =
    trade_fit c.args.self.now c.args.place c.args.shares c.args.px c.in_ok-decision.decision c.in_ok-decision.ensures.sound c.in_ok-decision.ensures.price c.in_ok-decision.ensures.answer
