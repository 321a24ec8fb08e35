use Rattle.std.proofs.Common.{length, ap, arith}
use Rattle.exchange_core.specs.SentRecord.{report_count}
use Rattle.exchange_core.proofs.Kept.{reports_counted}
use Rattle.exchange_core.proofs.exchange.Exchange.next_count.Goals as goal

pub returns : goal.returns
returns c =
    let x = c.self.inside in
    omega (arith, c.len.ensures, x.reports.ok.0, ap length c.self.invariant.reports, reports_counted x.own.items, ap (λ s. report_count s.own) c.self.view_is)
