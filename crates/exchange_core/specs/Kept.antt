-- What an exchange keeps, so that no call walks it.
use Rattle.std.specs.Prelude.{◌≡◌, List, [], ◌∷◌}
use Rattle.dialect.specs.declared.report.Report.{Report}
use Rattle.exchange_core.specs.declared.exchange.Exchange.TheInside.{Inside}
use Rattle.exchange_core.specs.declared.sent_record.SentRecord.{SentRecord}
use Rattle.exchange_core.specs.declared.sent_record.SentRecord.TheVariants.{Reported}
use Rattle.exchange_core.specs.Exchange.{ExchangeParts, accepted_by}
use Rattle.exchange_core.specs.Sound.{IsSound}

-- the exchange as a caller sees it
abbrev pub exchange_seen : Inside → ExchangeParts
exchange_seen x = record {
  config = x.config;
  expected = x.expected;
  live = x.live;
  last = x.last;
  orders = x.orders.items;
  closed_at = x.closed_at;
  own = x.own.items;
}

-- the reports among what own numbers were used for
abbrev pub reports_of : List SentRecord → List Report
reports_of [] = []
reports_of (Reported report view ∷ own) = report ∷ reports_of own
reports_of (entry ∷ own) = reports_of own

-- it is sound, and the lists that it lends are those of its orders and its own numbers
pub record IsKept (x : Inside) : Type 0 where
  pub sound : IsSound (exchange_seen x)
  pub accepted : x.accepted.items ≡ accepted_by (exchange_seen x)
  pub reports : x.reports.items ≡ reports_of x.own.items
