-- What an exchange keeps of itself, so that whatever it writes can be written: each number and text in its range.
use Rattle.std.specs.Prelude.{◌≤◌, length, Ok}
use Rattle.std.specs.List.{AllByRecursion}
use Rattle.fix_tags.specs.Config.{IsConfig}
use Rattle.leg.specs.Leg.{IsLeg}
use Rattle.dialect.specs.FreeText.{IsFreeText}
use Rattle.dialect.specs.declared.content.Content.{Content}
use Rattle.dialect.specs.declared.content.Content.TheVariants.{Session, Order}
use Rattle.fix_tags.specs.declared.session_body.SessionBody.TheVariants.{Logon, TestRequest}
use Rattle.dialect.specs.declared.message.Message.{Message}
use Rattle.dialect.specs.Writable.{IsReference, IsReportBeside}
use Rattle.exchange_core.specs.Order.{OrderParts, TradeParts}
use Rattle.exchange_core.specs.declared.sent_record.SentRecord.{SentRecord}
use Rattle.exchange_core.specs.declared.sent_record.SentRecord.TheVariants.{Admin, Reported, Refused}
use Rattle.exchange_core.specs.Exchange.{ExchangeParts}
use Rattle.exchange_core.specs.Keeping.{IsLastLive, OwnNumbersFit, IsExpectable, IsInRange}
use Rattle.exchange_core.specs.Shares.{SharesAddUp}

-- what comes is in the ranges that are read: an interval (108), the id of a test (112), a leg
abbrev pub IsReadContent : Content → Type 0
IsReadContent (Session (Logon heart reset next)) = heart ≤ 999_999
IsReadContent (Session (TestRequest id)) = IsFreeText 64 id
IsReadContent (Order (Ok leg)) = IsLeg leg
IsReadContent content = Unit {0}

pub record IsRead (m : Message) : Type 0 where
  pub range : IsInRange m
  pub content : IsReadContent m.content

-- the count in the ExecID of a trade is in range
abbrev pub IsTradeSound : TradeParts → Type 0
IsTradeSound trade = IsReference trade.exec

-- an order of a leg in range, whose shares add up
pub record IsOrderSound (order : OrderParts) : Type 0 where
  pub leg : IsLeg order.leg
  pub adds : SharesAddUp order
  pub trades : AllByRecursion IsTradeSound order.trades

-- what is kept under an own number can be written again
abbrev pub IsOwnSound : SentRecord → Type 0
IsOwnSound Admin = Unit {0}
IsOwnSound (Reported report view) = IsReportBeside report view
IsOwnSound (Refused number) = IsReference number

pub record IsSound (x : ExchangeParts) : Type 0 where
  pub config : IsConfig x.config
  pub live : IsLastLive x
  pub numbered : OwnNumbersFit x
  pub expectable : IsExpectable x
  pub orders : AllByRecursion IsOrderSound x.orders
  -- each order was reported, so there are no more of them than own numbers
  pub few : length x.orders ≤ length x.own
  pub own : AllByRecursion IsOwnSound x.own
