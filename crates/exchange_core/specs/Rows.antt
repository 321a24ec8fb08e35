-- Worked days of one exchange, for the rows.
use Rattle.std.specs.Prelude.{ℕ, zero, suc, true, false, List, [], ◌++◌, codes, Some, None, Ok, Err}
use Rattle.leg.specs.declared.leg.Leg.{Leg}
use Rattle.leg.specs.declared.side.Side.TheVariants.{Buy}
use Rattle.dialect.specs.declared.report.Report.{Report}
use Rattle.dialect.specs.declared.report.ReportKind.{ReportKind}
use Rattle.dialect.specs.declared.content.Content.{Content}
use Rattle.dialect.specs.declared.content.Content.TheVariants.{Session, Order, ExecutionReport}
use Rattle.fix_tags.specs.declared.session_body.SessionBody.TheVariants.{Logon, TestRequest}
use Rattle.dialect.specs.declared.message.Message.{Message}
use Rattle.dialect.specs.OrderView.{OrderViewParts}
use Rattle.dialect.specs.declared.outgoing.Outgoing.{Outgoing}
use Rattle.dialect.specs.Outgoing.{alone}
use Rattle.exchange_core.specs.Order.{order_id}
use Rattle.exchange_core.specs.Exchange.{ExchangeParts, Answer, new_exchange, take}
use Rattle.exchange_core.specs.Acts.{ActAnswer}
use Rattle.exchange_core.specs.Acts as acts

-- the exchange `B`, whose peer is `A`, with numbers below this one
abbrev pub exchange_to : ℕ → ExchangeParts
exchange_to max_number =
    new_exchange (record { me = codes "B"; peer = codes "A"; heart = 30; max_number = max_number; has_next = false })

-- a message from the peer
abbrev pub from_peer : ℕ → Content → Message
from_peer number content =
    record { from = codes "A"; to = codes "B"; number = number; poss_dup = false; content = content }

-- a message to the peer, new or again, with nothing beside it
abbrev pub to_peer : ℕ → Content → Outgoing
to_peer number content =
    alone (record { from = codes "B"; to = codes "A"; number = number; poss_dup = false; content = content })

abbrev pub to_peer_again : ℕ → Content → Outgoing
to_peer_again number content =
    alone (record { from = codes "B"; to = codes "A"; number = number; poss_dup = true; content = content })

-- a message that comes in a connection
abbrev pub coming : ℕ → ℕ → Content → ExchangeParts → Answer
coming connection number content x = take x connection (from_peer number content)

-- an act, where one that is refused does nothing
abbrev pub done : ActAnswer → Answer
done (Ok written, x) = (written, x)
done (Err fault, x) = ([], x)

-- one after the other, with all that is written
infixl 10 ◌then◌
abbrev pub ◌then◌ : Answer → (ExchangeParts → Answer) → Answer
before then step = let after : Answer = step before.1 in (before.0 ++ after.0, after.1)

-- with nothing done
abbrev pub begun : ExchangeParts → Answer
begun x = ([], x)

-- the Logon of a session, with no reset and no number that it expects
abbrev pub logon : Content
logon = Session (Logon 30 false None)

-- the order of 100 BRK.B at 10.25, under number S1L1
abbrev pub leg : Leg
leg = record {
  id = record { sweep = 1; place = 1 };
  terms = record {
    symbol = record { root = codes "BRK"; suffix = codes "B" };
    side = Buy;
    shares = 100;
    price = 102500;
  };
}

-- the order as its exchange sees it, with so many shares filled and open
abbrev pub view : ℕ → ℕ → OrderViewParts
view cum leaves = record { leg = leg; order_id = order_id 1; cum = cum; leaves = leaves }

-- a report on it under a number, new or again, and beside it the order as it was then
abbrev pub reports : ℕ → List ℕ → ReportKind → OrderViewParts → Outgoing
reports number exec kind view =
    let report : Report = record { id = leg.id; exec = exec; kind = kind } in
    let m : Message = (to_peer number (ExecutionReport (Ok report))).message in
    record { message = m; beside = Some view }

abbrev pub reports_again : ℕ → List ℕ → ReportKind → OrderViewParts → Outgoing
reports_again number exec kind view =
    let out : Outgoing = reports number exec kind view in
    record out { message = let m : Message = out.message in record m { poss_dup = true } }

-- after a Logon in connection 1, and the fence under number 2
abbrev pub fenced : Answer
fenced = begun (exchange_to 999_999_999) then coming 1 1 logon then coming 1 2 (Session (TestRequest (codes "F2")))

-- and the order under number 3
abbrev pub ordered : Answer
ordered = fenced then coming 1 3 (Order (Ok leg))

-- a trade of the first order, a cancel of its rest, and a bust of its first trade
abbrev pub trade : ℕ → ExchangeParts → Answer
trade shares x = done (acts.trade x 1 shares (codes "10.25"))

abbrev pub cancel_rest : ExchangeParts → Answer
cancel_rest x = done (acts.cancel_rest x 1)

abbrev pub reject : ExchangeParts → Answer
reject x = done (acts.reject x 1)

abbrev pub bust : ExchangeParts → Answer
bust x = done (acts.bust x 1 1)

-- so many TestRequests
abbrev pub tests : ℕ → ExchangeParts → Answer
tests zero x = ([], x)
tests (suc n) x = done (acts.test x) then tests n

-- the first order after a trade of 60 shares, after the cancel of its rest, and after the bust of the trade
abbrev pub half_traded : Answer
half_traded = ordered then trade 60

abbrev pub cancelled : Answer
cancelled = half_traded then cancel_rest

abbrev pub busted : Answer
busted = cancelled then bust

-- an exchange with numbers below 16, after a Logon and an order
abbrev pub limited : Answer
limited = begun (exchange_to 16) then coming 1 1 logon then coming 1 2 (Order (Ok leg))
