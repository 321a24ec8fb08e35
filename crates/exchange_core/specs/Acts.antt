-- What an exchange does by itself (FIX 4.4 Volume 4, ExecutionReport; Volume 2, "Test Request").
use Rattle.std.specs.Prelude.{ℕ, not, List, [], ◌∷◌, ◌++◌, codes, decimal, Option, Some, None, Result, Ok, Err, ◌==◌, if◌then◌else◌}
use Rattle.std.specs.Option.{ok_or}
use Rattle.fix_text.specs.Then.{◌>>=◌, unless}
use Rattle.leg.specs.Numbered.{numbered, with_numbered}
use Rattle.dialect.specs.declared.report.ReportKind.{ReportKind}
use Rattle.dialect.specs.declared.report.ReportKind.TheVariants.{Trade, Canceled, Rejected, Bust}
use Rattle.dialect.specs.declared.content.Content.TheVariants.{Session}
use Rattle.fix_tags.specs.declared.session_body.SessionBody.TheVariants.{TestRequest}
use Rattle.dialect.specs.declared.outgoing.Outgoing.{Outgoing}
use Rattle.exchange_core.specs.declared.exchange_fault.ExchangeFault.{ExchangeFault}
use Rattle.exchange_core.specs.declared.exchange_fault.ExchangeFault.TheVariants.{NoSuchOrder, TooManyShares, Done, NumbersSpent, NoSuchTrade, NotCancelled}
use Rattle.exchange_core.specs.declared.ending.Ending.{Ending}
use Rattle.exchange_core.specs.declared.ending.Ending.TheVariants.{ByCancel, ByReject}
use Rattle.exchange_core.specs.Order.{OrderParts, TradeParts, traded, ended_by, busted_at, is_cancelled, view_of}
use Rattle.exchange_core.specs.declared.sent_record.SentRecord.{SentRecord}
use Rattle.exchange_core.specs.declared.sent_record.SentRecord.TheVariants.{Admin, Reported}
use Rattle.exchange_core.specs.SentRecord.{next_own_number, has_numbers, next_exec, exec_id}
use Rattle.exchange_core.specs.declared.live_connection.LiveConnection.{LiveConnection}
use Rattle.exchange_core.specs.Exchange.{ExchangeParts, Answer, next_report, next_execution_report, next_message}

-- what an act answers, and the exchange afterwards. What is written goes into the live connection.
abbrev pub ActAnswer : Type 0
ActAnswer = Result (List Outgoing) ExchangeFault × ExchangeParts

-- an act that is refused changes nothing
abbrev pub answered : ExchangeParts → Result Answer ExchangeFault → ActAnswer
answered x (Ok answer) = (Ok answer.0, answer.1)
answered x (Err fault) = (Err fault, x)

-- an act writes only while a connection is live
abbrev pub while_live : Option LiveConnection → List Outgoing → List Outgoing
while_live None messages = []
while_live (Some live) messages = messages

-- a report on the order at a place, which is now this one; the report is kept whether or not it is written
abbrev pub reported : ExchangeParts → ℕ → OrderParts → ReportKind → Answer
reported x place order kind =
    let entry : SentRecord = Reported (next_report x order kind) (view_of place order) in (
      while_live x.live (next_execution_report x place order kind ∷ []),
      record x { orders = with_numbered place order x.orders; own = x.own ++ entry ∷ [] },
    )

-- the order at a place, counted from 1
abbrev pub order_at : ExchangeParts → ℕ → Result OrderParts ExchangeFault
order_at x place = ok_or (numbered place x.orders) NoSuchOrder

-- refused unless something of the order is open
abbrev pub still_going : OrderParts → Result (Unit {0}) ExchangeFault
still_going order = unless (not (order.split.still_open == 0)) Done

-- a trade of an order at a place, counted from 1, that is not busted
abbrev pub not_busted : TradeParts → Result TradeParts ExchangeFault
not_busted trade = if trade.is_busted then Err NoSuchTrade else Ok trade

abbrev pub trade_at : OrderParts → ℕ → Result TradeParts ExchangeFault
trade_at order place = ok_or (numbered place order.trades) NoSuchTrade >>= not_busted

-- refused unless a number is left
abbrev pub number_left : ExchangeParts → Result (Unit {0}) ExchangeFault
number_left x = unless (has_numbers 1 x.config x.own) NumbersSpent

-- open shares of the order at a place are traded at a price
abbrev pub trade_answer : ExchangeParts → ℕ → ℕ → List ℕ → Result Answer ExchangeFault
trade_answer x place shares px = do
  order ← order_at x place
  going ← still_going order
  some ← unless (not (shares == 0)) TooManyShares
  after ← traded order shares (next_exec x.own)
  number ← number_left x
  Ok (reported x place after (Trade (record { shares = shares; px = px })))

abbrev pub trade : ExchangeParts → ℕ → ℕ → List ℕ → ActAnswer
trade x place shares px = answered x (trade_answer x place shares px)

-- what is open of the order at a place is ended, and reported as this kind
abbrev pub end_answer : ExchangeParts → ℕ → Ending → ReportKind → Result Answer ExchangeFault
end_answer x place ending kind = do
  order ← order_at x place
  going ← still_going order
  number ← number_left x
  Ok (reported x place (ended_by ending order) kind)

abbrev pub cancel_rest : ExchangeParts → ℕ → ActAnswer
cancel_rest x place = answered x (end_answer x place ByCancel Canceled)

abbrev pub reject : ExchangeParts → ℕ → ActAnswer
reject x place = answered x (end_answer x place ByReject Rejected)

-- a trade of the order at a place is undone, after its rest was cancelled
abbrev pub bust_answer : ExchangeParts → ℕ → ℕ → Result Answer ExchangeFault
bust_answer x place which = do
  order ← order_at x place
  cancelled ← unless (is_cancelled order.ended) NotCancelled
  trade ← trade_at order which
  after ← busted_at which trade order
  number ← number_left x
  Ok (reported x place after (Bust (exec_id trade.exec)))

abbrev pub bust : ExchangeParts → ℕ → ℕ → ActAnswer
bust x place which = answered x (bust_answer x place which)

-- the id of a TestRequest: `X` and its number
abbrev pub test_id : ℕ → List ℕ
test_id number = codes "X" ++ decimal number

-- a TestRequest is written under the next number
abbrev pub tested : ExchangeParts → Answer
tested x = (
  next_message x (Session (TestRequest (test_id (next_own_number x.own)))) ∷ [],
  record x { own = x.own ++ Admin ∷ [] },
)

-- the peer is asked for a sign of life, where a connection is live
abbrev pub test_answer : ExchangeParts → Option LiveConnection → Result Answer ExchangeFault
test_answer x None = Ok ([], x)
test_answer x (Some live) = do
  number ← number_left x
  Ok (tested x)

abbrev pub test : ExchangeParts → ActAnswer
test x = answered x (test_answer x x.live)
