-- How a decision changes an order, and what is then reported.
use Rattle.std.specs.Prelude.{◌≡◌, ℕ, ◌≤◌, List, [], ◌∷◌, ◌++◌, length, Some, Result, Ok, Err, All}
use Rattle.std.specs.Option.{option_map_or}
use Rattle.fix_text.specs.Then.{◌>>=◌}
use Rattle.leg.specs.Numbered.{numbered, with_numbered}
use Rattle.leg.specs.Split.{SplitParts}
use Rattle.dialect.specs.Writable.{IsWritable}
use Rattle.exchange_core.specs.declared.order_decision.OrderStep.{OrderStep}
use Rattle.exchange_core.specs.declared.order_decision.OrderStep.TheVariants.{Traded, Ended, Busted}
use Rattle.exchange_core.specs.declared.order_decision.OrderDecision.{OrderDecision}
use Rattle.exchange_core.specs.declared.exchange_fault.ExchangeFault.{ExchangeFault}
use Rattle.exchange_core.specs.Order.{OrderParts}
use Rattle.exchange_core.specs.declared.sent_record.SentRecord.{SentRecord}
use Rattle.exchange_core.specs.Exchange.{ExchangeParts, Answer}
use Rattle.exchange_core.specs.Acts.{order_at, reported}
use Rattle.exchange_core.specs.Sound.{IsSound}

-- an order after a step, with these shares
abbrev pub stepped : SplitParts → OrderStep → OrderParts → OrderParts
stepped split (Traded trade) order = record order { split = split; trades = order.trades ++ trade ∷ [] }
stepped split (Ended ending) order = record order { split = split; ended = Some ending }
stepped split (Busted place trade) order =
    record order { split = split; trades = with_numbered place trade order.trades }

-- the report of a decision for the order at a place
abbrev pub order_answer : ExchangeParts → ℕ → OrderDecision → Result Answer ExchangeFault
order_answer x place decision = do
  order ← order_at x place
  Ok (reported x place (stepped decision.split decision.step order) decision.kind)

-- what is answered where a decision is made or refused
abbrev pub order_decided : ExchangeParts → ℕ → Result OrderDecision ExchangeFault → Result Answer ExchangeFault
order_decided x place (Ok decision) = order_answer x place decision
order_decided x place (Err fault) = Err fault

-- a trade to be undone is there
abbrev pub IsPlaced : OrderStep → OrderParts → Type 0
IsPlaced (Busted place trade) order = (1 ≤ place) × (place ≤ length order.trades)
IsPlaced step order = Unit {0}

-- a step is for an order that is there
pub record IsFor (x : ExchangeParts) (place : ℕ) (step : OrderStep) : Type 0 where
  pub order : OrderParts
  pub there : numbered place x.orders ≡ Some order
  pub trade : IsPlaced step order

-- the exchange after a step of the order at a place, with one more own number
abbrev pub after_step : ExchangeParts → ℕ → SplitParts → OrderStep → SentRecord → ExchangeParts
after_step x place split step entry =
    let now : OrderParts → List OrderParts = λ order. with_numbered place (stepped split step order) x.orders in
    record x { orders = option_map_or now (numbered place x.orders) x.orders; own = x.own ++ entry ∷ [] }

-- what is written can be written, and the exchange is sound afterwards
pub record IsFit (a : Answer) : Type 0 where
  pub written : All IsWritable a.0
  pub sound : IsSound a.1
