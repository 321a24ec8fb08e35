-- An order that the exchange accepted (FIX 4.4 Volume 4, ExecutionReport: OrderID, OrdStatus, CumQty, LeavesQty).
use Rattle.std.specs.Prelude.{ℕ, Bool, true, false, List, [], ◌∷◌, ◌++◌, codes, decimal, Option, Some, None, Result, Ok, Err}
use Rattle.leg.specs.Numbered.{with_numbered}
use Rattle.leg.specs.Split.{SplitParts, SplitAnswer, all_open, split_fill, split_cancel_rest, split_bust}
use Rattle.leg.specs.declared.leg.Leg.{Leg}
use Rattle.dialect.specs.OrderView.{OrderViewParts}
use Rattle.exchange_core.specs.declared.exchange_fault.ExchangeFault.{ExchangeFault}
use Rattle.exchange_core.specs.declared.exchange_fault.ExchangeFault.TheVariants.{TooManyShares, NoSuchTrade}
use Rattle.exchange_core.specs.declared.ending.Ending.{Ending}
use Rattle.exchange_core.specs.declared.ending.Ending.TheVariants.{ByCancel}

-- a trade: its shares, the count in the ExecID of its report, and whether it was busted
pub record TradeParts : Type 0 where
  pub shares : ℕ
  pub exec : ℕ
  pub is_busted : Bool

-- the leg, what became of its shares, its trades in order, and what ended it if something did
pub record OrderParts : Type 0 where
  pub leg : Leg
  pub split : SplitParts
  pub trades : List TradeParts
  pub ended : Option Ending

-- the order of a leg, all open
abbrev pub new_order : Leg → OrderParts
new_order leg = record { leg = leg; split = all_open leg.terms.shares; trades = []; ended = None }

-- an order whose shares moved, where they could, and else this fault
abbrev pub moved : ExchangeFault → (SplitParts → OrderParts) → SplitAnswer → Result OrderParts ExchangeFault
moved fault after (Ok done, split) = Ok (after split)
moved fault after (Err why, split) = Err fault

-- open shares are filled by a trade
abbrev pub traded : OrderParts → ℕ → ℕ → Result OrderParts ExchangeFault
traded order shares exec =
    let trade : TradeParts = record { shares = shares; exec = exec; is_busted = false } in
    moved TooManyShares (λ split. record order { split = split; trades = order.trades ++ trade ∷ [] })
    (split_fill order.split shares)

-- what is open is cancelled
abbrev pub ended_by : Ending → OrderParts → OrderParts
ended_by ending order = record order { split = split_cancel_rest order.split; ended = Some ending }

-- a trade is undone: its shares are filled no more, and not open again
abbrev pub busted_at : ℕ → TradeParts → OrderParts → Result OrderParts ExchangeFault
busted_at place trade order =
    let undone : TradeParts = record trade { is_busted = true } in
    moved NoSuchTrade (λ split. record order { split = split; trades = with_numbered place undone order.trades })
    (split_bust order.split trade.shares)

-- whether a cancel of its rest ended the order
abbrev pub is_cancelled : Option Ending → Bool
is_cancelled (Some ByCancel) = true
is_cancelled ended = false

-- the OrderID (37) of the order at a place among those accepted: `O` and the place
abbrev pub order_id : ℕ → List ℕ
order_id place = codes "O" ++ decimal place

-- the order as its exchange sees it, for a report
abbrev pub view_of : ℕ → OrderParts → OrderViewParts
view_of place order =
    record { leg = order.leg; order_id = order_id place; cum = order.split.filled; leaves = order.split.still_open }
