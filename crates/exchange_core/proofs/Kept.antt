-- What an exchange keeps beside its state, and what its soundness says of a part.
use Rattle.std.proofs.Common.{◌≡◌, ℕ, suc, ◌≤◌, List, [], ◌∷◌, ◌++◌, length, Some, refl, ap}
use Rattle.leg.specs.Numbered.{numbered}
use Rattle.exchange_core.specs.Order.{OrderParts, TradeParts}
use Rattle.exchange_core.specs.declared.sent_record.SentRecord.{SentRecord}
use Rattle.exchange_core.specs.declared.sent_record.SentRecord.TheVariants.{Admin, Reported, Refused}
use Rattle.exchange_core.specs.SentRecord.{report_count}
use Rattle.exchange_core.specs.Exchange.{ExchangeParts}
use Rattle.exchange_core.specs.Kept.{reports_of}
use Rattle.exchange_core.specs.Sound.{IsTradeSound, IsOrderSound, IsSound}
use Rattle.exchange_core.proofs.Entries.{all_at}

-- there are as many reports as are counted
pub reports_counted : (own : List SentRecord) → length (reports_of own) ≡ report_count own
reports_counted [] = refl
reports_counted (Admin ∷ own) = reports_counted own
reports_counted (Reported report view ∷ own) = ap suc (reports_counted own)
reports_counted (Refused number ∷ own) = reports_counted own

-- the count in the ExecID of a trade is in range
pub exec_of_trade : (x : ExchangeParts) (place : ℕ) (order : OrderParts) (which : ℕ) (trade : TradeParts) → IsSound x → numbered place x.orders ≡ Some order → numbered which order.trades ≡ Some trade → trade.exec ≤ 999999999
exec_of_trade x place order which trade sound there has =
    all_at IsTradeSound order.trades which trade (all_at IsOrderSound x.orders place order sound.orders there).trades has

-- a message of the session is no report
pub reports_silent : (own : List SentRecord) → reports_of (own ++ Admin ∷ []) ≡ reports_of own
reports_silent [] = refl
reports_silent (Admin ∷ own) = reports_silent own
reports_silent (Reported report view ∷ own) = ap (λ l. report ∷ l) (reports_silent own)
reports_silent (Refused number ∷ own) = reports_silent own

-- neither are two, nor a refusal
pub reports_silent_two : (own : List SentRecord) → reports_of (own ++ Admin ∷ Admin ∷ []) ≡ reports_of own
reports_silent_two [] = refl
reports_silent_two (Admin ∷ own) = reports_silent_two own
reports_silent_two (Reported report view ∷ own) = ap (λ l. report ∷ l) (reports_silent_two own)
reports_silent_two (Refused number ∷ own) = reports_silent_two own

pub reports_refused : (own : List SentRecord) (refused : ℕ) → reports_of (own ++ Refused refused ∷ []) ≡ reports_of own
reports_refused [] refused = refl
reports_refused (Admin ∷ own) refused = reports_refused own refused
reports_refused (Reported report view ∷ own) refused = ap (λ l. report ∷ l) (reports_refused own refused)
reports_refused (Refused number ∷ own) refused = reports_refused own refused
