-- What the exchange does by itself, but for a TestRequest, is a report on an order that changed in one of three ways.
use Rattle.std.proofs.Common.{◌≡◌, ◌==◌, ◌⊎◌, inl, inr, ℕ, ◌+◌, ◌-◌, ◌≤◌, Bool, true, false, not, nat_le, List, [], ◌∷◌, ◌++◌, Option, Some, None, Result, Ok, Err, IfOk, refl, sym, ap, ◌∙◌, if◌then◌else◌, arith}
use Rattle.std.specs.Option.{ok_or}
use Rattle.std.proofs.lemmas.Bool.Decides.{nat_tests}
use Rattle.fix_text.specs.Then.{◌>>=◌, unless}
use Rattle.leg.specs.declared.fault.LegFault.{LegFault}
use Rattle.leg.specs.declared.fault.LegFault.TheVariants.{Overfill, NotFilled}
use Rattle.leg.specs.Numbered.{numbered, with_numbered}
use Rattle.leg.specs.Split.{SplitParts}
use Rattle.dialect.specs.declared.report.ReportKind.{ReportKind}
use Rattle.dialect.specs.declared.report.ReportKind.TheVariants.{Trade, Canceled, Rejected, Bust}
use Rattle.exchange_core.specs.declared.exchange_fault.ExchangeFault.{ExchangeFault}
use Rattle.exchange_core.specs.declared.exchange_fault.ExchangeFault.TheVariants.{NoSuchOrder, TooManyShares, NumbersSpent, NotCancelled, NoSuchTrade}
use Rattle.exchange_core.specs.declared.ending.Ending.{Ending}
use Rattle.exchange_core.specs.declared.ending.Ending.TheVariants.{ByCancel, ByReject}
use Rattle.exchange_core.specs.Order.{OrderParts, TradeParts, moved, traded, ended_by, busted_at, is_cancelled}
use Rattle.exchange_core.specs.SentRecord.{has_numbers, next_exec, exec_id}
use Rattle.exchange_core.specs.declared.live_connection.LiveConnection.{LiveConnection}
use Rattle.exchange_core.specs.Exchange.{ExchangeParts, Answer}
use Rattle.exchange_core.specs.Acts.{answered, reported, order_at, still_going, not_busted, trade_at, number_left, trade_answer, trade, end_answer, cancel_rest, reject, bust_answer, bust, tested, test_answer, test}

-- one refusal after the other
pub each : {A B : Type 0} (P : B → Type 0) (r : Result A ExchangeFault) (f : A → Result B ExchangeFault) → ((a : A) → r ≡ Ok a → IfOk (f a) P) → IfOk (r >>= f) P
each P (Ok a) f holds = holds a refl
each P (Err fault) f holds = tt

-- what was not refused
pub not_refused : (b : Bool) (fault : ExchangeFault) (u : Unit {0}) → unless (not b) fault ≡ Ok u → b ≡ false
not_refused true fault u ok = cc
not_refused false fault u ok = refl

-- a number was left
pub left_by : (b : Bool) (u : Unit {0}) → unless b NumbersSpent ≡ Ok u → b ≡ true
left_by true u ok = refl
left_by false u ok = cc

-- the exchange after an act, refused or not
pub after_act : (x : ExchangeParts) (Q : ExchangeParts → Type 0) (r : Result Answer ExchangeFault) → Q x → IfOk r (λ a. Q a.1) → Q (answered x r).1
after_act x Q (Ok a) same holds = holds
after_act x Q (Err fault) same holds = same

order_there : (x : ExchangeParts) (place : ℕ) (order : OrderParts) (o : Option OrderParts) → numbered place x.orders ≡ o → ok_or o NoSuchOrder ≡ Ok order → numbered place x.orders ≡ Some order
order_there x place order None is ok = cc
order_there x place order (Some old) is ok = is ∙ cc

-- what is at a place
pub at_place : (x : ExchangeParts) (place : ℕ) (order : OrderParts) → order_at x place ≡ Ok order → numbered place x.orders ≡ Some order
at_place x place order is = order_there x place order (numbered place x.orders) refl is

-- a trade that may be busted
live_by : (found trade : TradeParts) (b : Bool) → found.is_busted ≡ b → (if b then Err NoSuchTrade else Ok found) ≡ Ok trade → (found ≡ trade) × (trade.is_busted ≡ false)
live_by found trade true is ok = cc
live_by found trade false is ok = let same : found ≡ trade = cc in (same, ap (λ (t : TradeParts). t.is_busted) (sym same) ∙ is)

pub found_by : (found : Option TradeParts) (trade : TradeParts) → (ok_or found NoSuchTrade >>= not_busted) ≡ Ok trade → (found ≡ Some trade) × (trade.is_busted ≡ false)
found_by None trade ok = cc
found_by (Some found) trade ok = let live = live_by found trade found.is_busted refl ok in (ap Some live.0, live.1)

-- shares that could be moved
pub moved_if : (fault : ExchangeFault) (why : LegFault) (after : SplitParts → OrderParts) (b : Bool) (fits stayed : SplitParts) (order : OrderParts) → moved fault after (if b then (Ok tt, fits) else (Err why, stayed)) ≡ Ok order → (b ≡ true) × (order ≡ after fits)
moved_if fault why after true fits stayed order ok = (refl, cc)
moved_if fault why after false fits stayed order ok = cc

-- an order after a trade, and after a bust
abbrev pub after_trade : OrderParts → ℕ → ℕ → OrderParts
after_trade old shares exec =
    let trade : TradeParts = record { shares = shares; exec = exec; is_busted = false } in
    let split : SplitParts = old.split in
    record old {
      split = record split { filled = split.filled + shares; still_open = split.still_open - shares };
      trades = old.trades ++ trade ∷ [];
    }

abbrev pub after_bust : OrderParts → ℕ → TradeParts → OrderParts
after_bust old which trade =
    let split : SplitParts = old.split in
    record old {
      split = record split { filled = split.filled - trade.shares; busted = split.busted + trade.shares };
      trades = with_numbered which (record trade { is_busted = true }) old.trades;
    }

-- how an order changes, with what is reported of it: by a trade with a count in its ExecID and a price of this form
pub data IsChange (IsPx : List ℕ → Type 0) (exec : ℕ) (old new : OrderParts) (kind : ReportKind) : Type 0 where
  by_trade : (shares : ℕ) (px : List ℕ) → IsPx px → 1 ≤ shares → shares ≤ old.split.still_open → new ≡ after_trade old shares exec → kind ≡ Trade (record { shares = shares; px = px }) → IsChange IsPx exec old new kind
  by_end : (ending : Ending) → new ≡ ended_by ending old → (kind ≡ Canceled) ⊎ (kind ≡ Rejected) → IsChange IsPx exec old new kind
  by_bust : (which : ℕ) (trade : TradeParts) → numbered which old.trades ≡ Some trade → trade.is_busted ≡ false → trade.shares ≤ old.split.filled → new ≡ after_bust old which trade → kind ≡ Bust (exec_id trade.exec) → IsChange IsPx exec old new kind

-- the leg of an order stays
pub same_leg : (IsPx : List ℕ → Type 0) (exec : ℕ) (old new : OrderParts) (kind : ReportKind) → IsChange IsPx exec old new kind → new.leg ≡ old.leg
same_leg IsPx exec old new kind (by_trade shares px is low within after says) = ap (λ (o : OrderParts). o.leg) after
same_leg IsPx exec old new kind (by_end ending after says) = ap (λ (o : OrderParts). o.leg) after
same_leg IsPx exec old new kind (by_bust which trade there live within after says) = ap (λ (o : OrderParts). o.leg) after

-- a report on an order at a place, which changed, where a number was left
pub record IsReported (IsPx : List ℕ → Type 0) (x : ExchangeParts) (place : ℕ) (old new : OrderParts) (kind : ReportKind) : Type 0 where
  pub there : numbered place x.orders ≡ Some old
  pub change : IsChange IsPx (next_exec x.own) old new kind
  pub left : has_numbers 1 x.config x.own ≡ true

-- The acts but `test`: where one isn't refused it is such a report.
module _ (IsPx : List ℕ → Type 0) (x : ExchangeParts) (P : Answer → Type 0) (holds : (place : ℕ) (old new : OrderParts) (kind : ReportKind) → IsReported IsPx x place old new kind → P (reported x place new kind)) where
  pub trade_reports : (place shares : ℕ) (px : List ℕ) → IsPx px → IfOk (trade_answer x place shares px) P
  trade_reports place shares px is_px =
      each P (order_at x place) _
      (λ order is. each P (still_going order) _
      (λ going _. each P (unless (not (shares == 0)) TooManyShares) _
      (λ some ok. each P (traded order shares (next_exec x.own)) _
      (λ after fits. each P (number_left x) _
      (λ number left.
      let low = not_refused (shares == 0) TooManyShares some ok in
      let parts = moved_if TooManyShares Overfill _ (nat_le shares order.split.still_open) _ _ after fits in
      holds place order after (Trade (record { shares = shares; px = px })) (record {
        there = at_place x place order is;
        change = by_trade shares px is_px (grind (arith, nat_tests, low)) (grind (arith, nat_tests, parts.0)) parts.1 refl;
        left = left_by (has_numbers 1 x.config x.own) number left;
      }))))))

  pub end_reports : (place : ℕ) (ending : Ending) (kind : ReportKind) → (kind ≡ Canceled) ⊎ (kind ≡ Rejected) → IfOk (end_answer x place ending kind) P
  end_reports place ending kind says =
      each P (order_at x place) _
      (λ order is. each P (still_going order) _
      (λ going _. each P (number_left x) _
      (λ number left. holds place order (ended_by ending order) kind (record {
        there = at_place x place order is;
        change = by_end ending refl says;
        left = left_by (has_numbers 1 x.config x.own) number left;
      }))))

  pub cancel_rest_reports : (place : ℕ) → IfOk (end_answer x place ByCancel Canceled) P
  cancel_rest_reports place = end_reports place ByCancel Canceled (inl refl)

  pub reject_reports : (place : ℕ) → IfOk (end_answer x place ByReject Rejected) P
  reject_reports place = end_reports place ByReject Rejected (inr refl)

  pub bust_reports : (place which : ℕ) → IfOk (bust_answer x place which) P
  bust_reports place which =
      each P (order_at x place) _
      (λ order is. each P (unless (is_cancelled order.ended) NotCancelled) _
      (λ cancelled _. each P (trade_at order which) _
      (λ trade ok. each P (busted_at which trade order) _
      (λ after fits. each P (number_left x) _
      (λ number left.
      let found = found_by (numbered which order.trades) trade ok in
      let parts = moved_if NoSuchTrade NotFilled _ (nat_le trade.shares order.split.filled) _ _ after fits in
      holds place order after (Bust (exec_id trade.exec)) (record {
        there = at_place x place order is;
        change = by_bust which trade found.0 found.1 (grind (arith, nat_tests, parts.0)) parts.1 refl;
        left = left_by (has_numbers 1 x.config x.own) number left;
      }))))))

-- The exchange after each of them.
module _ (IsPx : List ℕ → Type 0) (x : ExchangeParts) (Q : ExchangeParts → Type 0) (same : Q x) (holds : (place : ℕ) (old new : OrderParts) (kind : ReportKind) → IsReported IsPx x place old new kind → Q (reported x place new kind).1) where
  pub trade_is : (place shares : ℕ) (px : List ℕ) → IsPx px → Q (trade x place shares px).1
  trade_is place shares px is_px =
      after_act x Q (trade_answer x place shares px) same (trade_reports IsPx x (λ (a : Answer). Q a.1) holds place shares px is_px)

  pub cancel_rest_is : (place : ℕ) → Q (cancel_rest x place).1
  cancel_rest_is place = after_act x Q (end_answer x place ByCancel Canceled) same (cancel_rest_reports IsPx x (λ (a : Answer). Q a.1) holds place)

  pub reject_is : (place : ℕ) → Q (reject x place).1
  reject_is place = after_act x Q (end_answer x place ByReject Rejected) same (reject_reports IsPx x (λ (a : Answer). Q a.1) holds place)

  pub bust_is : (place which : ℕ) → Q (bust x place which).1
  bust_is place which = after_act x Q (bust_answer x place which) same (bust_reports IsPx x (λ (a : Answer). Q a.1) holds place which)

-- and after a TestRequest
test_answer_is : (x : ExchangeParts) (P : Answer → Type 0) (live : Option LiveConnection) → x.live ≡ live → P ([], x) → ((live : LiveConnection) → x.live ≡ Some live → has_numbers 1 x.config x.own ≡ true → P (tested x)) → IfOk (test_answer x live) P
test_answer_is x P None is same holds = same
test_answer_is x P (Some live) is same holds = each P (number_left x) _ (λ number left. holds live is (left_by (has_numbers 1 x.config x.own) number left))

pub test_reports : (x : ExchangeParts) (P : Answer → Type 0) → P ([], x) → ((live : LiveConnection) → x.live ≡ Some live → has_numbers 1 x.config x.own ≡ true → P (tested x)) → IfOk (test_answer x x.live) P
test_reports x P same holds = test_answer_is x P x.live refl same holds

pub test_is : (x : ExchangeParts) (Q : ExchangeParts → Type 0) → Q x → (has_numbers 1 x.config x.own ≡ true → Q (tested x).1) → Q (test x).1
test_is x Q same holds = after_act x Q (test_answer x x.live) same (test_reports x (λ (a : Answer). Q a.1) same (λ live is left. holds left))

-- any price
abbrev pub AnyPx : List ℕ → Type 0
AnyPx px = Unit {0}
