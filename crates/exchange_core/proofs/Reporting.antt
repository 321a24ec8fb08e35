-- The report of a decision: the order that it is for, the exchange afterwards, and what its soundness says.
use Rattle.std.proofs.Common.{◌≡◌, ℕ, zero, suc, ◌+◌, ◌-◌, ◌≤◌, true, false, nat_le, List, [], ◌∷◌, ◌++◌, length, map, get_or, Option, Some, Result, Ok, Err, IfOk, IsSome, refl, sym, ap, ◌∙◌, subst, arith, length-append}
use Rattle.std.specs.Prelude.{All, slice_get, slice_set, option_to_list}
use Rattle.std.specs.Global.{Vec}
use Rattle.fix_tags.specs.Stamp.{StampParts}
use Rattle.dialect.specs.Framed.{AreFramed}
use Rattle.dialect.specs.Wording.{Encoding}
use Rattle.std.proofs.lemmas.Bool.Decides.{nat_tests}
use Rattle.std.proofs.lemmas.Option.{slice_get_within, get_or_from_slice_get}
use Rattle.leg.specs.declared.leg.Leg.{Leg}
use Rattle.leg.specs.Numbered.{numbered}
use Rattle.leg.specs.Split.{SplitParts}
use Rattle.dialect.specs.FreeText.{IsFreeText}
use Rattle.dialect.specs.OrderView.{OrderViewParts, order_view_of}
use Rattle.dialect.specs.Writable.{IsWritable, IsReportBeside}
use Rattle.dialect.specs.declared.report.Report.{Report}
use Rattle.dialect.specs.declared.report.ReportKind.{ReportKind}
use Rattle.dialect.specs.declared.report.ReportKind.TheVariants.{Canceled, Rejected}
use Rattle.exchange_core.specs.declared.exchange_fault.ExchangeFault.{ExchangeFault}
use Rattle.exchange_core.specs.declared.order_decision.OrderStep.{OrderStep}
use Rattle.exchange_core.specs.declared.order_decision.OrderStep.TheVariants.{Traded, Ended, Busted}
use Rattle.exchange_core.specs.declared.order_decision.OrderDecision.{OrderDecision}
use Rattle.exchange_core.specs.declared.ending.Ending.TheVariants.{ByCancel, ByReject}
use Rattle.exchange_core.specs.Order.{OrderParts, order_id, view_of}
use Rattle.exchange_core.specs.declared.sent_record.SentRecord.{SentRecord}
use Rattle.exchange_core.specs.declared.sent_record.SentRecord.TheVariants.{Admin, Reported, Refused}
use Rattle.exchange_core.specs.SentRecord.{next_own_number, next_exec, exec_id, execution_report}
use Rattle.exchange_core.specs.Exchange.{ExchangeParts, Answer, next_report}
use Rattle.exchange_core.specs.Frames.{bytes_of, ActGives}
use Rattle.exchange_core.specs.Acts.{answered, while_live, reported, trade_answer, trade, end_answer, cancel_rest, reject, bust_answer, bust}
use Rattle.exchange_core.specs.Keeping.{IsAct}
use Rattle.exchange_core.specs.Kept.{reports_of}
use Rattle.exchange_core.specs.OrderDecision.{stepped, order_answer, IsFit, after_step}
use Rattle.exchange_core.specs.Sound.{IsOwnSound, IsSound}
use Rattle.exchange_core.proofs.ActsKeep.{trade_keeps, cancel_rest_keeps, reject_keeps, bust_keeps}
use Rattle.exchange_core.proofs.Entries.{all_last}
use Rattle.exchange_core.proofs.Keeps.{reports_within}
use Rattle.exchange_core.proofs.Promises.{trade_is_sound, cancel_rest_is_sound, reject_is_sound, bust_is_sound}
use Rattle.exchange_core.proofs.Written.{trade_said, cancel_rest_said, reject_said, bust_said}

-- what is not refused is fit
fit_by : (x : ExchangeParts) (r : Result Answer ExchangeFault) → IsSound (answered x r).1 → IfOk (answered x r).0 (All IsWritable) → IfOk r IsFit
fit_by x (Ok a) sound written = record { written = written; sound = sound }
fit_by x (Err fault) sound written = tt

pub trade_fit : (x : ExchangeParts) (place shares : ℕ) (px : List ℕ) (decision : OrderDecision) → IsSound x → IsFreeText 20 px → trade_answer x place shares px ≡ order_answer x place decision → IfOk (order_answer x place decision) IsFit
trade_fit x place shares px decision sound is answer =
    subst (λ r. IfOk r IsFit) answer (fit_by x (trade_answer x place shares px) (trade_is_sound x place shares px sound is) (trade_said x place shares px sound is))

pub cancel_fit : (x : ExchangeParts) (place : ℕ) (decision : OrderDecision) → IsSound x → end_answer x place ByCancel Canceled ≡ order_answer x place decision → IfOk (order_answer x place decision) IsFit
cancel_fit x place decision sound answer =
    subst (λ r. IfOk r IsFit) answer (fit_by x (end_answer x place ByCancel Canceled) (cancel_rest_is_sound x place sound) (cancel_rest_said x place sound))

pub reject_fit : (x : ExchangeParts) (place : ℕ) (decision : OrderDecision) → IsSound x → end_answer x place ByReject Rejected ≡ order_answer x place decision → IfOk (order_answer x place decision) IsFit
reject_fit x place decision sound answer =
    subst (λ r. IfOk r IsFit) answer (fit_by x (end_answer x place ByReject Rejected) (reject_is_sound x place sound) (reject_said x place sound))

pub bust_fit : (x : ExchangeParts) (place which : ℕ) (decision : OrderDecision) → IsSound x → bust_answer x place which ≡ order_answer x place decision → IfOk (order_answer x place decision) IsFit
bust_fit x place which decision sound answer =
    subst (λ r. IfOk r IsFit) answer (fit_by x (bust_answer x place which) (bust_is_sound x place which sound) (bust_said x place which sound))

-- the rules allow each act
pub trade_allowed : (x : ExchangeParts) (place shares : ℕ) (px : List ℕ) → IsSound x → IsAct x (trade x place shares px)
trade_allowed x place shares px sound = trade_keeps x place shares px sound.live

pub cancel_allowed : (x : ExchangeParts) (place : ℕ) → IsSound x → IsAct x (cancel_rest x place)
cancel_allowed x place sound = cancel_rest_keeps x place sound.live

pub reject_allowed : (x : ExchangeParts) (place : ℕ) → IsSound x → IsAct x (reject x place)
reject_allowed x place sound = reject_keeps x place sound.live

pub bust_allowed : (x : ExchangeParts) (place which : ℕ) → IsSound x → IsAct x (bust x place which)
bust_allowed x place which sound = bust_keeps x place which sound.live

-- the order at a place
pub within_by : {A : Type 0} (xs : List A) (place : ℕ) (x : A) → numbered place xs ≡ Some x → (1 ≤ place) × (place ≤ length xs)
within_by xs zero x there = cc
within_by xs (suc i) x there = let inside = slice_get_within xs i x there in (omega arith, omega arith)

pub read_at : {A : Type 0} (xs : List A) (place : ℕ) (x y : A) → numbered place xs ≡ Some x → y ≡ get_or xs (place - 1) y → y ≡ x
read_at xs zero x y there read = cc
read_at xs (suc i) x y there read =
    let low : suc i - 1 ≡ i = omega arith in
    read ∙ (ap (λ k. get_or xs k y) low ∙ get_or_from_slice_get xs i x y there)

-- a step leaves the leg
stepped_leg : (split : SplitParts) (step : OrderStep) (order : OrderParts) → (stepped split step order).leg ≡ order.leg
stepped_leg split (Traded trade) order = refl
stepped_leg split (Ended ending) order = refl
stepped_leg split (Busted place trade) order = refl

legs_at : (orders : List OrderParts) (i : ℕ) (old new : OrderParts) → slice_get orders i ≡ Some old → new.leg ≡ old.leg → map (λ order. order.leg) (slice_set orders i new) ≡ map (λ order. order.leg) orders
legs_at [] i old new there same = refl
legs_at (first ∷ orders) zero old new there same = let e : first ≡ old = cc in ap (λ l. l ∷ map (λ order. order.leg) orders) (same ∙ ap (λ o. o.leg) (sym e))
legs_at (first ∷ orders) (suc i) old new there same = ap (λ l. first.leg ∷ l) (legs_at orders i old new there same)

pub legs_stepped : (orders : List OrderParts) (place : ℕ) (split : SplitParts) (step : OrderStep) (order : OrderParts) → numbered place orders ≡ Some order → map (λ order. order.leg) (slice_set orders (place - 1) (stepped split step order)) ≡ map (λ order. order.leg) orders
legs_stepped orders zero split step order there = cc
legs_stepped orders (suc i) split step order there =
    let low : suc i - 1 ≡ i = omega arith in
    ap (λ k. map (λ (o : OrderParts). o.leg) (slice_set orders k (stepped split step order))) low
    ∙ legs_at orders i order (stepped split step order) there (stepped_leg split step order)

-- one more own number
pub reports_more : (own : List SentRecord) (report : Report) (view : OrderViewParts) → reports_of (own ++ Reported report view ∷ []) ≡ reports_of own ++ report ∷ []
reports_more [] report view = refl
reports_more (Admin ∷ own) report view = reports_more own report view
reports_more (Reported first seen ∷ own) report view = ap (λ l. first ∷ l) (reports_more own report view)
reports_more (Refused number ∷ own) report view = reports_more own report view

-- the exchange after a step
pub seen_stepped : (x : ExchangeParts) (place : ℕ) (split : SplitParts) (step : OrderStep) (entry : SentRecord) (order : OrderParts) (orders : List OrderParts) (own : List SentRecord) → numbered place x.orders ≡ Some order → orders ≡ slice_set x.orders (place - 1) (stepped split step order) → own ≡ x.own ++ entry ∷ [] → (let y : ExchangeParts = record x { orders = orders; own = own } in y) ≡ after_step x place split step entry
seen_stepped x zero split step entry order orders own there is own_is = cc
seen_stepped x (suc i) split step entry order orders own there is own_is =
    let low : suc i - 1 ≡ i = omega arith in
    rw (is, low, own_is, there) refl

-- the answer of a decision for an order that is there
pub plan_is : (x : ExchangeParts) (place : ℕ) (decision : OrderDecision) (order : OrderParts) → numbered place x.orders ≡ Some order → order_answer x place decision ≡ Ok (reported x place (stepped decision.split decision.step order) decision.kind)
plan_is x place decision order there = rw there refl

pub fit_for : (x : ExchangeParts) (place : ℕ) (decision : OrderDecision) (order : OrderParts) → numbered place x.orders ≡ Some order → IfOk (order_answer x place decision) IsFit → IsFit (reported x place (stepped decision.split decision.step order) decision.kind)
fit_for x place decision order there fit = subst (λ r. IfOk r IsFit) (plan_is x place decision order there) fit

pub after_is : (x : ExchangeParts) (place : ℕ) (decision : OrderDecision) (order : OrderParts) (entry : SentRecord) → numbered place x.orders ≡ Some order → entry ≡ Reported (next_report x (stepped decision.split decision.step order) decision.kind) (view_of place (stepped decision.split decision.step order)) → after_step x place decision.split decision.step entry ≡ (reported x place (stepped decision.split decision.step order) decision.kind).1
after_is x place decision order entry there is = rw (is, there) refl

-- the report on an order after a step, and the order as it is then
abbrev pub view_at : ℕ → OrderParts → SplitParts → OrderViewParts
view_at place order split = record { leg = order.leg; order_id = order_id place; cum = split.filled; leaves = split.still_open }

pub view_stepped : (place : ℕ) (split : SplitParts) (step : OrderStep) (order : OrderParts) → view_of place (stepped split step order) ≡ view_at place order split
view_stepped place split (Traded trade) order = refl
view_stepped place split (Ended ending) order = refl
view_stepped place split (Busted which trade) order = refl

abbrev pub report_on : ExchangeParts → OrderParts → ReportKind → Report
report_on x order kind = record { id = order.leg.id; exec = exec_id (next_exec x.own); kind = kind }

pub report_stepped : (x : ExchangeParts) (split : SplitParts) (step : OrderStep) (order : OrderParts) (kind : ReportKind) → next_report x (stepped split step order) kind ≡ report_on x order kind
report_stepped x split (Traded trade) order kind = refl
report_stepped x split (Ended ending) order kind = refl
report_stepped x split (Busted which trade) order kind = refl

-- what an exchange knows of a report that it makes and stays sound
pub record IsMade (x : ExchangeParts) (place : ℕ) (order : OrderParts) (kind : ReportKind) : Type 0 where
  pub count : next_exec x.own ≤ 999999999
  pub small : place ≤ 999999999
  pub beside : IsReportBeside (next_report x order kind) (view_of place order)

pub made_by : (x : ExchangeParts) (place : ℕ) (order old : OrderParts) (kind : ReportKind) → IsSound x → numbered place x.orders ≡ Some old → IsSound (reported x place order kind).1 → IsMade x place order kind
made_by x place order old kind before there sound =
    let entry : SentRecord = Reported (next_report x order kind) (view_of place order) in
    let numbers = sound.numbered in
    let limit = sound.config.max_number in
    let longer = length-append x.own (entry ∷ []) in
    let counted = reports_within x.own in
    let within = within_by x.orders place old there in
    let few = before.few in
    record {
      count = omega (arith, numbers, limit, longer, counted);
      small = omega (arith, numbers, limit, longer, within.1, few);
      beside = all_last IsOwnSound x.own entry sound.own;
    }

pub view_there : (leg : Leg) (id : List ℕ) (cum leaves : ℕ) (view : Option OrderViewParts) → view ≡ order_view_of leg id cum leaves → cum + leaves ≤ leg.terms.shares → view ≡ Some (record { leg = leg; order_id = id; cum = cum; leaves = leaves })
view_there leg id cum leaves view is within =
    let fits : nat_le (cum + leaves) leg.terms.shares ≡ true = grind (arith, nat_tests) in
    rw (is, fits) refl

pub there_is : {A : Type 0} (o : Option A) (x : A) → o ≡ Some x → IsSome o
there_is o x is = rw is refl

pub within_view : (x : ExchangeParts) (place : ℕ) (split : SplitParts) (step : OrderStep) (order : OrderParts) (kind : ReportKind) → IsMade x place (stepped split step order) kind → split.filled + split.still_open ≤ order.leg.terms.shares
within_view x place split step order kind made =
    subst (λ (v : OrderViewParts). v.cum + v.leaves ≤ v.leg.terms.shares) (view_stepped place split step order) made.beside.view_in_range.within

-- the report of a decision was written and kept
pub report_given : (w : Encoding) (stamp : StampParts) (x : ExchangeParts) (place : ℕ) (decision : OrderDecision) (order : OrderParts) (frame : Option (Vec ℕ)) (now : ExchangeParts) (report : Report) (view : OrderViewParts) → numbered place x.orders ≡ Some order → report ≡ report_on x order decision.kind → view ≡ view_at place order decision.split → AreFramed w stamp (while_live x.live (execution_report x.config (next_own_number x.own) false report view ∷ [])) (bytes_of (option_to_list frame)) → now ≡ after_step x place decision.split decision.step (Reported report view) → ActGives w stamp x (answered x (order_answer x place decision)) (Ok frame) now
report_given w stamp x place decision order frame now report view there report_is view_is framed now_is =
    let after : OrderParts = stepped decision.split decision.step order in
    let report_same : report ≡ next_report x after decision.kind = report_is ∙ sym (report_stepped x decision.split decision.step order decision.kind) in
    let view_same : view ≡ view_of place after = view_is ∙ sym (view_stepped place decision.split decision.step order) in
    let entry : Reported report view ≡ Reported (next_report x after decision.kind) (view_of place after) = cc (report_same, view_same) in
    subst (λ r. ActGives w stamp x (answered x r) (Ok frame) now) (sym (plan_is x place decision order there)) (
      subst (λ r. AreFramed w stamp (while_live x.live (execution_report x.config (next_own_number x.own) false r (view_of place after) ∷ [])) (bytes_of (option_to_list frame))) report_same
          (subst (λ v. AreFramed w stamp (while_live x.live (execution_report x.config (next_own_number x.own) false report v ∷ [])) (bytes_of (option_to_list frame))) view_same framed),
      now_is ∙ after_is x place decision order (Reported report view) there entry,
    )
