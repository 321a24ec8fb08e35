-- What is reported of an order: New first, then what may follow.
use Rattle.std.proofs.Common.{◌≡◌, ◌==◌, ◌⊎◌, inl, inr, ℕ, zero, suc, ◌≤◌, ◌<◌, Bool, true, false, not, nat_le, List, [], ◌∷◌, ◌++◌, length, decimal, Option, Some, None, Ok, Err, IfOk, refl, sym, ap, ◌∙◌, subst, if◌then◌else◌, arith, length-append}
use Rattle.std.specs.Prelude.{slice_get, slice_set}
use Rattle.std.specs.Str.{bytes_eq}
use Rattle.std.proofs.lemmas.Bool.{cases_Bool}
use Rattle.std.proofs.lemmas.Bool.Decides.{nat_tests}
use Rattle.std.proofs.lemmas.Fmt.{decimal_injective}
use Rattle.std.proofs.lemmas.List.{append-nil}
use Rattle.std.proofs.lemmas.Option.{same_Some}
use Rattle.std.proofs.lemmas.Slice.Eq.{bytes_eq-Decides}
use Rattle.fix_text.specs.Then.{unless}
use Rattle.leg.specs.Numbered.{numbered, with_numbered}
use Rattle.leg.specs.declared.fault.LegFault.TheVariants.{Overfill, NotFilled}
use Rattle.leg.specs.declared.leg.Leg.{Leg}
use Rattle.dialect.specs.OrderView.{OrderViewParts}
use Rattle.dialect.specs.declared.report.Report.{Report}
use Rattle.dialect.specs.declared.report.ReportKind.{ReportKind}
use Rattle.dialect.specs.declared.report.ReportKind.TheVariants.{New, Trade, Canceled, Rejected, Bust}
use Rattle.dialect.specs.declared.content.Content.{Content}
use Rattle.dialect.specs.declared.content.Content.TheVariants.{Session, Order}
use Rattle.fix_tags.specs.declared.session_body.SessionBody.TheVariants.{TestRequest, GapFill, Logout}
use Rattle.dialect.specs.declared.message.Message.{Message}
use Rattle.exchange_core.specs.declared.exchange_fault.ExchangeFault.{ExchangeFault}
use Rattle.exchange_core.specs.declared.exchange_fault.ExchangeFault.TheVariants.{TooManyShares, Done, NotCancelled, NoSuchTrade}
use Rattle.exchange_core.specs.declared.ending.Ending.TheVariants.{ByCancel, ByReject}
use Rattle.exchange_core.specs.Order.{OrderParts, TradeParts, new_order, order_id, traded, ended_by, busted_at, is_cancelled, view_of}
use Rattle.exchange_core.specs.declared.sent_record.SentRecord.{SentRecord}
use Rattle.exchange_core.specs.declared.sent_record.SentRecord.TheVariants.{Admin, Reported, Refused}
use Rattle.exchange_core.specs.SentRecord.{next_exec, exec_id}
use Rattle.exchange_core.specs.Exchange.{ExchangeParts, Answer, next_report, logon_answer, with_connection, due_taken, take}
use Rattle.exchange_core.specs.Acts.{reported, order_at, still_going, trade_at, number_left, trade_answer, trade, end_answer, cancel_rest, reject, bust_answer, bust, test}
use Rattle.exchange_core.specs.Sound.{IsSound}
use Rattle.exchange_core.specs.Told.{Told, told_of, IsCancelled, MayFollow, AreFollowing, last_told, new_told, IsStanding, AreReportsOn, AreToldBy, OrdersAreTold}
use Rattle.exchange_core.proofs.ActsReport.{each, not_refused, after_act, at_place, moved_if, after_trade, after_bust, test_is}
use Rattle.exchange_core.proofs.Cases.{after_take_is}
use Rattle.exchange_core.proofs.Reporting.{within_by}

-- places that differ have OrderIDs that differ
same_place : (a b : ℕ) → a ≤ 999999999 → b ≤ 999999999 → order_id a ≡ order_id b → a ≡ b
same_place a b small few same =
    let digits : decimal a ≡ decimal b = cc in decimal_injective a b (omega arith) (omega arith) digits

other_place : (a b : ℕ) → a ≤ 999999999 → b ≤ 999999999 → (a ≡ b → ⊥) → bytes_eq (order_id a) (order_id b) ≡ false
other_place a b small few differs =
    elim (cases_Bool (bytes_eq (order_id a) (order_id b))) [
      | inl same ↦ absurd (differs (same_place a b small few ((bytes_eq-Decides (order_id a) (order_id b)).0 same)))
      | inr other ↦ other
    ]

-- reports of more own numbers
if_both : (b : Bool) (told : Told) (xs ys : List Told) → (if b then told ∷ xs else xs) ++ ys ≡ (if b then told ∷ (xs ++ ys) else (xs ++ ys))
if_both true told xs ys = refl
if_both false told xs ys = refl

told-append : (place : ℕ) (xs ys : List SentRecord) → told_of place (xs ++ ys) ≡ told_of place xs ++ told_of place ys
told-append place [] ys = refl
told-append place (Admin ∷ xs) ys = told-append place xs ys
told-append place (Refused number ∷ xs) ys = told-append place xs ys
told-append place (Reported report view ∷ xs) ys =
    let told : Told = record { kind = report.kind; view = view } in
    ap (λ l. if bytes_eq view.order_id (order_id place) then told ∷ l else l) (told-append place xs ys)
    ∙ sym (if_both (bytes_eq view.order_id (order_id place)) told (told_of place xs) (told_of place ys))

told_silent : (place : ℕ) (own more : List SentRecord) → told_of place more ≡ [] → told_of place (own ++ more) ≡ told_of place own
told_silent place own more none =
    told-append place own more ∙ (ap (λ l. told_of place own ++ l) none ∙ append-nil (told_of place own))

told_here : (place : ℕ) (own : List SentRecord) (report : Report) (view : OrderViewParts) → view.order_id ≡ order_id place → told_of place (own ++ Reported report view ∷ []) ≡ told_of place own ++ record { kind = report.kind; view = view } ∷ []
told_here place own report view is =
    let here : bytes_eq view.order_id (order_id place) ≡ true = (bytes_eq-Decides view.order_id (order_id place)).1 is in
    told-append place own (Reported report view ∷ []) ∙ rw here refl

told_elsewhere : (place : ℕ) (own : List SentRecord) (report : Report) (view : OrderViewParts) → bytes_eq view.order_id (order_id place) ≡ false → told_of place (own ++ Reported report view ∷ []) ≡ told_of place own
told_elsewhere place own report view other = told_silent place own (Reported report view ∷ []) (rw other refl)

-- what holds where no report is made
unreported : (own more : List SentRecord) (orders : List OrderParts) → ((place : ℕ) → told_of place more ≡ []) → AreToldBy own orders → AreToldBy (own ++ more) orders
unreported own more orders none told = record {
  each = λ place order there. subst (AreReportsOn place order) (sym (told_silent place own more (none place))) (told.each place order there);
  others = λ place past small. told_silent place own more (none place) ∙ told.others place past small;
}

-- an order of a list with one more
one_more : {A : Type 0} (k : ℕ) (xs : List A) (x y : A) → slice_get (xs ++ x ∷ []) k ≡ Some y → (slice_get xs k ≡ Some y) ⊎ ((k ≡ length xs) × (y ≡ x))
one_more zero [] x y is = inr (refl, sym (same_Some x y is))
one_more (suc k) [] x y is = absurd cc
one_more zero (first ∷ xs) x y is = inl is
one_more (suc k) (first ∷ xs) x y is =
    elim (one_more k xs x y is) [ inl front ↦ inl front | inr last ↦ inr (ap suc last.0, last.1) ]

more_cases : {A : Type 0} (place : ℕ) (xs : List A) (x y : A) → numbered place (xs ++ x ∷ []) ≡ Some y → (numbered place xs ≡ Some y) ⊎ ((place ≡ suc (length xs)) × (y ≡ x))
more_cases zero xs x y is = absurd cc
more_cases (suc k) xs x y is =
    elim (one_more k xs x y is) [ inl front ↦ inl front | inr last ↦ inr (ap suc last.0, last.1) ]

-- an order of a list in which one is another
set_cases : {A : Type 0} (k j : ℕ) (xs : List A) (x y : A) → slice_get (slice_set xs j x) k ≡ Some y → ((k ≡ j) × (y ≡ x)) ⊎ ((k ≡ j → ⊥) × (slice_get xs k ≡ Some y))
set_cases k j [] x y is = absurd cc
set_cases zero zero (z ∷ xs) x y is = inl (refl, sym (same_Some x y is))
set_cases (suc k) zero (z ∷ xs) x y is = inr (λ e. omega arith, is)
set_cases zero (suc j) (z ∷ xs) x y is = inr (λ e. omega arith, is)
set_cases (suc k) (suc j) (z ∷ xs) x y is =
    elim (set_cases k j xs x y is) [
      | inl here ↦ inl (ap suc here.0, here.1)
      | inr other ↦ inr (λ e. other.0 (omega arith), other.1)
    ]

with_cases : {A : Type 0} (place at : ℕ) (xs : List A) (x y : A) → numbered place (with_numbered at x xs) ≡ Some y → ((place ≡ at) × (y ≡ x)) ⊎ ((place ≡ at → ⊥) × (numbered place xs ≡ Some y))
with_cases zero at xs x y is = absurd cc
with_cases (suc k) zero xs x y is = inr (λ e. omega arith, is)
with_cases (suc k) (suc j) xs x y is =
    elim (set_cases k j xs x y is) [
      | inl here ↦ inl (ap suc here.0, here.1)
      | inr other ↦ inr (λ e. other.0 (omega arith), other.1)
    ]

length_set : {A : Type 0} (xs : List A) (k : ℕ) (x : A) → length (slice_set xs k x) ≡ length xs
length_set [] k x = refl
length_set (y ∷ ys) zero x = refl
length_set (y ∷ ys) (suc k) x = ap suc (length_set ys k x)

length_with : {A : Type 0} (xs : List A) (place : ℕ) (x : A) → length (with_numbered place x xs) ≡ length xs
length_with xs zero x = refl
length_with xs (suc k) x = length_set xs k x

-- the orders of a sound exchange are few
few_orders : (x : ExchangeParts) → IsSound x → suc (length x.orders) ≤ 999999999
few_orders x sound =
    let numbers = sound.numbered in
    let limit = sound.config.max_number in
    let few = sound.few in
    omega (arith, numbers, limit, few)

-- one report more
following_more : (before : Told) (rest : List Told) (told : Told) → AreFollowing before rest → (let last : Told = last_told before rest in MayFollow last.kind last.view told.kind told.view) → AreFollowing before (rest ++ told ∷ [])
following_more before [] told are may = (may, tt)
following_more before (next ∷ rest) told are may = (are.0, following_more next rest told are.1 may)

last_more : (before : Told) (rest : List Told) (told : Told) → last_told before (rest ++ told ∷ []) ≡ told
last_more before [] told = refl
last_more before (next ∷ rest) told = last_more next rest told

-- what is reported of an order next, and the order then
record IsNext (place : ℕ) (new : OrderParts) (kind : ReportKind) (last : Told) : Type 0 where
  pub may : MayFollow last.kind last.view kind (view_of place new)
  pub cancelled : is_cancelled new.ended ≡ true → IsCancelled kind × (new.split.still_open ≡ 0)

next_told : (place : ℕ) (old new : OrderParts) (kind : ReportKind) (reports : List Told) → new.leg ≡ old.leg → AreReportsOn place old reports → ((last : Told) → IsStanding place old last → IsNext place new kind last) → AreReportsOn place new (reports ++ record { kind = kind; view = view_of place new } ∷ [])
next_told place old new kind reports leg told step =
    let told_next : Told = record { kind = kind; view = view_of place new } in
    let first : Told = new_told place old.leg in
    let next = step (last_told first told.rest) told.standing in
    let same : first ≡ new_told place new.leg = ap (λ (l : Leg). new_told place l) (sym leg) in
    let standing : IsStanding place new told_next = record { view = refl; cancelled = next.cancelled } in
    record {
      rest = told.rest ++ told_next ∷ [];
      first = ap (λ l. l ++ told_next ∷ []) told.first ∙ ap (λ (f : Told). f ∷ (told.rest ++ told_next ∷ [])) same;
      following = subst (λ (f : Told). AreFollowing f (told.rest ++ told_next ∷ [])) same
          (following_more first told.rest told_next told.following next.may);
      standing = subst (λ (l : Told). IsStanding place new l) (sym (last_more (new_told place new.leg) told.rest told_next)) standing;
    }

-- an order that changes is reported
changed : (x : ExchangeParts) → IsSound x → OrdersAreTold x → (place : ℕ) (old new : OrderParts) (kind : ReportKind) → numbered place x.orders ≡ Some old → new.leg ≡ old.leg → ((last : Told) → IsStanding place old last → IsNext place new kind last) → OrdersAreTold (reported x place new kind).1
changed x sound told place old new kind there leg step =
    let report : Report = next_report x new kind in
    let few = few_orders x sound in
    let inside = within_by x.orders place old there in
    let longer = length_with x.orders place new in
    let small : place ≤ 999999999 = omega (arith, few, inside.1) in
    let told_new : Told = record { kind = kind; view = view_of place new } in
    let more : told_of place (x.own ++ Reported report (view_of place new) ∷ []) ≡ told_of place x.own ++ told_new ∷ [] =
    told_here place x.own report (view_of place new) refl in
    let here : AreReportsOn place new (told_of place (x.own ++ Reported report (view_of place new) ∷ [])) =
    subst (AreReportsOn place new) (sym more) (next_told place old new kind (told_of place x.own) leg (told.each place old there) step) in
    record {
      each = λ at order is.
          elim (with_cases at place x.orders new order is) [
            | inl same ↦
                subst (λ (p : ℕ). AreReportsOn p order (told_of p (x.own ++ Reported report (view_of place new) ∷ []))) (sym same.0)
                (subst (λ (o : OrderParts). AreReportsOn place o (told_of place (x.own ++ Reported report (view_of place new) ∷ []))) (sym same.1) here)
            | inr other ↦
                let within = within_by x.orders at order other.1 in
                let apart : bytes_eq (order_id place) (order_id at) ≡ false =
                other_place place at small (omega (arith, few, within.1)) (λ e. other.0 (sym e)) in
                subst (AreReportsOn at order) (sym (told_elsewhere at x.own report (view_of place new) apart)) (told.each at order other.1)
          ];
      others = λ at past low.
          let beyond : length x.orders < at = omega (arith, past, longer) in
          let apart : bytes_eq (order_id place) (order_id at) ≡ false =
          other_place place at small low (λ e. omega (arith, e, beyond, inside.1)) in
          told_elsewhere at x.own report (view_of place new) apart ∙ told.others at beyond low;
    }

-- an order that is accepted is reported as new
accepted : (x : ExchangeParts) (leg : Leg) → IsSound x → OrdersAreTold x → OrdersAreTold (due_taken x (Order (Ok leg))).1
accepted x leg sound told =
    let new : OrderParts = new_order leg in
    let place : ℕ = suc (length x.orders) in
    let report : Report = next_report x new New in
    let view : OrderViewParts = view_of place new in
    let few = few_orders x sound in
    let longer = length-append x.orders (new ∷ []) in
    let none : told_of place x.own ≡ [] = told.others place (omega arith) few in
    let one : told_of place (x.own ++ Reported report view ∷ []) ≡ new_told place leg ∷ [] =
    told_here place x.own report view refl ∙ ap (λ l. l ++ new_told place leg ∷ []) none in
    let here : AreReportsOn place new (told_of place (x.own ++ Reported report view ∷ [])) =
    record { rest = []; first = one; following = tt; standing = record { view = refl; cancelled = λ is. absurd cc } } in
    record {
      each = λ at order is.
          elim (more_cases at x.orders new order is) [
            | inl there ↦
                let within = within_by x.orders at order there in
                let apart : bytes_eq (order_id place) (order_id at) ≡ false =
                other_place place at few (omega (arith, few, within.1)) (λ e. omega (arith, e, within.1)) in
                subst (AreReportsOn at order) (sym (told_elsewhere at x.own report view apart)) (told.each at order there)
            | inr same ↦
                subst (λ (p : ℕ). AreReportsOn p order (told_of p (x.own ++ Reported report view ∷ []))) (sym same.0)
                (subst (λ (o : OrderParts). AreReportsOn place o (told_of place (x.own ++ Reported report view ∷ []))) (sym same.1) here)
          ];
      others = λ at past low.
          let beyond : length x.orders < at = omega (arith, past, longer) in
          let apart : bytes_eq (order_id place) (order_id at) ≡ false =
          other_place place at few low (λ e. omega (arith, e, past, longer)) in
          told_elsewhere at x.own report view apart ∙ told.others at beyond low;
    }

pub new_is_told : AreToldBy [] []
new_is_told = record { each = λ place order there. none place order there; others = λ place past small. refl } where
  none : (place : ℕ) (order : OrderParts) → numbered place [] ≡ Some order → AreReportsOn place order []
  none zero order there = absurd cc
  none (suc k) order there = absurd cc

due_told : (x : ExchangeParts) (content : Content) → IsSound x → OrdersAreTold x → OrdersAreTold (due_taken x content).1
due_told x (Order (Ok leg)) sound told = accepted x leg sound told
due_told x (Order (Err fault)) sound told = unreported x.own (Refused x.expected ∷ []) x.orders (λ place. refl) told
due_told x (Session (GapFill new_number)) sound told = told
due_told x (Session Logout) sound told = unreported x.own (Admin ∷ []) x.orders (λ place. refl) told
due_told x (Session (TestRequest id)) sound told = unreported x.own (Admin ∷ []) x.orders (λ place. refl) told
due_told x content sound told = told

logon_told : (x : ExchangeParts) (connection number heart : ℕ) (next : Option ℕ) (b : Bool) → OrdersAreTold x → OrdersAreTold (logon_answer (with_connection x connection number) connection b heart next).1
logon_told x connection number heart (Some next) b told = unreported x.own (Admin ∷ []) x.orders (λ place. refl) told
logon_told x connection number heart None true told = unreported x.own (Admin ∷ []) x.orders (λ place. refl) told
logon_told x connection number heart None false told = unreported x.own (Admin ∷ Admin ∷ []) x.orders (λ place. refl) told

pub take_told : (x : ExchangeParts) (connection : ℕ) (m : Message) → IsSound x → OrdersAreTold x → OrdersAreTold (take x connection m).1
take_told x connection m sound told =
    after_take_is x connection m OrdersAreTold told
    (λ heart next room newer. logon_told x connection m.number heart next (m.number == x.expected) told)
    (λ room due. due_told x m.content sound told)
    (λ live room is. unreported x.own (Admin ∷ []) x.orders (λ place. refl) told)

-- a test that had to hold
held : (b : Bool) (fault : ExchangeFault) (u : Unit {0}) → unless b fault ≡ Ok u → b ≡ true
held true fault u ok = refl
held false fault u ok = absurd cc

-- the next report on an order that was traded, whose rest was cancelled, that was rejected, and of which a trade was
-- busted
next_trade : (place : ℕ) (old : OrderParts) (shares exec : ℕ) (px : List ℕ) → 1 ≤ shares → shares ≤ old.split.still_open → (last : Told) → IsStanding place old last → IsNext place (after_trade old shares exec) (Trade (record { shares = shares; px = px })) last
next_trade place old shares exec px low within last stands = record {
  may = subst (λ (v : OrderViewParts). MayFollow last.kind v (Trade (record { shares = shares; px = px })) (view_of place (after_trade old shares exec))) (sym stands.view) (low, within, refl);
  cancelled = λ is. let none = (stands.cancelled is).1 in absurd (omega (arith, none, low, within));
}

next_cancel : (place : ℕ) (old : OrderParts) → 1 ≤ old.split.still_open → (last : Told) → IsStanding place old last → IsNext place (ended_by ByCancel old) Canceled last
next_cancel place old some last stands = record {
  may = subst (λ (v : OrderViewParts). MayFollow last.kind v Canceled (view_of place (ended_by ByCancel old))) (sym stands.view) (some, refl);
  cancelled = λ is. (tt, refl);
}

next_reject : (place : ℕ) (old : OrderParts) → 1 ≤ old.split.still_open → (last : Told) → IsStanding place old last → IsNext place (ended_by ByReject old) Rejected last
next_reject place old some last stands = record {
  may = subst (λ (v : OrderViewParts). MayFollow last.kind v Rejected (view_of place (ended_by ByReject old))) (sym stands.view) (some, refl);
  cancelled = λ is. absurd cc;
}

next_bust : (place : ℕ) (old : OrderParts) (which : ℕ) (trade : TradeParts) (id : List ℕ) → is_cancelled old.ended ≡ true → (last : Told) → IsStanding place old last → IsNext place (after_bust old which trade) (Bust id) last
next_bust place old which trade id ended last stands =
    let was = stands.cancelled ended in
    record {
      may = subst (λ (v : OrderViewParts). MayFollow last.kind v (Bust id) (view_of place (after_bust old which trade))) (sym stands.view) (was.0, was.1, omega arith, refl);
      cancelled = λ is. (tt, was.1);
    }

-- The acts.
abbrev Goes : Answer → Type 0
Goes a = OrdersAreTold a.1

module _ (x : ExchangeParts) (sound : IsSound x) (told : OrdersAreTold x) where
  trades : (place shares : ℕ) (px : List ℕ) → IfOk (trade_answer x place shares px) Goes
  trades place shares px =
      each Goes (order_at x place) _
      (λ order is. each Goes (still_going order) _
      (λ going _. each Goes (unless (not (shares == 0)) TooManyShares) _
      (λ some ok. each Goes (traded order shares (next_exec x.own)) _
      (λ after fits. each Goes (number_left x) _
      (λ number left.
      let low = not_refused (shares == 0) TooManyShares some ok in
      let parts = moved_if TooManyShares Overfill _ (nat_le shares order.split.still_open) _ _ after fits in
      let kind : ReportKind = Trade (record { shares = shares; px = px }) in
      changed x sound told place order after kind (at_place x place order is) (ap (λ (o : OrderParts). o.leg) parts.1)
      (λ last stands.
      subst (λ (o : OrderParts). IsNext place o kind last) (sym parts.1)
      (next_trade place order shares (next_exec x.own) px (grind (arith, nat_tests, low)) (grind (arith, nat_tests, parts.0)) last stands)))))))

  cancels : (place : ℕ) → IfOk (end_answer x place ByCancel Canceled) Goes
  cancels place =
      each Goes (order_at x place) _
      (λ order is. each Goes (still_going order) _
      (λ going ok. each Goes (number_left x) _
      (λ number left.
      let some = not_refused (order.split.still_open == 0) Done going ok in
      changed x sound told place order (ended_by ByCancel order) Canceled (at_place x place order is) refl
      (next_cancel place order (grind (arith, nat_tests, some))))))

  rejects : (place : ℕ) → IfOk (end_answer x place ByReject Rejected) Goes
  rejects place =
      each Goes (order_at x place) _
      (λ order is. each Goes (still_going order) _
      (λ going ok. each Goes (number_left x) _
      (λ number left.
      let some = not_refused (order.split.still_open == 0) Done going ok in
      changed x sound told place order (ended_by ByReject order) Rejected (at_place x place order is) refl
      (next_reject place order (grind (arith, nat_tests, some))))))

  busts : (place which : ℕ) → IfOk (bust_answer x place which) Goes
  busts place which =
      each Goes (order_at x place) _
      (λ order is. each Goes (unless (is_cancelled order.ended) NotCancelled) _
      (λ cancelled ok. each Goes (trade_at order which) _
      (λ trade found. each Goes (busted_at which trade order) _
      (λ after fits. each Goes (number_left x) _
      (λ number left.
      let parts = moved_if NoSuchTrade NotFilled _ (nat_le trade.shares order.split.filled) _ _ after fits in
      changed x sound told place order after (Bust (exec_id trade.exec)) (at_place x place order is) (ap (λ (o : OrderParts). o.leg) parts.1)
      (λ last stands.
      subst (λ (o : OrderParts). IsNext place o (Bust (exec_id trade.exec)) last) (sym parts.1)
      (next_bust place order which trade (exec_id trade.exec) (held (is_cancelled order.ended) NotCancelled cancelled ok) last stands)))))))

  pub trade_told : (place shares : ℕ) (px : List ℕ) → OrdersAreTold (trade x place shares px).1
  trade_told place shares px = after_act x OrdersAreTold (trade_answer x place shares px) told (trades place shares px)

  pub cancel_rest_told : (place : ℕ) → OrdersAreTold (cancel_rest x place).1
  cancel_rest_told place = after_act x OrdersAreTold (end_answer x place ByCancel Canceled) told (cancels place)

  pub reject_told : (place : ℕ) → OrdersAreTold (reject x place).1
  reject_told place = after_act x OrdersAreTold (end_answer x place ByReject Rejected) told (rejects place)

  pub bust_told : (place which : ℕ) → OrdersAreTold (bust x place which).1
  bust_told place which = after_act x OrdersAreTold (bust_answer x place which) told (busts place which)

  pub test_told : OrdersAreTold (test x).1
  test_told = test_is x OrdersAreTold told (λ left. unreported x.own (Admin ∷ []) x.orders (λ place. refl) told)
