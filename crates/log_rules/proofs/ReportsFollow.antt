-- An order is known only once it was sent, so reports that break no rule follow their orders.
use Rattle.std.proofs.Common.{◌≡◌, ℕ, Bool, true, false, ◌&&◌, ◌⊎◌, inl, inr, List, [], ◌∷◌, ◌++◌, refl, ap, ◌∙◌, sym}
use Rattle.std.specs.Prelude.{Option, Some, None, is_some, nat_le, if◌then◌else◌}
use Rattle.std.specs.Option.{option_to_list}
use Rattle.std.specs.Str.{bytes_eq}
use Rattle.std.proofs.lemmas.Slice.Eq.{bytes_eq-Decides}
use Rattle.message_log.specs.declared.direction.Direction.{Direction}
use Rattle.message_log.specs.declared.direction.Direction.TheVariants.{Sent, Received}
use Rattle.log_rules.specs.declared.entry.Entry.{Entry}
use Rattle.log_rules.specs.declared.says.Says.{Says}
use Rattle.log_rules.specs.declared.says.Says.TheVariants.{Logon, ResendRequest, Order, Report, Refused}
use Rattle.log_rules.specs.declared.standing.Standing.{Standing}
use Rattle.log_rules.specs.declared.verdict.Verdict.TheVariants.{Broken}
use Rattle.log_rules.specs.Checker.{CheckerParts, heard}
use Rattle.log_rules.specs.Ledger.{LedgerParts, changed_at, changed_with, newest_order, order_of, report_under, with_report, with_sums, withdrawn_from, newest_under, with_refusal}
use Rattle.log_rules.specs.LedgerRules.{known_order}
use Rattle.log_rules.specs.Order.{OrderParts, new_order, reported, withdrawn_by, refused}
use Rattle.log_rules.specs.Runs.{FollowOrders, IsOn, IsOneOf, ReportKnown, sent_id}
use Rattle.log_rules.specs.Standing.{is_due}
use Rattle.log_rules.specs.Verdict.{held_if}
use Rattle.log_rules.proofs.KeepsIds.{KeepsNames, keeps_id, newest_changed, newest_mapped, refused_keeps, summed_keeps, withdrawn_keeps}
use Rattle.log_rules.proofs.KnownOrders.{Known, later_or_here, some_before, some_here, some_later}

-- an order that is known with one more was known before, or is that one
known_or_last : (orders : List OrderParts) (o : OrderParts) (id : List ℕ) → Known (orders ++ o ∷ []) id
    → Known orders id ⊎ (bytes_eq o.id id ≡ true)
known_or_last [] o id known =
    elim (later_or_here None (bytes_eq o.id id) known) [ inl later ↦ inl later | inr here ↦ inr here ]
known_or_last (x ∷ xs) o id known =
    elim (later_or_here (newest_order (xs ++ o ∷ []) id) (bytes_eq x.id id) known) [
      | inl later ↦ elim (known_or_last xs o id later) [
        | inl before ↦ inl (some_later (newest_order xs id) (bytes_eq x.id id) before)
        | inr last ↦ inr last
      ]
      | inr here ↦ inl (some_here (newest_order xs id) (bytes_eq x.id id) here)
    ]

-- of two ledgers, whichever it is
of_either : (is_first : Bool) (a b : LedgerParts) (id : List ℕ) (P : Type 0) → (Known a.orders id → P)
    → (Known b.orders id → P) → Known (if is_first then a else b).orders id → P
of_either true a b id P first second known = first known
of_either false a b id P first second known = second known

was_withdrawn : (settled expected : ℕ) (l : LedgerParts) (id : List ℕ)
    → Known (withdrawn_from settled expected l).orders id → Known l.orders id
was_withdrawn settled expected l id known =
    ap is_some (sym (newest_mapped (λ o. bytes_eq o.id id) (withdrawn_by settled expected) l.orders
    (keeps_id (withdrawn_by settled expected) id (withdrawn_keeps settled expected)))) ∙ known

was_changed : (change : OrderParts → OrderParts) (place : Option ℕ) (orders : List OrderParts) (id : List ℕ)
    → KeepsNames change → Known (changed_at change place orders) id → Known orders id
was_changed change None orders id keeps known = known
was_changed change (Some place) orders id keeps known =
    ap is_some (sym (newest_changed (λ o. bytes_eq o.id id) change place orders (keeps_id change id keeps))) ∙ known

-- the orders that are known are among those that were sent
abbrev WereSent : LedgerParts → List (List ℕ) → Type 0
WereSent l ids = (id : List ℕ) → Known l.orders id → IsOneOf id ids

-- and so they are behind a message
still_sent : (s : Standing) (l : LedgerParts) (direction : Direction) (says : Says) (number : ℕ) (ids : List (List ℕ))
    → WereSent l ids → WereSent (changed_with s direction says number l) (option_to_list (sent_id direction says) ++ ids)
still_sent s l Sent (Order said) number ids sent id known =
    of_either (is_some (order_of l.orders said.id)) l (record l { orders = l.orders ++ new_order number said ∷ [] }) id
    (IsOneOf id (said.id ∷ ids)) (λ before. inr (sent id before))
    (λ more. elim (known_or_last l.orders (new_order number said) id more) [
      | inl before ↦ inr (sent id before)
      | inr last ↦ inl (sym ((bytes_eq-Decides said.id id).0 last))
    ]) known
still_sent s l Received (Report said) number ids sent id known =
    let kept : LedgerParts = with_report s.seen number said l in
    let before : Known kept.orders id → IsOneOf id ids =
    of_either (nat_le number s.seen && is_some (report_under number l.reports)) l _ id (IsOneOf id ids) (sent id) (sent id) in
    of_either (is_due s.counted number) (with_sums said kept) kept id (IsOneOf id ids)
    (λ summed. before (was_changed (reported said) (newest_order kept.orders said.id) kept.orders id
    (summed_keeps said.cum said.leaves) summed)) before known
still_sent s l Received (Refused order) number ids sent id known =
    of_either (is_due s.counted number) (with_refusal order l) l id (IsOneOf id ids)
    (λ refusal. sent id (was_changed refused (newest_under l.orders order) l.orders id refused_keeps refusal)) (sent id) known
still_sent s l Received (ResendRequest begin last) number ids sent id known =
    of_either s.is_up l (withdrawn_from s.settled begin l) id (IsOneOf id ids) (sent id)
    (λ withdrawn. sent id (was_withdrawn s.settled begin l id withdrawn)) known
still_sent s l Received (Logon heart reset None) number ids sent id known = sent id known
still_sent s l Received (Logon heart reset (Some next)) number ids sent id known =
    of_either s.says_next (withdrawn_from s.settled next l) l id (IsOneOf id ids)
    (λ withdrawn. sent id (was_withdrawn s.settled next l id withdrawn)) (sent id) known
still_sent s l direction says number ids sent id known = sent id known

found_where_held : (found : Option OrderParts) → (held_if (is_some found) ≡ Broken → ⊥) → is_some found ≡ true
found_where_held (Some o) held = refl
found_where_held None held = absurd (held refl)

-- a report that doesn't break the rule is on one of them
on_sent : (l : LedgerParts) (direction : Direction) (says : Says) (ids : List (List ℕ))
    → (known_order l direction says ≡ Broken → ⊥) → WereSent l ids → IsOn ids direction says
on_sent l Received (Report said) ids held sent =
    sent said.id (some_before l.orders (newest_order l.orders said.id) (found_where_held (order_of l.orders said.id) held))
on_sent l direction says ids held sent = tt

pub reports_follow : (c : CheckerParts) (entries : List Entry) (ids : List (List ℕ)) → ReportKnown c entries
    → WereSent c.ledger ids → FollowOrders ids entries
reports_follow c [] ids held sent = tt
reports_follow c (e ∷ es) ids held sent = (
  on_sent c.ledger e.direction e.says ids held.0 sent,
  reports_follow (heard c e) es (option_to_list (sent_id e.direction e.says) ++ ids) held.1
      (still_sent c.standing c.ledger e.direction e.says e.number ids sent),
)
