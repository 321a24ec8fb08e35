-- An order that was sent stays known by its id.
use Rattle.std.proofs.Common.{◌≡◌, ℕ, Bool, true, false, ◌&&◌, ◌⊎◌, inl, inr, List, [], ◌∷◌, ◌++◌, refl, ap, ◌∙◌}
use Rattle.std.specs.Prelude.{Option, Some, None, is_some, option_and_then, slice_get, nat_le, if◌then◌else◌}
use Rattle.std.specs.Str.{bytes_eq}
use Rattle.std.proofs.lemmas.Slice.Eq.{bytes_eq-Decides}
use Rattle.message_log.specs.declared.direction.Direction.{Direction}
use Rattle.message_log.specs.declared.direction.Direction.TheVariants.{Sent, Received}
use Rattle.log_rules.specs.declared.order_said.OrderSaid.{OrderSaid}
use Rattle.log_rules.specs.declared.says.Says.{Says}
use Rattle.log_rules.specs.declared.says.Says.TheVariants.{Logon, ResendRequest, Order, Report, Refused}
use Rattle.log_rules.specs.declared.standing.Standing.{Standing}
use Rattle.log_rules.specs.Ledger.{LedgerParts, changed_at, changed_with, newest_of, newest_order, order_of, report_under, with_order, with_report, with_sums, withdrawn_from, newest_under, with_refusal}
use Rattle.log_rules.specs.Order.{OrderParts, new_order, reported, withdrawn_by, refused}
use Rattle.log_rules.specs.Standing.{is_due}
use Rattle.log_rules.proofs.KeepsIds.{KeepsNames, keeps_id, newest_changed, newest_mapped, refused_keeps, summed_keeps, withdrawn_keeps}

-- there is an order of an id
abbrev pub Known : List OrderParts → List ℕ → Type 0
Known orders id = is_some (newest_order orders id) ≡ true

pub some_later : (later : Option ℕ) (is_first : Bool) → is_some later ≡ true → is_some (newest_of later is_first) ≡ true
some_later (Some place) is_first known = refl
some_later None is_first known = cc

pub some_here : (later : Option ℕ) (is_first : Bool) → is_first ≡ true → is_some (newest_of later is_first) ≡ true
some_here (Some place) is_first here = refl
some_here None is_first here = rw here refl

pub later_or_here : (later : Option ℕ) (is_first : Bool) → is_some (newest_of later is_first) ≡ true
    → (is_some later ≡ true) ⊎ (is_first ≡ true)
later_or_here (Some place) is_first known = inl refl
later_or_here None true known = inr refl
later_or_here None false known = cc

-- among more orders
known_among : (orders more : List OrderParts) (id : List ℕ) → Known orders id → Known (orders ++ more) id
known_among [] more id known = cc
known_among (o ∷ os) more id known =
    elim (later_or_here (newest_order os id) (bytes_eq o.id id) known) [
      | inl later ↦ some_later (newest_order (os ++ more) id) (bytes_eq o.id id) (known_among os more id later)
      | inr here ↦ some_here (newest_order (os ++ more) id) (bytes_eq o.id id) here
    ]

-- the last one
known_last : (orders : List OrderParts) (o : OrderParts) (id : List ℕ) → bytes_eq o.id id ≡ true
    → Known (orders ++ o ∷ []) id
known_last [] o id same = some_here None (bytes_eq o.id id) same
known_last (x ∷ xs) o id same =
    some_later (newest_order (xs ++ o ∷ []) id) (bytes_eq x.id id) (known_last xs o id same)

-- of two ledgers, whichever it is
either : (is_first : Bool) (a b : LedgerParts) (id : List ℕ) → (is_first ≡ true → Known a.orders id)
    → (is_first ≡ false → Known b.orders id) → Known (if is_first then a else b).orders id
either true a b id first second = first refl
either false a b id first second = second refl

withdrawn_known : (settled expected : ℕ) (l : LedgerParts) (id : List ℕ) → Known l.orders id
    → Known (withdrawn_from settled expected l).orders id
withdrawn_known settled expected l id known =
    ap is_some (newest_mapped (λ o. bytes_eq o.id id) (withdrawn_by settled expected) l.orders
    (keeps_id (withdrawn_by settled expected) id (withdrawn_keeps settled expected))) ∙ known

changed_known : (change : OrderParts → OrderParts) (place : Option ℕ) (orders : List OrderParts) (id : List ℕ)
    → KeepsNames change → Known orders id → Known (changed_at change place orders) id
changed_known change None orders id keeps known = known
changed_known change (Some place) orders id keeps known =
    ap is_some (newest_changed (λ o. bytes_eq o.id id) change place orders (keeps_id change id keeps)) ∙ known

-- it stays known whatever comes
pub stays : (s : Standing) (direction : Direction) (says : Says) (number : ℕ) (l : LedgerParts) (id : List ℕ)
    → Known l.orders id → Known (changed_with s direction says number l).orders id
stays s Sent (Order said) number l id known =
    either (is_some (order_of l.orders said.id)) l (record l { orders = l.orders ++ new_order number said ∷ [] }) id
    (λ sent. known) (λ new. known_among l.orders (new_order number said ∷ []) id known)
stays s Received (Report said) number l id known =
    let kept : LedgerParts = with_report s.seen number said l in
    let still : Known kept.orders id =
    either (nat_le number s.seen && is_some (report_under number l.reports)) l _ id (λ came. known) (λ new. known) in
    either (is_due s.counted number) (with_sums said kept) kept id
    (λ due. changed_known (reported said) (newest_order kept.orders said.id) kept.orders id
    (summed_keeps said.cum said.leaves) still) (λ later. still)
stays s Received (Refused order) number l id known =
    either (is_due s.counted number) (with_refusal order l) l id
    (λ due. changed_known refused (newest_under l.orders order) l.orders id refused_keeps known) (λ later. known)
stays s Received (ResendRequest begin last) number l id known =
    either s.is_up l (withdrawn_from s.settled begin l) id (λ up. known) (λ down. withdrawn_known s.settled begin l id known)
stays s Received (Logon heart reset None) number l id known = known
stays s Received (Logon heart reset (Some next)) number l id known =
    either s.says_next (withdrawn_from s.settled next l) l id (λ says. withdrawn_known s.settled next l id known) (λ silent. known)
stays s direction says number l id known = known

pub some_before : (orders : List OrderParts) (place : Option ℕ) → is_some (option_and_then (slice_get orders) place) ≡ true
    → is_some place ≡ true
some_before orders None some = cc
some_before orders (Some place) some = refl

-- an order that is sent is known then
pub sent_is_known : (number : ℕ) (said : OrderSaid) (l : LedgerParts) → Known (with_order number said l).orders said.id
sent_is_known number said l =
    either (is_some (order_of l.orders said.id)) l (record l { orders = l.orders ++ new_order number said ∷ [] }) said.id
    (λ sent. some_before l.orders (newest_order l.orders said.id) sent)
    (λ new. known_last l.orders (new_order number said) said.id ((bytes_eq-Decides said.id said.id).1 refl))

found_next : (o : OrderParts) (os : List OrderParts) (later : Option ℕ) (is_first : Bool)
    → (is_some later ≡ true → is_some (option_and_then (slice_get os) later) ≡ true)
    → is_some (newest_of later is_first) ≡ true
    → is_some (option_and_then (slice_get (o ∷ os)) (newest_of later is_first)) ≡ true
found_next o os (Some place) is_first found known = found refl
found_next o os None true found known = refl
found_next o os None false found known = cc

-- a known order is found
pub known_is_found : (orders : List OrderParts) (id : List ℕ) → Known orders id → is_some (order_of orders id) ≡ true
known_is_found [] id known = cc
known_is_found (o ∷ os) id known =
    found_next o os (newest_order os id) (bytes_eq o.id id) (known_is_found os id) known
