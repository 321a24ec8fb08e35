-- Where no order breaks the rule, no two have one id.
use Rattle.std.proofs.Common.{◌≡◌, ℕ, true, List, [], ◌∷◌, ◌++◌, refl, subst}
use Rattle.std.specs.Prelude.{Option, Some, None, is_some, is_none}
use Rattle.std.specs.Option.{option_to_list}
use Rattle.message_log.specs.declared.direction.Direction.{Direction}
use Rattle.message_log.specs.declared.direction.Direction.TheVariants.{Sent}
use Rattle.log_rules.specs.declared.entry.Entry.{Entry}
use Rattle.log_rules.specs.declared.order_said.OrderSaid.{OrderSaid}
use Rattle.log_rules.specs.declared.says.Says.{Says}
use Rattle.log_rules.specs.declared.says.Says.TheVariants.{Order}
use Rattle.log_rules.specs.declared.standing.Standing.{Standing}
use Rattle.log_rules.specs.declared.verdict.Verdict.TheVariants.{Broken}
use Rattle.log_rules.specs.Checker.{CheckerParts, heard}
use Rattle.log_rules.specs.Ledger.{LedgerParts, changed_with, order_of}
use Rattle.log_rules.specs.LedgerRules.{sent_once}
use Rattle.log_rules.specs.Order.{OrderParts}
use Rattle.log_rules.specs.Runs.{AreApart, IsNoneOf, SendOnce, sent_id, sent_ids}
use Rattle.log_rules.specs.Verdict.{held_if}
use Rattle.log_rules.proofs.KnownOrders.{Known, known_is_found, sent_is_known, stays}

broken_where_found : (found : Option OrderParts) → is_some found ≡ true → held_if (is_none found) ≡ Broken
broken_where_found (Some o) some = refl
broken_where_found None some = cc

-- an order that doesn't break the rule has an id that isn't known
not_again : (l : LedgerParts) (said : OrderSaid) (id : List ℕ) → Known l.orders id
    → (sent_once l Sent (Order said) ≡ Broken → ⊥) → id ≡ said.id → ⊥
not_again l said id known fine same =
    fine (broken_where_found (order_of l.orders said.id)
    (known_is_found l.orders said.id (subst (λ text. Known l.orders text) same known)))

-- no id that is known is sent later, and those that are sent later are apart
once_more : (s : Standing) (l : LedgerParts) (direction : Direction) (says : Says) (number : ℕ) (ids : List (List ℕ))
    → (sent_once l direction says ≡ Broken → ⊥)
    → ((id : List ℕ) → Known (changed_with s direction says number l).orders id → IsNoneOf id ids) → AreApart ids
    → ((id : List ℕ) → Known l.orders id → IsNoneOf id (option_to_list (sent_id direction says) ++ ids))
    × AreApart (option_to_list (sent_id direction says) ++ ids)
once_more s l Sent (Order said) number ids fine later apart = (
  (λ id known. (not_again l said id known fine, later id (stays s Sent (Order said) number l id known))),
  (later said.id (sent_is_known number said l), apart),
)
once_more s l direction says number ids fine later apart =
    ((λ id known. later id (stays s direction says number l id known)), apart)

pub sent_apart : (c : CheckerParts) (entries : List Entry) → SendOnce c entries
    → ((id : List ℕ) → Known c.ledger.orders id → IsNoneOf id (sent_ids entries)) × AreApart (sent_ids entries)
sent_apart c [] fine = ((λ id known. tt), tt)
sent_apart c (e ∷ es) fine =
    let rest = sent_apart (heard c e) es fine.1 in
    once_more c.standing c.ledger e.direction e.says e.number (sent_ids es) fine.0 rest.0 rest.1
