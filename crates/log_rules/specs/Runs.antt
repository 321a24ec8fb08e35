-- What a whole log shows, from its first message on.
use Rattle.std.specs.Prelude.{◌≡◌, ◌⊎◌, ℕ, List, [], ◌∷◌, ◌++◌, Option, Some, None}
use Rattle.std.specs.Option.{option_to_list}
use Rattle.message_log.specs.declared.direction.Direction.{Direction}
use Rattle.message_log.specs.declared.direction.Direction.TheVariants.{Sent, Received}
use Rattle.log_rules.specs.declared.entry.Entry.{Entry}
use Rattle.log_rules.specs.declared.says.Says.{Says}
use Rattle.log_rules.specs.declared.says.Says.TheVariants.{Order, Report}
use Rattle.log_rules.specs.declared.verdict.Verdict.TheVariants.{Broken}
use Rattle.log_rules.specs.Checker.{CheckerParts, heard}
use Rattle.log_rules.specs.LedgerRules.{known_order, sent_once}

-- none of these messages, heard one after the other, breaks the rule that an order is sent once
abbrev pub SendOnce : CheckerParts → List Entry → Type 0
SendOnce c [] = Unit {0}
SendOnce c (e ∷ es) = (sent_once c.ledger e.direction e.says ≡ Broken → ⊥) × SendOnce (heard c e) es

-- the id (11) of an order that is sent
abbrev pub sent_id : Direction → Says → Option (List ℕ)
sent_id Sent (Order said) = Some said.id
sent_id direction says = None

-- the ids of the orders that are sent, in order
abbrev pub sent_ids : List Entry → List (List ℕ)
sent_ids [] = []
sent_ids (e ∷ es) = option_to_list (sent_id e.direction e.says) ++ sent_ids es

-- an id is none of these
abbrev pub IsNoneOf : List ℕ → List (List ℕ) → Type 0
IsNoneOf id [] = Unit {0}
IsNoneOf id (x ∷ xs) = (id ≡ x → ⊥) × IsNoneOf id xs

-- no two of these are the same
abbrev pub AreApart : List (List ℕ) → Type 0
AreApart [] = Unit {0}
AreApart (id ∷ ids) = IsNoneOf id ids × AreApart ids

-- none of these messages, heard one after the other, breaks the rule that a report is on an order that was sent
abbrev pub ReportKnown : CheckerParts → List Entry → Type 0
ReportKnown c [] = Unit {0}
ReportKnown c (e ∷ es) = (known_order c.ledger e.direction e.says ≡ Broken → ⊥) × ReportKnown (heard c e) es

-- an id is one of these
abbrev pub IsOneOf : List ℕ → List (List ℕ) → Type 0
IsOneOf id [] = ⊥
IsOneOf id (x ∷ xs) = (id ≡ x) ⊎ IsOneOf id xs

-- a report is on an order of one of these ids
abbrev pub IsOn : List (List ℕ) → Direction → Says → Type 0
IsOn ids Received (Report said) = IsOneOf said.id ids
IsOn ids direction says = Unit {0}

-- each report is on an order that was sent before it, where these were sent before the first message
abbrev pub FollowOrders : List (List ℕ) → List Entry → Type 0
FollowOrders ids [] = Unit {0}
FollowOrders ids (e ∷ es) =
    IsOn ids e.direction e.says × FollowOrders (option_to_list (sent_id e.direction e.says) ++ ids) es
