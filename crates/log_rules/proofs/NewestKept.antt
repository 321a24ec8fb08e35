-- The newest order that passes a test, by its place.
use Rattle.std.proofs.Common.{◌≡◌, ℕ, suc, ◌<◌, Bool, true, false, List, [], ◌∷◌, ◌++◌, length, refl, ap, ◌∙◌, arith}
use Rattle.std.specs.Prelude.{Option, Some, None, if◌then◌else◌}
use Rattle.log_rules.specs.Ledger.{newest_of, newest_place}
use Rattle.log_rules.specs.Order.{OrderParts}

within_one_more : (later : Option ℕ) (is_first : Bool) (count place : ℕ)
    → ((earlier : ℕ) → later ≡ Some earlier → earlier < count) → newest_of later is_first ≡ Some place → place < suc count
within_one_more (Some earlier) is_first count place within found =
    let before = within earlier refl in
    grind (arith, before, found)
within_one_more None true count place within found = grind (arith, found)
within_one_more None false count place within found = cc

-- it is one of the orders
pub newest_within : (test : OrderParts → Bool) (orders : List OrderParts) (place : ℕ)
    → newest_place test orders ≡ Some place → place < length orders
newest_within test [] place found = cc
newest_within test (o ∷ os) place found =
    within_one_more (newest_place test os) (test o) (length os) place (newest_within test os) found

behind_one : (is_last is_first : Bool) (count : ℕ) (before : Option ℕ)
    → newest_of (if is_last then Some count else before) is_first
    ≡ (if is_last then Some (suc count) else newest_of before is_first)
behind_one true is_first count before = refl
behind_one false is_first count before = refl

-- with one order more it is that one, if it passes
pub newest_pushed : (test : OrderParts → Bool) (orders : List OrderParts) (o : OrderParts)
    → newest_place test (orders ++ o ∷ []) ≡ (if test o then Some (length orders) else newest_place test orders)
newest_pushed test [] o = refl
newest_pushed test (x ∷ xs) o =
    ap (λ later. newest_of later (test x)) (newest_pushed test xs o)
    ∙ behind_one (test o) (test x) (length xs) (newest_place test xs)
