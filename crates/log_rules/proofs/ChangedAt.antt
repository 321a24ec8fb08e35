-- An order at a place is changed.
use Rattle.std.proofs.Common.{◌≡◌, ℕ, zero, suc, ◌<◌, List, [], ◌∷◌, length, get_or, set, ap, arith}
use Rattle.log_rules.specs.Ledger.{order_changed}
use Rattle.log_rules.specs.Order.{OrderParts}

-- what is written at its place is what is made of it
pub set_is_changed : (change : OrderParts → OrderParts) (place : ℕ) (orders : List OrderParts) (o : OrderParts)
    → place < length orders → o ≡ get_or orders place o → set orders place (change o) ≡ order_changed change place orders
set_is_changed change place [] o within at_place = absurd (omega arith)
set_is_changed change zero (x ∷ xs) o within at_place = ap (λ p. change p ∷ xs) at_place
set_is_changed change (suc place) (x ∷ xs) o within at_place =
    ap (λ rest. x ∷ rest) (set_is_changed change place xs o (omega arith) at_place)
