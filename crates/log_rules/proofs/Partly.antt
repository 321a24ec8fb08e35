-- Orders of which the first ones are changed already.
use Rattle.std.proofs.Common.{◌≡◌, ℕ, zero, suc, ◌+◌, ◌<◌, List, [], ◌∷◌, length, get_or, set, map, refl, sym, ap, ◌∙◌, add-one, arith}
use Rattle.log_rules.specs.Order.{OrderParts}

-- so many of them are changed
abbrev pub partly : (OrderParts → OrderParts) → ℕ → List OrderParts → List OrderParts
partly change zero orders = orders
partly change (suc i) [] = []
partly change (suc i) (o ∷ os) = change o ∷ partly change i os

-- the next one is changed
next_changed : (change : OrderParts → OrderParts) (i : ℕ) (orders : List OrderParts) (o : OrderParts) → i < length orders
    → o ≡ get_or (partly change i orders) i o
    → set (partly change i orders) i (change o) ≡ partly change (suc i) orders
next_changed change i [] o within at_place = absurd (omega arith)
next_changed change zero (x ∷ xs) o within at_place = ap (λ p. change p ∷ xs) at_place
next_changed change (suc i) (x ∷ xs) o within at_place =
    ap (λ rest. change x ∷ rest) (next_changed change i xs o (omega arith) at_place)

pub one_more_changed : (change : OrderParts → OrderParts) (i : ℕ) (orders now after : List OrderParts) (o : OrderParts)
    → i < length orders → now ≡ partly change i orders → o ≡ get_or now i o → after ≡ set now i (change o)
    → after ≡ partly change (i + 1) orders
one_more_changed change i orders now after o within so_far at_place changed =
    changed ∙ ap (λ l. set l i (change o)) so_far
    ∙ next_changed change i orders o within (at_place ∙ ap (λ l. get_or l i o) so_far)
    ∙ ap (λ n. partly change n orders) (sym (add-one i))

-- all of them are
pub all_changed : (change : OrderParts → OrderParts) (orders : List OrderParts)
    → partly change (length orders) orders ≡ map change orders
all_changed change [] = refl
all_changed change (o ∷ os) = ap (λ rest. change o ∷ rest) (all_changed change os)
