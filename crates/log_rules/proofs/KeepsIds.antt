-- Changes that keep the ids and the numbers of orders.
use Rattle.std.proofs.Common.{◌≡◌, ℕ, zero, suc, Bool, true, false, ◌&&◌, List, [], ◌∷◌, map, refl, ap, ◌∙◌}
use Rattle.std.specs.Prelude.{Option, Some, None, nat_le, nat_lt, ◌==◌, if◌then◌else◌}
use Rattle.std.specs.Str.{bytes_eq}
use Rattle.log_rules.specs.Ledger.{newest_of, newest_place, order_changed}
use Rattle.log_rules.specs.Order.{OrderParts, refused, summed_up, withdrawn_by}

-- a change keeps what a test says of each order
abbrev pub KeepsTest : (OrderParts → Bool) → (OrderParts → OrderParts) → Type 0
KeepsTest test change = (o : OrderParts) → test (change o) ≡ test o

-- changed all of them, or one, the newest order that passes the test has the place that it had
pub newest_mapped : (test : OrderParts → Bool) (change : OrderParts → OrderParts) (orders : List OrderParts)
    → KeepsTest test change → newest_place test (map change orders) ≡ newest_place test orders
newest_mapped test change [] keeps = refl
newest_mapped test change (o ∷ os) keeps =
    ap (λ later. newest_of later (test (change o))) (newest_mapped test change os keeps)
    ∙ ap (λ is_here. newest_of (newest_place test os) is_here) (keeps o)

pub newest_changed : (test : OrderParts → Bool) (change : OrderParts → OrderParts) (place : ℕ) (orders : List OrderParts)
    → KeepsTest test change → newest_place test (order_changed change place orders) ≡ newest_place test orders
newest_changed test change place [] keeps = refl
newest_changed test change zero (o ∷ os) keeps = ap (λ is_here. newest_of (newest_place test os) is_here) (keeps o)
newest_changed test change (suc place) (o ∷ os) keeps =
    ap (λ later. newest_of later (test o)) (newest_changed test change place os keeps)

-- a change keeps the ids, and the numbers
pub record KeepsNames (change : OrderParts → OrderParts) : Type 0 where
  pub id : (o : OrderParts) → (change o).id ≡ o.id
  pub number : (o : OrderParts) → (change o).number ≡ o.number

-- and so what is asked of either
pub keeps_id : (change : OrderParts → OrderParts) (id : List ℕ) → KeepsNames change
    → KeepsTest (λ o. bytes_eq o.id id) change
keeps_id change id keeps o = ap (λ text. bytes_eq text id) (keeps.id o)

pub keeps_number : (change : OrderParts → OrderParts) (number : ℕ) → KeepsNames change
    → KeepsTest (λ o. o.number == number) change
keeps_number change number keeps o = ap (λ n. n == number) (keeps.number o)

id_if : (is_withdrawn : Bool) (o : OrderParts)
    → (if is_withdrawn then record o { is_withdrawn = true } else o).id ≡ o.id
id_if true o = refl
id_if false o = refl

number_if : (is_withdrawn : Bool) (o : OrderParts)
    → (if is_withdrawn then record o { is_withdrawn = true } else o).number ≡ o.number
number_if true o = refl
number_if false o = refl

pub withdrawn_keeps : (settled expected : ℕ) → KeepsNames (withdrawn_by settled expected)
withdrawn_keeps settled expected = record {
  id = λ o. id_if (nat_lt settled expected && nat_le expected o.number) o;
  number = λ o. number_if (nat_lt settled expected && nat_le expected o.number) o;
}

summed_id : (cum leaves : Option ℕ) (o : OrderParts) → (summed_up cum leaves o).id ≡ o.id
summed_id (Some cum) (Some leaves) o = refl
summed_id (Some cum) None o = refl
summed_id None leaves o = refl

summed_number : (cum leaves : Option ℕ) (o : OrderParts) → (summed_up cum leaves o).number ≡ o.number
summed_number (Some cum) (Some leaves) o = refl
summed_number (Some cum) None o = refl
summed_number None leaves o = refl

pub summed_keeps : (cum leaves : Option ℕ) → KeepsNames (summed_up cum leaves)
summed_keeps cum leaves = record { id = summed_id cum leaves; number = summed_number cum leaves }

pub refused_keeps : KeepsNames refused
refused_keeps = record { id = λ o. refl; number = λ o. refl }
