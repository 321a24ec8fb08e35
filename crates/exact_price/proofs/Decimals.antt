-- Decimals one by one: each counts a tenth of the one before.
use Rattle.std.proofs.Common.{◌≡◌, ℕ, ◌+◌, ◌/◌, ◌<◌, true, false, ◌&&◌, ◌||◌, nat_lt, ◌==◌, List, length, drop, get_or, refl, ap, ◌∙◌, Some, None, cond}
use Rattle.std.specs.Char.{is_ascii_digit}
use Rattle.std.proofs.lemmas.List.{at_drop_more}
use Rattle.exact_price.specs.Exact.{fraction, are_decimals}

-- what is read where each is a decimal, and that else nothing is
pub fraction_read : (unit v : ℕ) (ds : List ℕ) → are_decimals unit ds ≡ true → v ≡ fraction unit ds → Some v ≡ cond (are_decimals unit ds) (Some (fraction unit ds)) None
fraction_read unit v ds passes is = rw (passes, is) refl

pub fraction_refused : (unit : ℕ) (ds : List ℕ) → are_decimals unit ds ≡ false → None ≡ cond (are_decimals unit ds) (Some (fraction unit ds)) None
fraction_refused unit ds fails = rw fails refl

-- a byte that is no digit, or counts nothing and isn't '0', stands at this place
pub are_decimals-fails : (unit : ℕ) (ds : List ℕ) (i : ℕ) → i < length ds → (is_ascii_digit (get_or ds i 0) && (nat_lt 0 unit || (get_or ds i 0 == 48))) ≡ false → are_decimals unit (drop i ds) ≡ false
are_decimals-fails unit ds i h fails =
    at_drop_more (are_decimals unit) ds i 0 h ∙ ap (λ b. b && are_decimals (unit / 10) (drop (i + 1) ds)) fails
