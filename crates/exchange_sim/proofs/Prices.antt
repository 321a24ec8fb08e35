-- The price of a trade can be written.
use Rattle.std.proofs.Common.{◌≡◌, ℕ, true, nat_le, length, arith}
use Rattle.std.proofs.lemmas.Bool.{and_from}
use Rattle.std.proofs.lemmas.Bool.Decides.{nat_tests}
use Rattle.fix_tags.specs.Price.{price_short}
use Rattle.fix_tags.proofs.Written.{length-price_short, nonempty-price_short, HasNoDelimiter-price_short}
use Rattle.fix_tags.proofs.WritableFields.{is_writable_value-from}
use Rattle.leg.specs.Terms.{IsPrice}
use Rattle.dialect.specs.FreeText.{IsFreeText}

-- a limit price in its short form is the text of a LastPx
pub price_is_text : (price : ℕ) → IsPrice price → IsFreeText 20 (price_short price)
price_is_text price range =
    let short = length-price_short price range.high in
    let within : nat_le (length (price_short price)) 20 ≡ true = grind (arith, nat_tests) in
    and_from _ _ within
    (is_writable_value-from (price_short price) (nonempty-price_short price (omega arith))
    (HasNoDelimiter-price_short price (omega arith)))
