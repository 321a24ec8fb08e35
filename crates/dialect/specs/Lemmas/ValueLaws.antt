-- Lemmas: the values of an order can be written, in at most 32 bytes each.
use Rattle.std.proofs.Common.{◌≡◌, ◌≢◌, ◌==◌, ◌⊎◌, inl, inr, ℕ, ◌<◌, ◌≤◌, List, [], ◌∷◌, length, decimal, refl, arith, length-append}
use Rattle.std.specs.List.{All}
use Rattle.std.proofs.lemmas.Bool.{and_from, ne_eqb, not_from_false}
use Rattle.std.proofs.lemmas.List.Elements.{All-nil, All-cons, All-from_recursion}
use Rattle.std.proofs.lemmas.List.Folds.{list_any_none}
use Rattle.fix_tags.specs.Price.{price_short, price_four}
use Rattle.fix_tags.specs.Stamp.{StampParts, stamp_text}
use Rattle.leg.specs.declared.side.Side.{Side}
use Rattle.leg.specs.declared.side.Side.TheVariants.{Buy, Sell}
use Rattle.leg.specs.LegId.{LegIdParts, IsLegId, leg_id_text}
use Rattle.leg.specs.Symbol.{SymbolParts, IsLetter, IsSymbol, joined_text}
use Rattle.leg.specs.Terms.{IsShares, IsPrice}
use Rattle.leg.proofs.Digits.{IsDigit}
use Rattle.leg.proofs.LegIdText.{leg_id_bytes, length-leg_id_text}
use Rattle.leg.proofs.SymbolText.{IsSymbolByte, symbol_bytes, length-joined_text}
use Rattle.dialect.specs.ShortFields.{IsShortValue}
use Rattle.dialect.specs.Limit.{side_text}
use Rattle.fix_tags.proofs.Written.{HasNoDelimiter-decimal, HasNoDelimiter-price_short, HasNoDelimiter-price_four, HasNoDelimiter-stamp_text, nonempty-decimal, nonempty-price_short, nonempty-price_four, length-decimal, length-price_short, length-price_four, length-stamp_text}

abbrev pub IsNotSoh : ℕ → Type 0
IsNotSoh c = c ≢ 1

-- no byte is SOH
abbrev pub NoSoh : List ℕ → Type 0
NoSoh value = All IsNotSoh value

-- a value that isn't empty
pub short_value : (value : List ℕ) → 0 < length value → length value ≤ 32 → NoSoh value → IsShortValue value
short_value value some short none =
    let full = ne_eqb (length value) 0 (λ e. omega arith) in
    let free = list_any_none (λ byte. byte == 1) value (λ k d within. ne_eqb _ _ (none k d within)) in
    record {
      writable = and_from _ _ (not_from_false _ full) (not_from_false _ free);
      short = short;
    }

id_free : (c : ℕ) → (c ≡ 83) ⊎ ((c ≡ 76) ⊎ IsDigit c) → c ≢ 1
id_free c (inl is) = λ e. omega arith
id_free c (inr (inl is)) = λ e. omega arith
id_free c (inr (inr digit)) = λ e. omega arith

-- a leg's number in Plain
pub short_id : (id : LegIdParts) → IsLegId id → IsShortValue (leg_id_text id)
short_id id range =
    let bytes = leg_id_bytes id range in
    short_value (leg_id_text id) (simp length-append (omega arith)) (omega (arith, length-leg_id_text id range))
    (λ k d within. id_free _ (bytes k d within))

-- a count of shares, which may be none
pub short_count : (count : ℕ) → count ≤ 1_000_000 → IsShortValue (decimal count)
short_count count high =
    short_value (decimal count) (nonempty-decimal count (omega arith))
    (omega (arith, length-decimal 7 count (omega arith) (omega arith) (omega arith)))
    (All-from_recursion IsNotSoh _ (HasNoDelimiter-decimal count (omega arith)))

-- the number of shares
pub short_shares : (shares : ℕ) → IsShares shares → IsShortValue (decimal shares)
short_shares shares range = short_count shares range.high

-- a price in the short form
pub short_price : (price : ℕ) → IsPrice price → IsShortValue (price_short price)
short_price price range =
    short_value (price_short price) (nonempty-price_short price (omega arith))
    (omega (arith, length-price_short price range.high))
    (All-from_recursion IsNotSoh _ (HasNoDelimiter-price_short price (omega arith)))

-- a price with four decimals
pub short_price_four : (price : ℕ) → IsPrice price → IsShortValue (price_four price)
short_price_four price range =
    short_value (price_four price) (nonempty-price_four price (omega arith))
    (omega (arith, length-price_four price range.high))
    (All-from_recursion IsNotSoh _ (HasNoDelimiter-price_four price (omega arith)))

pub short_side : (side : Side) → IsShortValue (side_text side)
short_side Buy = record { writable = refl; short = omega arith }
short_side Sell = record { writable = refl; short = omega arith }

-- one byte that is not SOH
pub short_byte : (c : ℕ) → c ≢ 1 → IsShortValue (c ∷ [])
short_byte c free = short_value (c ∷ []) (omega arith) (omega arith) (All-cons IsNotSoh c [] free (All-nil IsNotSoh))

letter_free : (separator c : ℕ) → separator ≢ 1 → IsSymbolByte separator c → c ≢ 1
letter_free separator c free (inl is) = λ e. free (omega arith)
letter_free separator c free (inr letter) = λ e. omega arith

-- a symbol in one text
pub short_symbol : (separator : ℕ) (symbol : SymbolParts) → separator ≢ 1 → IsSymbol symbol
    → IsShortValue (joined_text separator symbol)
short_symbol separator symbol free range =
    let long = length-joined_text separator symbol range in
    let bytes = symbol_bytes separator symbol range in
    short_value (joined_text separator symbol) (omega (arith, long.some)) (omega (arith, long.short))
    (λ k d within. letter_free separator _ free (bytes k d within))

-- letters A to Z, up to 6 of them
pub short_letters : (text : List ℕ) → All IsLetter text → 1 ≤ length text → length text ≤ 6 → IsShortValue text
short_letters text letters some few =
    short_value text (omega arith) (omega arith) (λ k d within. let letter = letters k d within in λ e. omega arith)

pub short_stamp : (stamp : StampParts) → IsShortValue (stamp_text stamp)
short_stamp stamp =
    short_value (stamp_text stamp) (omega (arith, length-stamp_text stamp)) (omega (arith, length-stamp_text stamp))
    (All-from_recursion IsNotSoh _ (HasNoDelimiter-stamp_text stamp))
