-- Lemmas: the parts of an order that are spelled alike in several dialects are read back.
use Rattle.std.proofs.Common.{◌≡◌, ℕ, List, codes, decimal, Some, Ok, refl, arith}
use Rattle.std.proofs.lemmas.Bool.{le-leb}
use Rattle.fix_text.specs.Tagged.{Tagged, value_of}
use Rattle.fix_tags.specs.Price.{price_of}
use Rattle.leg.specs.declared.side.Side.{Side}
use Rattle.leg.specs.declared.side.Side.TheVariants.{Buy, Sell}
use Rattle.leg.specs.Terms.{IsShares}
use Rattle.dialect.specs.declared.limit.Limit.{Limit}
use Rattle.dialect.specs.Limit.{order_shares_of, side_of, side_text, limit_in}
use Rattle.dialect.specs.Time.{immediate_in}
use Rattle.fix_tags.proofs.ReadBack.{shares_of-decimal}

-- shares that a leg may be for
pub order_shares_of-decimal : (shares : ℕ) → IsShares shares → order_shares_of (decimal shares) ≡ Some shares
order_shares_of-decimal shares range =
    rw (shares_of-decimal shares (omega arith), le-leb 1 shares range.low, le-leb shares 1000000 range.high) refl

side_of-text : (side : Side) → side_of (side_text side) ≡ Some side
side_of-text Buy = refl
side_of-text Sell = refl

-- 38 to 54, where the text of the price reads as it
pub limit_in-written : (fields : List Tagged) (limit : Limit) (text : List ℕ) → IsShares limit.shares
    → price_of text ≡ Some limit.price → value_of fields 38 ≡ Some (decimal limit.shares)
    → value_of fields 40 ≡ Some (codes "2") → value_of fields 44 ≡ Some text
    → value_of fields 54 ≡ Some (side_text limit.side) → limit_in fields ≡ Ok limit
unfolding limit_in
limit_in-written fields limit text range says shares kind price side =
    rw (shares, order_shares_of-decimal limit.shares range, kind, price, says, side, side_of-text limit.side) refl

-- 59 and 60
pub immediate_in-written : (fields : List Tagged) (time : List ℕ) → value_of fields 59 ≡ Some (codes "3")
    → value_of fields 60 ≡ Some time → immediate_in fields ≡ Ok tt
unfolding immediate_in
immediate_in-written fields time immediate there = rw (immediate, there) refl
