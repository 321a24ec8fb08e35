-- A price that is read is one that an order may have.
use Rattle.std.proofs.Common.{◌≡◌, ℕ, ◌+◌, ◌*◌, Bool, true, false, cond, List, Option, Some, None, IfSome, sym, subst, arith}
use Rattle.std.proofs.lemmas.Bool.Decides.{nat_tests}
use Rattle.std.proofs.lemmas.Option.{cond_some}
use Rattle.fix_tags.specs.Digits.{within, digits_number, leading_digits}
use Rattle.fix_tags.specs.Price.{price_of, is_price_text, decimals_of, ten_thousandths}
use Rattle.leg.specs.Terms.{IsPrice}

within-range : (b : Bool) (n p : ℕ) → cond b (within 1 9_999_999_999 n) None ≡ Some p → IsPrice p
within-range true n p e =
    let parts = cond_some _ n p e in
    subst IsPrice parts.1 (record { low = grind (arith, nat_tests); high = grind (arith, nat_tests) })
within-range false n p e = cc

pub price_of-in_range : (text : List ℕ) (o : Option ℕ) → o ≡ price_of text → IfSome o IsPrice
unfolding price_of
price_of-in_range text None e = tt
price_of-in_range text (Some p) e =
    within-range (is_price_text text) (digits_number (leading_digits text) * 10_000 + ten_thousandths (decimals_of text)) p (sym e)
