-- A price that is read is below ten thousand million units.
use Rattle.std.proofs.Common.{◌≡◌, ℕ, ◌+◌, ◌*◌, ◌≤◌, inl, inr, Bool, true, false, List, Some, None, arith, if◌then◌else◌}
use Rattle.std.specs.Prelude.{unwrap_or, nat_le, ◌&&◌, Option}
use Rattle.std.proofs.lemmas.Bool.{and_parts, cases_Bool, leb-true}
use Rattle.fix_tags.specs.Digits.{within, leading_digits, digits_number}
use Rattle.fix_tags.specs.Price.{decimals_of}
use Rattle.exact_price.specs.Exact.{is_exact_text, fraction, exact_of}

within_most : (greatest n : ℕ) → unwrap_or (within 0 greatest n) 0 ≤ greatest
within_most greatest n = elim (cases_Bool (nat_le 0 n && nat_le n greatest)) [
  | inl low ↦ rw low (leb-true n greatest (and_parts (nat_le 0 n) (nat_le n greatest) low).1)
  | inr high ↦ rw high (omega arith)
]

if_within : (b : Bool) (greatest n : ℕ)
    → (let o : Option ℕ = if b then within 0 greatest n else None in unwrap_or o 0 ≤ greatest)
if_within true greatest n = within_most greatest n
if_within false greatest n = omega arith

pub exact_within : (text : List ℕ) → unwrap_or (exact_of text) 0 ≤ 1_000_000_000_000_000_000
unfolding exact_of
exact_within text =
    let most = if_within (is_exact_text text) 999_999_999_999_999_999
    (digits_number (leading_digits text) * 100_000_000 + fraction 10_000_000 (decimals_of text)) in
    omega (arith, most)
