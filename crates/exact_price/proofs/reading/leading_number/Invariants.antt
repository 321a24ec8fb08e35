use Rattle.std.proofs.Common.{◌≡◌, ◌≤◌, min, drop}
use Rattle.fix_text.specs.Grammar.{number_after}
use Rattle.fix_tags.specs.Digits.{leading_digits, after_digits, digits_number}
use Rattle.exact_price.proofs.reading.leading_number.Given as goal

-- the digits that are left, after those of the value, write the whole number, up to the limit
abbrev pub invariant-loop-count : goal.invariant-loop-count
invariant-loop-count l =
    (l.value ≤ 10_000_000_000) × (min 10_000_000_000 (number_after l.value (leading_digits (drop l.count l.bytes))) ≡ min 10_000_000_000 (digits_number (leading_digits l.bytes))) × (after_digits (drop l.count l.bytes) ≡ after_digits l.bytes)
