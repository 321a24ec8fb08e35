use Rattle.std.proofs.Common.{◌≡◌, ◌+◌, ◌*◌, ◌≤◌, drop}
use Rattle.exact_price.specs.Exact.{fraction, are_decimals}
use Rattle.exact_price.proofs.reading.fraction_in.Given as goal

-- what the decimals so far count and what the others count is the whole, and it stays below a unit
abbrev pub invariant-loop-byte : goal.invariant-loop-byte
invariant-loop-byte l =
    (l.value + 10 * l.unit ≤ 100_000_000) × (l.value + fraction l.unit (drop l.byte-index l.decimals) ≡ fraction 10_000_000 l.decimals) × (are_decimals l.unit (drop l.byte-index l.decimals) ≡ are_decimals 10_000_000 l.decimals)
