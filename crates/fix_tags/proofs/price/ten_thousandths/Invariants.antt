use Rattle.std.proofs.Common.{◌≡◌, ◌+◌, ◌*◌, ◌≤◌, drop}
use Rattle.fix_tags.proofs.Decimals.{weight, are_decimals}
use Rattle.fix_tags.proofs.price.ten_thousandths.Given as goal

-- what the decimals so far count and what the others count is the whole, and it stays below a dollar
abbrev pub invariant-loop-byte : goal.invariant-loop-byte
invariant-loop-byte l =
    (l.value + 10 * l.unit ≤ 10_000) × (l.value + weight l.unit (drop l.byte-index l.decimals) ≡ weight 1000 l.decimals) × (are_decimals l.unit (drop l.byte-index l.decimals) ≡ are_decimals 1000 l.decimals)
