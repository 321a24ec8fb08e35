use Rattle.std.proofs.Common.{◌≡◌, ◌≤◌, length}
use Rattle.fix_text.specs.Reading.{length_at}
use Rattle.fix_text.proofs.parse.length_by_digits.Given as goal

abbrev pub invariant-loop-rest : goal.invariant-loop-rest
invariant-loop-rest l = record {
  read : length_at l.left l.number l.rest ≡ length_at 6 0 l.bytes;
  fits : l.number ≤ 40969;
  within : length l.rest ≤ length l.bytes;
}

abbrev pub decreases-loop-rest : goal.decreases-loop-rest
decreases-loop-rest l = length l.rest
