use Rattle.std.proofs.Common.{◌≡◌, length}
use Rattle.log_text.specs.Quickfix.{past_digits}
use Rattle.log_text.proofs.quickfix.past_digits.Given as goal

abbrev pub invariant-loop-rest : goal.invariant-loop-rest
invariant-loop-rest l = past_digits l.rest ≡ past_digits l.text

abbrev pub decreases-loop-rest : goal.decreases-loop-rest
decreases-loop-rest l = length l.rest
