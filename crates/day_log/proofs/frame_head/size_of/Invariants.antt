use Rattle.std.proofs.Common.{◌≡◌, ◌≤◌, length}
use Rattle.fix_text.specs.Reading.{length_at}
use Rattle.day_log.specs.Messages.{size_of}
use Rattle.day_log.proofs.frame_head.size_of.Given as goal

abbrev pub invariant-loop-rest : goal.invariant-loop-rest
invariant-loop-rest l = record {
  read : size_of (length_at l.left l.number l.rest) ≡ size_of (length_at 6 0 l.bytes);
  fits : l.number ≤ 40969;
  within : length l.rest ≤ length l.bytes;
}

abbrev pub decreases-loop-rest : goal.decreases-loop-rest
decreases-loop-rest l = length l.rest
