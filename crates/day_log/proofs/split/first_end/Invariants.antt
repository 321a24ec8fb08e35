use Rattle.std.proofs.Common.{◌≡◌, take, drop}
use Rattle.day_log.specs.Messages.{split, split_on}
use Rattle.day_log.proofs.split.first_end.Given as goal

abbrev pub invariant-loop-index : goal.invariant-loop-index
invariant-loop-index l = split l.bytes ≡ split_on l.field (take l.index l.bytes) (drop l.index l.bytes)
