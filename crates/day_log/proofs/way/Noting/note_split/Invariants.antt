use Rattle.std.proofs.Common.{◌≡◌, ◌++◌, map, length}
use Rattle.day_log.specs.Messages.{short, split}
use Rattle.day_log.proofs.way.Noting.note_split.Given as goal

abbrev pub invariant-loop-count : goal.invariant-loop-count
invariant-loop-count g l =
    (l.noted.texts ++ map short (split l.rest).messages ≡ l.initial.noted.texts ++ map short (split l.bytes).messages)
    × ((split l.rest).rest ≡ (split l.bytes).rest)

abbrev pub decreases-loop-count : goal.decreases-loop-count
decreases-loop-count g l = length l.rest
