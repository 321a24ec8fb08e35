use Rattle.std.proofs.Common.{length}
use Rattle.script.proofs.Lost.{LostSoFar}
use Rattle.script.proofs.crash.few_lost.Given as goal

abbrev pub invariant-loop-word : goal.invariant-loop-word
invariant-loop-word l = LostSoFar l.venues l.lines.items l.words l.fn.words

abbrev pub decreases-loop-word : goal.decreases-loop-word
decreases-loop-word l = length l.words
