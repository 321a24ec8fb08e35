use Rattle.std.proofs.Common.{◌≡◌, ◌∷◌, length}
use Rattle.schedule.specs.Script.{legs_of_words}
use Rattle.script.proofs.LegsSoFar.{LegsSoFar}
use Rattle.script.proofs.release.read_legs.Given as goal

abbrev pub invariant-loop-legs : goal.invariant-loop-legs
invariant-loop-legs l = LegsSoFar l.legs.is_refused l.legs.items.items (legs_of_words (l.venue ∷ l.words)) (legs_of_words (l.initial.venue ∷ l.fn.words))

abbrev pub decreases-loop-legs : goal.decreases-loop-legs
decreases-loop-legs l = length l.words
