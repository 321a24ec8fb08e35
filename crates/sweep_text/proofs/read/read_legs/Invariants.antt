use Rattle.std.proofs.Common.{◌≡◌, ◌∷◌, length}
use Rattle.sweep_text.specs.Legs.{legs_of}
use Rattle.sweep_text.proofs.LegsRead.{onto}
use Rattle.sweep_text.proofs.read.read_legs.Given as goal

abbrev pub invariant-loop-legs : goal.invariant-loop-legs
invariant-loop-legs l =
    onto l.legs.items (legs_of l.names (l.venue ∷ l.words)) ≡ legs_of l.names (l.initial.venue ∷ l.fn.words)

abbrev pub decreases-loop-legs : goal.decreases-loop-legs
decreases-loop-legs l = length l.words
