use Rattle.std.proofs.Common.{◌≡◌, length}
use Rattle.sweep_text.specs.Words.{non_empty}
use Rattle.sweep_text.proofs.words.Words.next.Given as goal

abbrev pub invariant-loop-piece : goal.invariant-loop-piece
invariant-loop-piece l = non_empty l.self-inside.pieces ≡ non_empty l.initial.self-inside.pieces

abbrev pub decreases-loop-piece : goal.decreases-loop-piece
decreases-loop-piece l = length l.self-inside.pieces
