use Rattle.replay_command.proofs.InputBegins.{LeftToBegin}
use Rattle.replay_command.proofs.begun.begin.Given as goal

abbrev pub invariant-loop-number : goal.invariant-loop-number
invariant-loop-number g l = LeftToBegin (g.R.Read.remaining l.input) l.number (g.R.Read.remaining l.initial.input)
