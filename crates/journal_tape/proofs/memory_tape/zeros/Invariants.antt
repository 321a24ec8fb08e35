use Rattle.std.proofs.Common.{◌≡◌}
use Rattle.journal_tape.specs.Tape.{zeros}
use Rattle.journal_tape.proofs.memory_tape.zeros.Given as goal

abbrev pub invariant-loop-i : goal.invariant-loop-i
invariant-loop-i l = l.bytes.items ≡ zeros l.i
