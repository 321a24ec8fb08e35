use Rattle.std.proofs.Common.{◌≡◌, length}
use Rattle.run_file.proofs.tokens.read_tokens.Given as goal

abbrev pub invariant-loop-user : goal.invariant-loop-user
invariant-loop-user g l = length l.tokens.items ≡ l.user-index
