use Rattle.std.proofs.Common.{◌≡◌, take}
use Rattle.desk_doors.proofs.limiting.copied.Given as goal

abbrev pub invariant-loop-symbol : goal.invariant-loop-symbol
invariant-loop-symbol l = l.copy.items ≡ take l.symbol-index l.symbols
