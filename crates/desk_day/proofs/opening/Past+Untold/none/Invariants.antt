use Rattle.std.proofs.Common.{◌≡◌, length}
use Rattle.desk_day.proofs.opening.Past+Untold.none.Given as goal

abbrev pub invariant-loop : goal.invariant-loop
invariant-loop l = length l.journals.items ≡ l.counter
