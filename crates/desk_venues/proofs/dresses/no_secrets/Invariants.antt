use Rattle.std.proofs.Common.{◌≡◌, length}
use Rattle.desk_venues.proofs.dresses.no_secrets.Given as goal

abbrev pub invariant-loop : goal.invariant-loop
invariant-loop l = length l.secrets.items ≡ l.counter
