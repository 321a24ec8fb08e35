use Rattle.std.proofs.Common.{◌≡◌, length}
use Rattle.std.specs.List.{All}
use Rattle.sweep_release.proofs.Fresh.{IsFresh}
use Rattle.sweep_release.proofs.desk.Desk.new.Given as goal

abbrev pub invariant-loop : goal.invariant-loop
invariant-loop l = record { fresh : All IsFresh l.list.items; count : length l.list.items ≡ l.counter }
