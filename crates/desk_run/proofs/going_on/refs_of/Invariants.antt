use Rattle.std.proofs.Common.{◌≡◌, []}
use Rattle.desk_run.specs.GoingOn.{all_noted}
use Rattle.desk_run.proofs.going_on.refs_of.Given as goal

abbrev pub invariant-loop-one : goal.invariant-loop-one
invariant-loop-one l = l.refs.book.placed ≡ all_noted [] l.yielded
