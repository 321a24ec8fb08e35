use Rattle.std.proofs.Common.{◌≡◌, take}
use Rattle.release_lock.specs.Queues.{placed_from}
use Rattle.release_lock.proofs.checking.begins.Given as goal

abbrev pub invariant-loop-place : goal.invariant-loop-place
invariant-loop-place l = take l.place l.taken ≡ take l.place (placed_from 1 l.released)
