use Rattle.std.proofs.Common.{vec_len}
use Rattle.release_lock.proofs.Shares.{Taken}
use Rattle.release_lock.proofs.counting.check_placed.Given as goal

abbrev pub invariant-loop-seat : goal.invariant-loop-seat
invariant-loop-seat g l = Taken l.seats.items l.all l.fn.seats.items

abbrev pub decreases-loop-seat : goal.decreases-loop-seat
decreases-loop-seat g l = vec_len l.seats
