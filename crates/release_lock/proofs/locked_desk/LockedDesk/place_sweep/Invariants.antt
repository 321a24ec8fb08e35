use Rattle.release_lock.specs.Seats.{placing}
use Rattle.release_lock.proofs.locked_desk.LockedDesk.place_sweep.Given as goal

abbrev pub ghost-count : goal.ghost-count
ghost-count g a = placing a.receipt.number g.legs
