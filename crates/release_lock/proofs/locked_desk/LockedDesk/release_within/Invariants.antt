use Rattle.release_lock.proofs.locked_desk.LockedDesk.release_within.Given as goal

abbrev pub ghost-place_sweep : goal.ghost-place_sweep
ghost-place_sweep g a = a.sweep.legs
