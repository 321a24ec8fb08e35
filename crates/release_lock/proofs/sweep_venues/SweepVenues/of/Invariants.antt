use Rattle.std.proofs.Common.{◌≡◌, length, take}
use Rattle.release_lock.specs.Queues.{is_for, AreMarks}
use Rattle.release_lock.proofs.sweep_venues.SweepVenues.of.Given as goal

abbrev pub invariant-loop-routed : goal.invariant-loop-routed
invariant-loop-routed l =
    (length l.marks ≡ 16) × AreMarks l.marks (λ venue. is_for venue (take l.routed-index l.legs))
