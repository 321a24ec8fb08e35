use Rattle.std.proofs.Common.{◌≡◌, map}
use Rattle.day_sweeps.specs.Paid.{paid_in, parts_of}
use Rattle.day_sweeps.proofs.paid.paid_sweeps.Given as goal

abbrev pub invariant-loop-parts : goal.invariant-loop-parts
invariant-loop-parts g l =
    (parts_of l.paid.items ≡ l.yielded)
    × (l.paid.items ≡ map (paid_in l.day.counted.book l.day.counted.unbooked) l.yielded)
