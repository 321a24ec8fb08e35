use Rattle.std.proofs.Common.{◌≡◌, ◌++◌, drop, length, map}
use Rattle.desk_day.specs.Doubts.{doubts_in, venue_legs}
use Rattle.desk_day.proofs.doubts.doubts_of.Given as goal

abbrev pub invariant-loop-name : goal.invariant-loop-name
invariant-loop-name g l =
    map venue_legs l.doubts.items ++ doubts_in (drop (length l.yielded) l.names) (drop (length l.yielded) l.ends)
    ≡ doubts_in l.names l.ends
