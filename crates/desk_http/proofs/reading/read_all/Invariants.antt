use Rattle.std.proofs.Common.{length}
use Rattle.desk_http.specs.Reading.{IsReading, IsSame, asked_of, unread_of}
use Rattle.desk_http.proofs.reading.read_all.Given as goal

abbrev pub invariant-loop-consumed : goal.invariant-loop-consumed
invariant-loop-consumed l =
    IsSame (unread_of l.fn.server (asked_of l.fn.draft.request) l.fn.draft.stays l.fn.input.items)
    (unread_of l.server (asked_of l.draft.request) l.draft.stays l.input.items)
    × IsReading l.server (asked_of l.draft.request)

abbrev pub decreases-loop-consumed : goal.decreases-loop-consumed
decreases-loop-consumed l = length l.input.items
