use Rattle.std.proofs.Common.{◌≡◌, ◌++◌, List, length, map}
use Rattle.exec_collector.specs.Seats.{Seat}
use Rattle.live_load.specs.Day.{Caller, caller_of}
use Rattle.live_load.proofs.callers.fn.run_callers.scope.Given as goal

abbrev pub invariant-loop-seat : goal.invariant-loop-seat
invariant-loop-seat g l =
    let started : List Caller = map (λ h. caller_of h.promise.1 h.promise.0.value) l.handles.items in
    let left : List Caller = map (λ (s : Seat). caller_of l.plan s) l.seats.items in
    let all : List Caller = map (λ (s : Seat). caller_of l.plan s) l.initial.seats.items in
    started ++ left ≡ all

abbrev pub decreases-loop-seat : goal.decreases-loop-seat
decreases-loop-seat g l = length l.seats.items
