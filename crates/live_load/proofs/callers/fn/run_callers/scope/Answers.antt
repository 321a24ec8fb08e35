use Rattle.std.proofs.Common.{rules, ◌≡◌, List, map, ap, subst}
use Rattle.std.specs.Prelude.{IfOk}
use Rattle.exec_collector.specs.Seats.{Seat}
use Rattle.session_worker.proofs.Ran.{all_started, nothing_left}
use Rattle.live_load.specs.Day.{Caller, caller_of, left_of, AllCalled}
use Rattle.live_load.proofs.callers.fn.run_callers.scope.Goals as goal

pub returns : goal.returns
returns g c =
    let of_seats : List Seat → List Caller = λ seats. map (λ (s : Seat). caller_of c.captures.plan s) seats in
    let none = nothing_left c.pop_front.result c.loop-seat.seats.items c.pop_front.new.self.items c.in_default.not-Some c.pop_front.ensures.items c.pop_front.ensures.rest in
    let from : c.from-seats.result.items ≡ c.captures.seats.items = search rules in
    let started = all_started (λ h. caller_of h.promise.1 h.promise.0.value) c.loop-seat.handles.items
    (of_seats c.loop-seat.seats.items) (of_seats c.from-seats.result.items) (of_seats c.captures.seats.items)
    c.loop-seat.invariant (ap of_seats none) (ap of_seats from) in (
      subst (λ (callers : List Caller). IfOk c.join_callers.result (λ ends. AllCalled callers (map (λ e. left_of e.seat e.unplaced) ends.items)))
          started c.join_callers.ensures.called,
      c.join_callers.ensures.only,
    )
