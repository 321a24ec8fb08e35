use Rattle.std.proofs.Common.{rules, ◌≡◌, length, map, Ok, Err, ◌∙◌, sym, ap, subst}
use Rattle.std.specs.Prelude.{Result, IfErr, IsErrAnd}
use Rattle.desk_venues.specs.declared.day_fault.DayFault.{DayFault}
use Rattle.desk_venues.specs.Faults.{IsNoMismatch}
use Rattle.session_worker.specs.Places.{place, new_places}
use Rattle.desk_day.proofs.Begun.{as_many_new, begun_new_day, begun_places}
use Rattle.desk_day.proofs.NewStarts.{new_day_workers}
use Rattle.live_load.proofs.CallersLeft.{are_called}
use Rattle.live_load.proofs.LiveDays.{live_day}
use Rattle.live_load.proofs.running.named_day.Goals as goal

-- a refusal that is handed on
same_refusal : {A : Type 0} (result : Result A DayFault) (fault : DayFault) → IsErrAnd result (λ given. given ≡ fault)
    → IsNoMismatch fault → IfErr result IsNoMismatch
same_refusal (Ok day) fault e none = absurd e
same_refusal (Err given) fault e none = subst IsNoMismatch (sym e) none

pub returns-in_err-ended-clause-only : goal.returns-in_err-ended-clause-only
returns-in_err-ended-clause-only g c =
    same_refusal c.from_residual-in_err-ended.result _ c.from_residual-in_err-ended.ensures.1 c.in_err-ended.ensures.only

pub returns-in_err-seats-clause-only : goal.returns-in_err-seats-clause-only
returns-in_err-seats-clause-only g c =
    same_refusal c.from_residual-in_err-seats.result _ c.from_residual-in_err-seats.ensures.1 (search rules)

pub open_day-requires-clause-starts : goal.open_day-requires-clause-starts
open_day-requires-clause-starts g c =
    as_many_new c.args.venues.now c.in_ok-begun.begun.starts.items c.in_ok-begun.ensures.starts

pub told-requires-clause-workers : goal.told-requires-clause-workers
told-requires-clause-workers g c =
    let venues = c.args.venues.now in
    let journals = c.in_ok-past.past.venues.items in
    let as_many : length journals ≡ length venues = search rules in
    let begun = begun_new_day venues c.in_ok-begun.begun.starts.items journals c.in_ok-begun.ensures.starts as_many in
    c.in_ok-ended.ensures.workers
    ∙ (ap (λ ws. map (λ w. place w.parts) ws) c.in_ok-day.ensures.starts
    ∙ (begun_places venues _ begun ∙ ap new_places (c.requires.venues ∙ sym c.requires.workers.2)))

pub told-requires-clause-callers : goal.told-requires-clause-callers
told-requires-clause-callers g c =
    are_called c.args.plan c.in_ok-seats.seats.items _ c.in_ok-seats.ensures.0 c.in_ok-seats.ensures.1
    c.in_ok-seats.ensures.2 c.in_ok-ended.ensures.callers

pub returns-clause-day : goal.returns-clause-day
returns-clause-day g c =
    let venues = c.args.venues.now in
    let journals = c.in_ok-past.past.venues.items in
    let as_many : length journals ≡ length venues = search rules in
    let new = new_day_workers venues c.in_ok-begun.begun.starts.items journals c.in_ok-begun.ensures.starts as_many in
    live_day venues _ _ c.told.result (c.in_ok-day.ensures.starts ∙ new) c.in_ok-ended.ensures.ran
    c.told.ensures.audited c.told.ensures.ends

pub invariant_of-floor : goal.invariant_of-floor
invariant_of-floor g c = record { few = c.in_ok-day.day.floor.few; tied = c.in_ok-day.day.floor.tied }

pub invariant_of-floor-in_err-ended : goal.invariant_of-floor-in_err-ended
invariant_of-floor-in_err-ended g c =
    record { few = c.in_ok-day.day.floor.few; tied = c.in_ok-day.day.floor.tied }
