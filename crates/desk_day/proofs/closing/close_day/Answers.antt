use Rattle.std.proofs.Common.{◌≡◌, ℕ, List, Vec, map, ◌∙◌, ap, sym}
use Rattle.std.specs.List.{list_any}
use Rattle.day_sweeps.specs.Paid.{paid_in}
use Rattle.day_sweeps.specs.Sweeps.{sweeps_in}
use Rattle.exec_collector.specs.Day.{note_count}
use Rattle.exec_collector.specs.Unbooked.{CountedParts, without_room}
use Rattle.session_worker.specs.Audit.{counted_of}
use Rattle.session_worker.specs.Ends.{WorkerLeft}
use Rattle.session_worker.proofs.Places.{in_order, all_parts}
use Rattle.desk_day.specs.Doubts.{doubts_in, was_given_up}
use Rattle.desk_day.specs.Unbooked.{unbooked_in}
use Rattle.desk_day.proofs.AllSeats.{whole_parts, callers_shares}
use Rattle.desk_day.proofs.closing.close_day.Goals as goal

pub audited-report-requires-clause-order : goal.audited-report-requires-clause-order
audited-report-requires-clause-order g c = in_order g.M.Ledger.parts c.args.ended.workers.items c.requires.workers

pub audited-report-requires-clause-shared : goal.audited-report-requires-clause-shared
audited-report-requires-clause-shared g c = all_parts g.M.Ledger.parts c.args.ended.workers.items c.requires.workers

pub audited-report-requires-clause-seats : goal.audited-report-requires-clause-seats
audited-report-requires-clause-seats g c =
    whole_parts c.args.seats.items _ c.args.floor.shared c.into_left-names.result.shared c.in_ok-seats.ensures
    c.into_left-names.ensures.shared c.requires.seats

pub returns-clause-placed : goal.returns-clause-placed
returns-clause-placed g c =
    let placed = rw c.in_ok-report.was at c.audited-report.ensures.placed in
    λ none. placed
    ∙ callers_shares c.args.seats.items _ c.args.floor.shared c.into_left-names.result.shared c.in_ok-seats.ensures
    c.into_left-names.ensures.shared none

pub returns-clause-told : goal.returns-clause-told
returns-clause-told g c =
    let audited = rw c.in_ok-report.was at c.audited-report.ensures.audited in
    let day = audited.0 in
    let names = c.args.floor.names.items in
    let named : c.into_left-names.result.names.items ≡ names = ap (λ (v : Vec (List ℕ) _). v.items) c.into_left-names.ensures.names in
    let listed = c.as_slice.ensures.value ∙ named in
    let told = c.as_slice-2.ensures.value ∙ named in
    let booked = c.into_day-booked.result in
    let counted : without_room booked.counted ≡ counted_of day = ap without_room (sym c.into_counted-counted.ensures) ∙ sym audited.1 in
    record {
      audited = record {
        callers = c.in_ok-seats.seats.items;
        day = day;
        told = c.in_ok-sweeps.ensures.parts ∙ ap (λ (parts : CountedParts). sweeps_in parts.book) counted;
        all_placed = day.all_placed
            (whole_parts c.args.seats.items _ c.args.floor.shared c.into_left-names.result.shared c.in_ok-seats.ensures
            c.into_left-names.ensures.shared c.requires.seats);
      };
      rest = record {
        paid = c.in_ok-sweeps.ensures.paid
            ∙ ap (λ (parts : CountedParts). map (paid_in parts.book parts.unbooked) (sweeps_in parts.book)) counted;
        words = booked.words;
        one_each = c.unbooked_executions.ensures.one_each ∙ ap note_count counted;
        unbooked = c.in_ok-unbooked.ensures.told
            ∙ (ap (λ (n : List (List ℕ)). unbooked_in n (without_room booked.counted) booked.words) listed
            ∙ ap (λ (parts : CountedParts). unbooked_in names parts booked.words) counted);
        doubts = c.in_ok-doubts.ensures
            ∙ (ap (λ (n : List (List ℕ)). doubts_in n c.as_slice-3.result.now) told
            ∙ ap (doubts_in names) c.as_slice-3.ensures.value);
        given_up = c.is_given_up-is_given_up.ensures
            ∙ ap (list_any (λ (left : WorkerLeft). was_given_up left.reason)) c.as_slice-4.ensures.value;
      };
    }
