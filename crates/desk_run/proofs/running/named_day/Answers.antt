use Rattle.std.proofs.Common.{rules, ◌≡◌, ◌∙◌, List, length, map, Ok, Err, Some, sym, ap, subst}
use Rattle.std.specs.Prelude.{Result, IfErr, IsErrAnd}
use Rattle.std.proofs.lemmas.List.{length-map}
use Rattle.journal_tape.specs.Told.{LinesTold}
use Rattle.desk_config.specs.declared.venue.Venue.{Venue}
use Rattle.desk_venues.specs.declared.day_fault.DayFault.{DayFault}
use Rattle.desk_venues.specs.Faults.{IsNoMismatch}
use Rattle.desk_venues.specs.Starts.{workers_from}
use Rattle.desk_day.specs.Audited.{AreBegun}
use Rattle.desk_day.specs.Opening.{new_starts}
use Rattle.desk_day.proofs.Begun.{all_kept, all_say, as_many_behind, as_many_new, begun_new_day}
use Rattle.desk_day.proofs.NewStarts.{new_day_workers}
use Rattle.desk_run.proofs.running.named_day.Goals as goal

-- a day without journals

pub held_day-requires-clause-starts : goal.held_day-requires-clause-starts
held_day-requires-clause-starts g c κs within =
    let are : c.in_ok-begun.begun.starts.items ≡ new_starts c.args.config.now.venues.items =
    c.in_ok-begun.ensures.starts ∙ ap new_starts c.as_slice-venues.ensures.value in
    as_many_new c.args.config.now.venues.items c.in_ok-begun.begun.starts.items are

pub held_day-requires-clause-begun : goal.held_day-requires-clause-begun
held_day-requires-clause-begun g c κs within =
    let are : c.in_ok-begun.begun.starts.items ≡ new_starts c.args.config.now.venues.items =
    c.in_ok-begun.ensures.starts ∙ ap new_starts c.as_slice-venues.ensures.value in
    let as_many : length c.in_ok-past-in-None.past.venues.items ≡ length c.args.config.now.venues.items =
    search rules in
    begun_new_day c.args.config.now.venues.items c.in_ok-begun.begun.starts.items
    c.in_ok-past-in-None.past.venues.items are as_many

pub returns-in_ok-past-in-None-clause-new : goal.returns-in_ok-past-in-None-clause-new
returns-in_ok-past-in-None-clause-new g c =
    let are : c.in_ok-begun.begun.starts.items ≡ new_starts c.args.config.now.venues.items =
    c.in_ok-begun.ensures.starts ∙ ap new_starts c.as_slice-venues.ensures.value in
    let as_many : length c.in_ok-past-in-None.past.venues.items ≡ length c.args.config.now.venues.items =
    search rules in
    λ none. c.held_day.ensures.new (new_day_workers c.args.config.now.venues.items c.in_ok-begun.begun.starts.items
    c.in_ok-past-in-None.past.venues.items are as_many)

-- a day with journals

-- a refusal that is handed on
same_refusal : {A : Type 0} (result : Result A DayFault) (fault : DayFault) → IsErrAnd result (λ given. given ≡ fault)
    → IsNoMismatch fault → IfErr result IsNoMismatch
same_refusal (Ok day) fault e none = absurd e
same_refusal (Err given) fault e none = subst IsNoMismatch (sym e) none

pub returns-in_err-past-in-Some-clause-only : goal.returns-in_err-past-in-Some-clause-only
returns-in_err-past-in-Some-clause-only g c =
    same_refusal c.from_residual-in_err-past-in-Some.result _ c.from_residual-in_err-past-in-Some.ensures.1
    c.in_err-past-in-Some.ensures.only

pub held_day-requires-in-Some-clause-journals : goal.held_day-requires-in-Some-clause-journals
held_day-requires-in-Some-clause-journals g c κs within =
    as_many_behind _ c.in_ok-past-in-Some.past.venues.items c.in_ok-past-in-Some.ensures.venues
    ∙ (length-map c.in_ok-files-in-Some.files.venues.items (λ f. f.lines)
    ∙ (c.in_ok-files-in-Some.ensures.venues ∙ ap length c.as_slice-venues.ensures.value))

pub held_day-requires-in-Some-clause-begun : goal.held_day-requires-in-Some-clause-begun
held_day-requires-in-Some-clause-begun g c κs within =
    let journals = c.in_ok-past-in-Some.past.venues.items in
    subst (λ (v : List Venue). AreBegun 0 v (workers_from v c.in_ok-begun-in-Some.begun.starts.items
    (map (λ (j : LinesTold). Some j) journals))) c.as_slice-venues.ensures.value
    (c.in_ok-begun-in-Some.ensures.begun (map (λ (j : LinesTold). Some j) journals)
    (all_kept _ journals c.in_ok-past-in-Some.ensures.venues))

pub returns-after-is_new-clause-kept : goal.returns-after-is_new-clause-kept
returns-after-is_new-clause-kept g c =
    λ some. c.held_day-in-Some.ensures.kept (all_say c.in_ok-past-in-Some.past.venues.items)
