use Rattle.std.proofs.Common.{◌∙◌, map, sym, ap, subst}
use Rattle.session_worker.specs.Places.{place, new_places}
use Rattle.desk_venues.specs.Starts.{workers_from}
use Rattle.desk_day.specs.Audited.{AreBegun}
use Rattle.desk_day.specs.Told.{AllTell}
use Rattle.desk_day.proofs.Auditing.{told_day, told_kept, told_over}
use Rattle.desk_day.proofs.Begun.{all_tell, begun_places}
use Rattle.desk_run.proofs.running.held_day.Goals as goal

pub run_open-requires-clause-workers : goal.run_open-requires-clause-workers
run_open-requires-clause-workers g c κs within =
    let told = map g.J.Telling.told c.args.past.venues.items in
    let starts = c.in_ok-day.ensures.starts
    ∙ ap (λ v. workers_from v c.args.begun.starts.items told) c.as_slice-venues.ensures.value in
    ap (λ ws. map (λ w. place w.parts) ws) starts
    ∙ (begun_places c.args.config.now.venues.items _ c.requires.begun ∙ ap new_places (sym c.requires.workers))

pub returns-clause-new : goal.returns-clause-new
returns-clause-new g c =
    let told = map g.J.Telling.told c.args.past.venues.items in
    let starts = c.in_ok-day.ensures.starts
    ∙ ap (λ v. workers_from v c.args.begun.starts.items told) c.as_slice-venues.ensures.value in
    let names = c.in_ok-day.ensures.names ∙ ap (map (λ v. v.name)) c.as_slice-venues.ensures.value in
    λ new. told_day c.args.config.now.venues.items _ _ c.run_open.result (starts ∙ new) names c.run_open.ensures.told

pub returns-clause-day : goal.returns-clause-day
returns-clause-day g c =
    let told = map g.J.Telling.told c.args.past.venues.items in
    let starts = c.in_ok-day.ensures.starts
    ∙ ap (λ v. workers_from v c.args.begun.starts.items told) c.as_slice-venues.ensures.value in
    let names = c.in_ok-day.ensures.names ∙ ap (map (λ v. v.name)) c.as_slice-venues.ensures.value in
    let begun = subst (AreBegun 0 c.args.config.now.venues.items) (sym starts) c.requires.begun in
    told_over c.args.config.now.venues.items _ _ c.run_open.result begun names c.run_open.ensures.told

pub returns-clause-kept : goal.returns-clause-kept
returns-clause-kept g c =
    let told = map g.J.Telling.told c.args.past.venues.items in
    let starts = c.in_ok-day.ensures.starts
    ∙ ap (λ v. workers_from v c.args.begun.starts.items told) c.as_slice-venues.ensures.value in
    let names = c.in_ok-day.ensures.names ∙ ap (map (λ v. v.name)) c.as_slice-venues.ensures.value in
    let begun = subst (AreBegun 0 c.args.config.now.venues.items) (sym starts) c.requires.begun in
    λ say. told_kept c.args.config.now.venues.items _ _ c.run_open.result begun
    (subst AllTell (sym starts) (all_tell c.args.config.now.venues.items c.args.begun.starts.items told say)) names
    c.run_open.ensures.told
