use Rattle.std.proofs.Common.{◌≡◌, ◌∙◌, List, length, map, sym, ap}
use Rattle.std.proofs.lemmas.List.{length-map}
use Rattle.std.proofs.lemmas.List.Elements.{All-same}
use Rattle.release_lock.specs.Queues.{new_drains}
use Rattle.desk_config.specs.declared.venue.Venue.{Venue}
use Rattle.venue_words.specs.declared.venue_dialect.VenueDialect.{VenueDialect}
use Rattle.venue_words.specs.Dialect.{dialect_of}
use Rattle.day_restart.specs.Restored.{IsNew}
use Rattle.desk_day.specs.Opening.{new_starts}
use Rattle.desk_day.proofs.Begun.{all_are_new, as_many_go_on, as_many_new, begun_from}
use Rattle.desk_run.proofs.going_on.restored.Goals as goal

pub restore_day-done-requires-clause-starts : goal.restore_day-done-requires-clause-starts
restore_day-done-requires-clause-starts g c =
    All-same IsNew c.args.begun.starts.items (new_starts c.args.venues.now) c.requires.starts
    (all_are_new c.args.venues.now (new_drains (length c.args.venues.now)))

-- as many are found as there are venues
as_many_found : {P : Type 0} (dialect : P → VenueDialect) (venues : List Venue) (pasts : List P)
    → map dialect pasts ≡ map (λ v. dialect_of v.words) venues → length pasts ≡ length venues
as_many_found dialect venues pasts same =
    sym (length-map pasts dialect) ∙ (ap length same ∙ length-map venues (λ v. dialect_of v.words))

pub restore_day-done-requires-clause-each : goal.restore_day-done-requires-clause-each
restore_day-done-requires-clause-each g c =
    as_many_new c.args.venues.now c.args.begun.starts.items c.requires.starts
    ∙ sym (ap length c.as_slice-2.ensures.value
    ∙ as_many_found (λ p. p.dialect) c.args.venues.now c.in_ok-pasts.pasts.items c.in_ok-pasts.ensures.dialects)

pub returns-clause-begun : goal.returns-clause-begun
returns-clause-begun g c =
    let pasts = c.as_slice-2.result.now in
    let same = c.as_slice-2.ensures.value in
    begun_from (λ p. p.dialect) (λ p. map (λ l. l.items) p.lines.now) c.args.venues.now pasts _
    c.args.begun.starts.items c.in-Ok.done.starts.items
    (ap (map (λ p. p.dialect)) same ∙ c.in_ok-pasts.ensures.dialects)
    (ap (map (λ p. map (λ l. l.items) p.lines.now)) same ∙ c.in_ok-pasts.ensures.lines)
    c.requires.starts c.in-Ok.ensures.starts

pub returns-clause-many : goal.returns-clause-many
returns-clause-many g c =
    as_many_go_on _ c.args.begun.starts.items c.in-Ok.done.starts.items c.in-Ok.ensures.starts
    ∙ as_many_new c.args.venues.now c.args.begun.starts.items c.requires.starts
