-- Each venue of a desk's day that may have had lives before: its worker began with what its journal's lines say and
-- ran, and what is proved of a day of several lives holds of it.
use Rattle.std.proofs.Common.{◌≡◌, ◌+◌, ℕ, zero, suc, List, [], ◌∷◌, ◌++◌, Some, refl, sym, subst, arith}
use Rattle.std.specs.Prelude.{slice_get}
use Rattle.desk_config.specs.declared.venue.Venue.{Venue}
use Rattle.venue_words.specs.declared.venue_dialect.VenueDialect.{VenueDialect}
use Rattle.venue_words.specs.Dialect.{dialect_of}
use Rattle.session_worker.specs.Ends.{WorkerStart, WorkerLeft, Runs, queues_of, seats_of}
use Rattle.session_worker.specs.Events.{AreAllowed, Goes}
use Rattle.session_worker.specs.Events.WorkerEvent.{Calls}
use Rattle.session_core.specs.declared.session_call.SessionCall.TheVariants as call
use Rattle.session_core.specs.Session.{new_session}
use Rattle.sweep_release.specs.Released.{released}
use Rattle.day_restart.specs.Restored.{past_events}
use Rattle.worker_line.specs.WorkerTheorem.{released_line}
use Rattle.worker_restart.specs.LivesByBytes.{IsMadeAgain}
use Rattle.worker_restart.proofs.ByBytes.{found_allowed, the_day_by_bytes_over_lives}
use Rattle.desk_venues.specs.Starts.{any_wording}
use Rattle.desk_venues.specs.Venues.{desk_end}
use Rattle.desk_day.specs.Audited.{new_at, IsBegun, AreBegun}
use Rattle.desk_theorem.specs.DeskOverLives.{TheDeskTheoremOverLives}
use Rattle.desk_theorem.proofs.DeskDay.{ran_there, at_map, words}

begun_there : (from : ℕ) (venues : List Venue) (starts : List (WorkerStart VenueDialect)) (at : ℕ) (venue : Venue)
    → slice_get venues at ≡ Some venue → AreBegun from venues starts
    → (start : WorkerStart VenueDialect) × (slice_get starts at ≡ Some start) × IsBegun (at + from) venue start
begun_there from [] starts at venue here begun = absurd cc
begun_there from (first ∷ venues) [] at venue here begun = absurd begun
begun_there from (first ∷ venues) (start ∷ starts) zero venue here begun =
    let same : first ≡ venue = cc here in
    let place : from ≡ zero + from = omega arith in
    (start, refl, subst (λ n. IsBegun n venue start) place (subst (λ v. IsBegun from v start) same begun.0))
begun_there from (first ∷ venues) (start ∷ starts) (suc at) venue here begun =
    let rest = begun_there (suc from) venues starts at venue here begun.1 in
    let place : at + suc from ≡ suc at + from = omega arith in
    (rest.0, rest.1, subst (λ n. IsBegun n venue rest.0) place rest.2)

pub the_desk_theorem_over_lives : TheDeskTheoremOverLives
the_desk_theorem_over_lives venues sweeps report day place venue here good =
    let found = begun_there 0 venues day.starts place venue here day.begun in
    let start = found.0 in
    let same : place + 0 ≡ place = omega arith in
    let begun = subst (λ n. IsBegun n venue start) same found.2 in
    let w = any_wording (dialect_of venue.words) in
    let ran = ran_there any_wording day.starts day.ends place start found.1 day.ran in
    let runs = subst (λ d. Runs (any_wording d) start.parts ran.0) begun.dialect ran.2 in
    let legs = released place day.audited.day.desk.desk.sweeps in
    let goes = subst (λ d. AreAllowed (any_wording d).decoding (new_session (desk_end venue)) (past_events begun.deeds)
    → Goes (any_wording d).decoding (new_at place venue) (past_events begun.deeds) start.parts) begun.dialect begun.goes in
    record {
      start = start;
      begun = begun;
      left = ran.0;
      is = ran.1;
      runs = runs;
      safe = λ lives events past lived works range.
          the_day_by_bytes_over_lives w (words (dialect_of venue.words)) day.audited.callers (queues_of day.ends)
          (seats_of day.ends) report day.audited.day place (desk_end venue) lives start.parts ran.0 runs events
          (at_map (λ (e : WorkerLeft). e.parts.took) day.ends place ran.0 ran.1)
          (at_map (λ (e : WorkerLeft). e.parts.seat) day.ends place ran.0 ran.1) good past
          (subst (λ l. IsMadeAgain w.decoding (desk_end venue) place l start.parts) lived
          (goes (subst (λ l. AreAllowed w.decoding (new_session (desk_end venue)) (l ++ Calls call.Broken ∷ []))
          (sym lived) (found_allowed w.decoding (desk_end venue) place legs (released_line (desk_end venue) legs) lives past))))
          works range;
    }
