-- How the workers of a day begin: new, or with what the lines of their journals say.
use Rattle.std.proofs.Common.{◌≡◌, ℕ, suc, List, [], ◌∷◌, length, map, Some, None, refl, sym, ap, subst, ◌∙◌, arith}
use Rattle.std.specs.List.{All, AllZip}
use Rattle.std.proofs.lemmas.List.Elements.{All-nil, All-cons}
use Rattle.dialect.specs.Wording.{Decoding}
use Rattle.desk_config.specs.declared.venue.Venue.{Venue}
use Rattle.venue_words.specs.declared.venue_dialect.VenueDialect.{VenueDialect}
use Rattle.venue_words.specs.Dialect.{dialect_of}
use Rattle.exec_collector.specs.Seats.{worker_seat}
use Rattle.release_lock.specs.Queues.{DrainParts}
use Rattle.session_worker.specs.Ends.{WorkerStart}
use Rattle.session_worker.specs.Events.{Lasting}
use Rattle.session_worker.specs.Keeping.{Told}
use Rattle.session_worker.specs.Restoring.{StartParts}
use Rattle.session_worker.specs.Places.{place, new_place, new_places}
use Rattle.journal_tape.specs.Told.{LinesTold}
use Rattle.day_restart.specs.DayJournal.{GoesBehind}
use Rattle.day_restart.specs.Restored.{GoesOn, IsNew, AllGoOn}
use Rattle.desk_venues.specs.Starts.{any_wording, worker_at, workers_from}
use Rattle.desk_venues.specs.Venues.{desk_end}
use Rattle.desk_day.specs.Audited.{HasKept, IsBegun, AreBegun}
use Rattle.desk_day.specs.Opening.{new_starts_on, new_starts}
use Rattle.desk_day.specs.Told.{AllSay, AllTell}
use Rattle.desk_day.proofs.NewStarts.{new_start_of, drains_from, drains_are}

-- ---- one worker

module _ (venue : Venue) where
  begun_new : (drain : DrainParts) → IsBegun drain.venue venue (worker_at venue (new_start_of venue drain) None)
  begun_new drain = record {
    dialect = refl;
    lines = [];
    kept = refl;
    deeds = [];
    said = refl;
    goes = λ allowed. record {
      session = refl;
      taken = refl;
      allowed = allowed;
      venue = refl;
      seat = refl;
      booked = λ waiting. refl;
      asked = refl;
    };
    place_is = refl;
    seat = refl;
    wire = refl;
  }

  begun_again : (drain : DrainParts) (lines : List (List ℕ)) (after : StartParts) (told : Told) → HasKept lines told
      → GoesOn (any_wording (dialect_of venue.words)).decoding lines (new_start_of venue drain) after
      → IsBegun drain.venue venue (worker_at venue after told)
  begun_again drain lines after told kept again = record {
    dialect = refl;
    lines = lines;
    kept = kept;
    deeds = again.deeds;
    said = again.said;
    goes = λ allowed. again.goes allowed (Some []) None told;
    place_is = again.place;
    seat = again.seat;
    wire = refl;
  }

-- each start that is new has done nothing
pub all_are_new : (venues : List Venue) (drains : List DrainParts) → All IsNew (new_starts_on venues drains)
all_are_new [] drains = All-nil IsNew
all_are_new (venue ∷ venues) [] = All-nil IsNew
all_are_new (venue ∷ venues) (drain ∷ drains) =
    All-cons IsNew (new_start_of venue drain) (new_starts_on venues drains)
    (desk_end venue, drain.venue, worker_seat drain.venue, refl) (all_are_new venues drains)

-- ---- all of a day

all_new : {A : Type 0} (place : ℕ) (venues : List Venue) (journals : List A) → length journals ≡ length venues
    → AreBegun place venues
    (workers_from venues (new_starts_on venues (drains_from place (length venues))) (map (λ (j : A). None) journals))
all_new place [] [] same = tt
all_new place [] (journal ∷ journals) same = absurd (omega (arith, same))
all_new place (venue ∷ venues) [] same = absurd (omega (arith, same))
all_new place (venue ∷ venues) (journal ∷ journals) same = (
  begun_new venue (record { venue = place; popped = [] }),
  all_new (suc place) venues journals (omega (arith, same)),
)

pub begun_new_day : {A : Type 0} (venues : List Venue) (starts : List StartParts) (journals : List A)
    → starts ≡ new_starts venues → length journals ≡ length venues
    → AreBegun 0 venues (workers_from venues starts (map (λ (j : A). None) journals))
begun_new_day {A} venues starts journals are same =
    subst (λ l. AreBegun 0 venues (workers_from venues l (map (λ (j : A). None) journals)))
    (sym (are ∙ ap (new_starts_on venues) (drains_are (length venues)))) (all_new 0 venues journals same)

-- each of these is read as its venue's dialect says
abbrev pub AreReadAs : List Venue → List (Decoding × List (List ℕ)) → Type 0
AreReadAs [] [] = Unit {0}
AreReadAs (venue ∷ venues) (past ∷ pasts) =
    (past.0 ≡ (any_wording (dialect_of venue.words)).decoding) × AreReadAs venues pasts
AreReadAs venues pasts = ⊥

pub read_as : {P : Type 0} (dialect : P → VenueDialect) (lines : P → List (List ℕ)) (venues : List Venue)
    (pasts : List P) → map dialect pasts ≡ map (λ v. dialect_of v.words) venues
    → AreReadAs venues (map (λ p. ((any_wording (dialect p)).decoding, lines p)) pasts)
read_as dialect lines [] [] same = tt
read_as dialect lines [] (past ∷ pasts) same = absurd cc
read_as dialect lines (venue ∷ venues) [] same = absurd cc
read_as dialect lines (venue ∷ venues) (past ∷ pasts) same =
    let first : dialect past ≡ dialect_of venue.words = cc in
    let rest : map dialect pasts ≡ map (λ v. dialect_of v.words) venues = cc in
    (ap (λ d. (any_wording d).decoding) first, read_as dialect lines venues pasts rest)

all_again : (place : ℕ) (venues : List Venue) (pasts : List (Decoding × List (List ℕ))) (ends : List StartParts)
    (told : List Told) → AreReadAs venues pasts
    → AllGoOn pasts (new_starts_on venues (drains_from place (length venues))) ends
    → AllZip HasKept (map (λ p. p.1) pasts) told → AreBegun place venues (workers_from venues ends told)
all_again place [] [] [] [] read goes kept = tt
all_again place [] [] [] (one ∷ told) read goes kept = absurd kept
all_again place [] [] (after ∷ ends) told read goes kept = absurd goes
all_again place [] (past ∷ pasts) ends told read goes kept = absurd read
all_again place (venue ∷ venues) [] ends told read goes kept = absurd read
all_again place (venue ∷ venues) (past ∷ pasts) [] told read goes kept = absurd goes
all_again place (venue ∷ venues) (past ∷ pasts) (after ∷ ends) [] read goes kept = absurd kept
all_again place (venue ∷ venues) (past ∷ pasts) (after ∷ ends) (one ∷ told) read goes kept =
    let drain : DrainParts = record { venue = place; popped = [] } in (
      begun_again venue drain past.1 after one kept.0
          (subst (λ d. GoesOn d past.1 (new_start_of venue drain) after) read.0 goes.0),
      all_again (suc place) venues pasts ends told read.1 goes.1 kept.1,
    )

pub begun_day : (venues : List Venue) (pasts : List (Decoding × List (List ℕ))) (starts ends : List StartParts)
    → AreReadAs venues pasts → starts ≡ new_starts venues → AllGoOn pasts starts ends → (told : List Told)
    → AllZip HasKept (map (λ p. p.1) pasts) told → AreBegun 0 venues (workers_from venues ends told)
begun_day venues pasts starts ends read are goes told kept =
    all_again 0 venues pasts ends told read
    (subst (λ l. AllGoOn pasts l ends) (are ∙ ap (new_starts_on venues) (drains_are (length venues))) goes) kept

-- journals that go on behind lines have kept them
behind_kept : (lines : List (List ℕ)) (told : LinesTold) → GoesBehind lines told → HasKept lines (Some told)
behind_kept [] told behind = ap (λ (t : LinesTold). t.kept) behind
behind_kept (line ∷ lines) told behind = ap (λ (t : LinesTold). t.kept) behind.1

pub all_kept : (found : List (List (List ℕ))) (journals : List LinesTold) → AllZip GoesBehind found journals
    → AllZip HasKept found (map (λ j. Some j) journals)
all_kept [] [] behind = tt
all_kept [] (journal ∷ journals) behind = absurd behind
all_kept (lines ∷ found) [] behind = absurd behind
all_kept (lines ∷ found) (journal ∷ journals) behind =
    (behind_kept lines journal behind.0, all_kept found journals behind.1)

pub as_many_behind : (found : List (List (List ℕ))) (journals : List LinesTold) → AllZip GoesBehind found journals
    → length journals ≡ length found
as_many_behind [] [] behind = refl
as_many_behind [] (journal ∷ journals) behind = absurd behind
as_many_behind (lines ∷ found) [] behind = absurd behind
as_many_behind (lines ∷ found) (journal ∷ journals) behind = ap suc (as_many_behind found journals behind.1)

-- as many go on as began
pub as_many_go_on : (pasts : List (Decoding × List (List ℕ))) (starts ends : List StartParts)
    → AllGoOn pasts starts ends → length ends ≡ length starts
as_many_go_on [] [] [] goes = refl
as_many_go_on [] [] (after ∷ ends) goes = absurd goes
as_many_go_on [] (before ∷ starts) ends goes = absurd goes
as_many_go_on (past ∷ pasts) [] ends goes = absurd goes
as_many_go_on (past ∷ pasts) (before ∷ starts) [] goes = absurd goes
as_many_go_on (past ∷ pasts) (before ∷ starts) (after ∷ ends) goes = ap suc (as_many_go_on pasts starts ends goes.1)

pub new_length : (place : ℕ) (venues : List Venue)
    → length (new_starts_on venues (drains_from place (length venues))) ≡ length venues
new_length place [] = refl
new_length place (venue ∷ venues) = ap suc (new_length (suc place) venues)

pub as_many_new : (venues : List Venue) (starts : List StartParts) → starts ≡ new_starts venues
    → length starts ≡ length venues
as_many_new venues starts are =
    ap length (are ∙ ap (new_starts_on venues) (drains_are (length venues))) ∙ new_length 0 venues

-- each has its place
places_from : (at : ℕ) (venues : List Venue) (workers : List (WorkerStart VenueDialect)) → AreBegun at venues workers
    → map (λ w. place w.parts) workers ≡ map new_place (drains_from at (length venues))
places_from at [] [] begun = refl
places_from at [] (worker ∷ workers) begun = absurd begun
places_from at (venue ∷ venues) [] begun = absurd begun
places_from at (venue ∷ venues) (worker ∷ workers) begun =
    let venue_is = begun.0.place_is in
    let parts_is = ap (λ (l : Lasting). l.parts) begun.0.seat in
    let first : place worker.parts ≡ new_place (record { venue = at; popped = [] }) =
    (λ k. record { venue = venue_is k; parts = parts_is k }) in
    let rest = places_from (suc at) venues workers begun.1 in
    (λ k. first k ∷ rest k)

pub begun_places : (venues : List Venue) (workers : List (WorkerStart VenueDialect)) → AreBegun 0 venues workers
    → map (λ w. place w.parts) workers ≡ new_places (length venues)
begun_places venues workers begun =
    places_from 0 venues workers begun ∙ ap (map new_place) (sym (drains_are (length venues)))

-- the lines of what is found, which is read as each dialect says
lines_found : {P : Type 0} (reads : P → Decoding) (lines : P → List (List ℕ)) (pasts : List P)
    → map {A = Decoding × List (List ℕ)} (λ r. r.1) (map (λ p. (reads p, lines p)) pasts) ≡ map lines pasts
lines_found reads lines [] = refl
lines_found reads lines (past ∷ pasts) = ap (λ l. lines past ∷ l) (lines_found reads lines pasts)

-- starts that were new and that go on from what was found begin so, whatever their journals were told that keep it
pub begun_from : {P : Type 0} (dialect : P → VenueDialect) (lines : P → List (List ℕ)) (venues : List Venue)
    (pasts : List P) (found : List (List (List ℕ))) (starts ends : List StartParts)
    → map dialect pasts ≡ map (λ v. dialect_of v.words) venues → map lines pasts ≡ found → starts ≡ new_starts venues
    → AllGoOn (map (λ p. ((any_wording (dialect p)).decoding, lines p)) pasts) starts ends → (told : List Told)
    → AllZip HasKept found told → AreBegun 0 venues (workers_from venues ends told)
begun_from {P} dialect lines venues pasts found starts ends read same are goes told kept =
    let reads : P → Decoding = λ p. (any_wording (dialect p)).decoding in
    begun_day venues (map (λ p. (reads p, lines p)) pasts) starts ends (read_as dialect lines venues pasts read) are goes told
    (subst (λ l. AllZip HasKept l told) (sym (lines_found reads lines pasts ∙ same)) kept)

-- workers tell the journals that they begin with
pub all_tell : (venues : List Venue) (starts : List StartParts) (told : List Told) → AllSay told
    → AllTell (workers_from venues starts told)
all_tell [] [] [] say = tt
all_tell [] [] (one ∷ told) say = tt
all_tell [] (start ∷ starts) [] say = tt
all_tell [] (start ∷ starts) (one ∷ told) say = tt
all_tell (venue ∷ venues) [] [] say = tt
all_tell (venue ∷ venues) [] (one ∷ told) say = tt
all_tell (venue ∷ venues) (start ∷ starts) [] say = tt
all_tell (venue ∷ venues) (start ∷ starts) (one ∷ told) say = (say.0, all_tell venues starts told say.1)

-- a journal in files says what it was told
pub all_say : (journals : List LinesTold) → AllSay (map (λ j. Some j) journals)
all_say [] = tt
all_say (journal ∷ journals) = (refl, all_say journals)
