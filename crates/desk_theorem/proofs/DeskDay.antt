-- Each venue of a desk's day: its worker ran from its start, and what is proved of an audited day holds of it.
use Rattle.std.proofs.Common.{◌≡◌, ◌⊎◌, inl, inr, ℕ, zero, suc, ◌<◌, List, [], ◌∷◌, ◌++◌, length, map, Some, refl, sym, ap, subst, ◌∙◌, arith}
use Rattle.std.specs.Prelude.{slice_get}
use Rattle.std.proofs.lemmas.Option.{slice_get_within}
use Rattle.venue_words.specs.declared.venue_dialect.VenueDialect.{VenueDialect}
use Rattle.venue_words.specs.Dialect.{dialect_of, venue_spelling}
use Rattle.venue_words.specs.Lemmas.VenueLaws.{venue_is_spelling}
use Rattle.dialect.specs.Lemmas.SpelledLaws.{is_spelled}
use Rattle.dialect.specs.Wording.{Wording, IsWording}
use Rattle.desk_config.specs.declared.venue.Venue.{Venue}
use Rattle.release_lock.specs.Queues.{DrainParts, new_drains}
use Rattle.session_worker.specs.Ends.{WorkerStart, WorkerLeft, AllRan, Runs, queues_of, seats_of}
use Rattle.session_worker.proofs.Places.{drains_length}
use Rattle.worker_line.proofs.DayByBytes.{the_day_by_bytes}
use Rattle.desk_venues.specs.Starts.{any_wording, start_of, starts_on, starts_of}
use Rattle.desk_venues.specs.Venues.{desk_end}
use Rattle.desk_theorem.specs.DeskTheorem.{start_at, TheDeskTheorem}

below_or_last : (at count : ℕ) → at < suc count → (at < count) ⊎ (at ≡ count)
below_or_last zero zero below = inr refl
below_or_last zero (suc count) below = inl (omega arith)
below_or_last (suc at) zero below = absurd (omega (arith, below))
below_or_last (suc at) (suc count) below =
    elim (below_or_last at count (omega (arith, below))) [
      | inl more ↦ inl (omega (arith, more))
      | inr last ↦ inr (ap suc last)
    ]

get_before : {A : Type 0} (xs : List A) (y : A) (at : ℕ) → at < length xs
    → slice_get (xs ++ y ∷ []) at ≡ slice_get xs at
get_before [] y at below = absurd (omega (arith, below))
get_before (x ∷ xs) y zero below = refl
get_before (x ∷ xs) y (suc at) below = get_before xs y at (omega (arith, below))

get_last : {A : Type 0} (xs : List A) (y : A) → slice_get (xs ++ y ∷ []) (length xs) ≡ Some y
get_last [] y = refl
get_last (x ∷ xs) y = get_last xs y

abbrev drain_of : ℕ → DrainParts
drain_of venue = record { venue = venue; popped = [] }

drain_at : (count at : ℕ) → at < count → slice_get (new_drains count) at ≡ Some (drain_of at)
drain_at zero at below = absurd (omega (arith, below))
drain_at (suc count) at below =
    elim (below_or_last at count below) [
      | inl more ↦ (let many = drains_length count in
          get_before (new_drains count) (drain_of count) at (omega (arith, more, many)) ∙ drain_at count at more)
      | inr last ↦
          ap (slice_get (new_drains count ++ drain_of count ∷ [])) (last ∙ sym (drains_length count))
          ∙ (get_last (new_drains count) (drain_of count) ∙ ap (λ n. Some (drain_of n)) (sym last))
    ]

start_there : (venues : List Venue) (drains : List DrainParts) (at : ℕ) (venue : Venue) (drain : DrainParts)
    → slice_get venues at ≡ Some venue → slice_get drains at ≡ Some drain
    → slice_get (starts_on venues drains) at ≡ Some (start_of venue drain)
start_there [] drains at venue drain here its = absurd cc
start_there (first ∷ venues) [] at venue drain here its = absurd cc
start_there (first ∷ venues) (next ∷ drains) zero venue drain here its =
    let same : first ≡ venue = cc here in
    let own : next ≡ drain = cc its in
    ap (λ v. Some (start_of v next)) same ∙ ap (λ d. Some (start_of venue d)) own
start_there (first ∷ venues) (next ∷ drains) (suc at) venue drain here its =
    start_there venues drains at venue drain here its

pub ran_there : {D : Type 0} (wording : D → Wording) (workers : List (WorkerStart D)) (ends : List WorkerLeft) (at : ℕ)
    (worker : WorkerStart D) → slice_get workers at ≡ Some worker → AllRan wording workers ends
    → (left : WorkerLeft) × (slice_get ends at ≡ Some left) × Runs (wording worker.dialect) worker.parts left
ran_there wording [] ends at worker here ran = absurd cc
ran_there wording (first ∷ workers) [] at worker here ran = absurd ran
ran_there {D} wording (first ∷ workers) (left ∷ ends) zero worker here ran =
    let same : first ≡ worker = cc here in
    (left, refl, subst (λ (w : WorkerStart D). Runs (wording w.dialect) w.parts left) same ran.0)
ran_there wording (first ∷ workers) (left ∷ ends) (suc at) worker here ran =
    ran_there wording workers ends at worker here ran.1

pub at_map : {A B : Type 0} (f : A → B) (xs : List A) (at : ℕ) (x : A) → slice_get xs at ≡ Some x
    → slice_get (map f xs) at ≡ Some (f x)
at_map f [] at x here = absurd cc
at_map f (first ∷ xs) zero x here = (let same : first ≡ x = cc in ap (λ y. Some (f y)) same)
at_map f (first ∷ xs) (suc at) x here = at_map f xs at x here

pub words : (dialect : VenueDialect) → IsWording (any_wording dialect)
words dialect = is_spelled (venue_spelling dialect) (venue_is_spelling dialect)

pub the_desk_theorem : TheDeskTheorem
the_desk_theorem venues sweeps report day place venue here good =
    let drain = drain_at (length venues) place (slice_get_within venues place venue here) in
    let start = start_there venues (new_drains (length venues)) place venue (drain_of place) here drain in
    let ran = ran_there any_wording (starts_of venues) day.ends place (start_of venue (drain_of place)) start day.ran in
    record {
      left = ran.0;
      is = ran.1;
      runs = ran.2;
      safe = λ events works range. the_day_by_bytes (any_wording (dialect_of venue.words)) (words (dialect_of venue.words))
          day.audited.callers (queues_of day.ends) (seats_of day.ends) report day.audited.day place (desk_end venue)
          events ran.0.parts (at_map (λ (e : WorkerLeft). e.parts.took) day.ends place ran.0 ran.1)
          (at_map (λ (e : WorkerLeft). e.parts.seat) day.ends place ran.0 ran.1) good
          (record {
            before = start_at place venue;
            new = refl;
            empty = refl;
            why = ran.0.reason;
            runs = ran.2;
            works = works;
          }) refl range;
    }
