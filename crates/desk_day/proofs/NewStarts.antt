-- What new workers begin with, one venue more; and the drains of a day, each at its place.
use Rattle.std.proofs.Common.{◌≡◌, ◌+◌, ℕ, zero, suc, List, [], ◌∷◌, ◌++◌, length, map, None, refl, sym, ap, ◌∙◌, append_assoc, arith}
use Rattle.std.proofs.lemmas.List.{append-nil}
use Rattle.desk_config.specs.declared.venue.Venue.{Venue}
use Rattle.exec_collector.specs.Seats.{Seat, worker_seat}
use Rattle.release_lock.specs.Queues.{DrainParts, new_drains}
use Rattle.session_core.specs.Session.{new_session}
use Rattle.session_worker.specs.Restoring.{StartParts, new_start}
use Rattle.desk_venues.specs.Starts.{start_of, starts_on, starts_of, workers_from}
use Rattle.desk_venues.specs.Venues.{desk_end}
use Rattle.desk_day.specs.Opening.{new_starts_on, new_starts}

-- what the worker of a venue begins with, with the drain of its ring
abbrev pub new_start_of : Venue → DrainParts → StartParts
new_start_of venue drain = new_start (new_session (desk_end venue)) drain.venue (worker_seat drain.venue)

pub new_more : (all starts now : List StartParts) (start : StartParts) (left rest : List Venue) (venue : Venue)
    (drains more : List DrainParts) (drain : DrainParts) (seat : Seat) → now ≡ starts ++ start ∷ []
    → left ≡ venue ∷ rest → drains ≡ drain ∷ more
    → start ≡ new_start (new_session (desk_end venue)) drain.venue seat → seat ≡ worker_seat drain.venue
    → starts ++ new_starts_on left drains ≡ all → now ++ new_starts_on rest more ≡ all
new_more all starts now start left rest venue drains more drain seat pushed first next is seated so_far =
    let made : start ≡ new_start_of venue drain =
    is ∙ ap (new_start (new_session (desk_end venue)) drain.venue) seated in
    ap (λ l. l ++ new_starts_on rest more) pushed
    ∙ (append_assoc starts (start ∷ []) (new_starts_on rest more)
    ∙ (ap (λ (s : StartParts). starts ++ s ∷ new_starts_on rest more) made
    ∙ (sym (ap (λ vs. starts ++ new_starts_on vs drains) first
    ∙ ap (λ ds. starts ++ new_starts_on (venue ∷ rest) ds) next)
    ∙ so_far)))

pub new_over : (all starts : List StartParts) (left : List Venue) (drains : List DrainParts) → left ≡ []
    → starts ++ new_starts_on left drains ≡ all → starts ≡ all
new_over all starts left drains none so_far =
    sym (append-nil starts) ∙ (sym (ap (λ vs. starts ++ new_starts_on vs drains) none) ∙ so_far)

-- workers that begin with what is new, and tell no journal, are new
new_workers_are : {A : Type 0} (venues : List Venue) (drains : List DrainParts) (journals : List A)
    → length journals ≡ length venues
    → workers_from venues (new_starts_on venues drains) (map (λ (j : A). None) journals) ≡ starts_on venues drains
new_workers_are [] drains [] same = refl
new_workers_are [] drains (journal ∷ journals) same = absurd (omega (arith, same))
new_workers_are (venue ∷ venues) drains [] same = absurd (omega (arith, same))
new_workers_are (venue ∷ venues) [] (journal ∷ journals) same = refl
new_workers_are (venue ∷ venues) (drain ∷ drains) (journal ∷ journals) same =
    ap (λ l. start_of venue drain ∷ l) (new_workers_are venues drains journals (omega (arith, same)))

pub new_day_workers : {A : Type 0} (venues : List Venue) (starts : List StartParts) (journals : List A)
    → starts ≡ new_starts venues → length journals ≡ length venues
    → workers_from venues starts (map (λ (j : A). None) journals) ≡ starts_of venues
new_day_workers {A} venues starts journals are same =
    ap (λ l. workers_from venues l (map (λ (j : A). None) journals)) are
    ∙ new_workers_are venues (new_drains (length venues)) journals same

-- so many drains, the first of them at this place
abbrev pub drains_from : ℕ → ℕ → List DrainParts
drains_from place zero = []
drains_from place (suc count) = record { venue = place; popped = [] } ∷ drains_from (suc place) count

one_behind : (place count : ℕ)
    → drains_from place (suc count) ≡ drains_from place count ++ record { venue = place + count; popped = [] } ∷ []
one_behind place zero =
    let same : place ≡ place + zero = omega arith in
    ap (λ (n : ℕ). record { venue = n; popped = [] } ∷ []) same
one_behind place (suc count) =
    let same : suc place + count ≡ place + suc count = omega arith in
    let first : DrainParts = record { venue = place; popped = [] } in
    ap (λ l. first ∷ l) (one_behind (suc place) count
    ∙ ap (λ (n : ℕ). drains_from (suc place) count ++ record { venue = n; popped = [] } ∷ []) same)

pub drains_are : (count : ℕ) → new_drains count ≡ drains_from 0 count
drains_are zero = refl
drains_are (suc count) =
    let same : 0 + count ≡ count = omega arith in
    ap (λ l. l ++ record { venue = count; popped = [] } ∷ []) (drains_are count)
    ∙ (ap (λ (n : ℕ). drains_from 0 count ++ record { venue = n; popped = [] } ∷ []) (sym same)
    ∙ sym (one_behind 0 count))
