-- Where nothing is told as unbooked, in doubt or given up, nothing is left of the day.
use Rattle.std.proofs.Common.{◌≡◌, ℕ, suc, ◌≤◌, Bool, true, false, List, [], ◌∷◌, length, map, refl, sym, ap, ◌∙◌, arith}
use Rattle.std.specs.Prelude.{option_to_list, ◌||◌}
use Rattle.std.specs.List.{All, list_any}
use Rattle.std.proofs.lemmas.List.{length-map}
use Rattle.std.proofs.lemmas.List.Elements.{All-nil, All-cons}
use Rattle.leg.specs.LegId.{LegIdParts}
use Rattle.dialect.specs.Wording.{Wording}
use Rattle.desk_config.specs.declared.venue.Venue.{Venue}
use Rattle.release_lock.specs.Queues.{DrainParts, new_drains}
use Rattle.session_worker.specs.Audit.{counted_of}
use Rattle.session_worker.specs.Ends.{WorkerStart, WorkerLeft, AllRan}
use Rattle.day_sweeps.specs.Paid.{parts_of}
use Rattle.venue_words.specs.declared.venue_dialect.VenueDialect.{VenueDialect}
use Rattle.day_executions.proofs.NothingListed.{none_before, none_behind, nothing_listed}
use Rattle.desk_venues.specs.Starts.{any_wording, starts_on, starts_of}
use Rattle.desk_day.specs.declared.day.DeskDay.{DeskDay}
use Rattle.desk_day.specs.Audited.{AreBegun, IsAudited}
use Rattle.desk_day.specs.Told.{IsToldDay, IsToldOver, TellsRest}
use Rattle.desk_day.specs.Doubts.{doubts_in, if_any, left_in_doubt, venue_legs, was_given_up}
use Rattle.desk_day.specs.Whole.{IsWhole}

none_in_doubt : (name : List ℕ) (legs : List LegIdParts) → option_to_list (if_any name legs) ≡ [] → legs ≡ []
none_in_doubt name [] none = refl
none_in_doubt name (leg ∷ legs) none = absurd cc

-- where no venue is told with legs in doubt, no worker left any
all_settled : (names : List (List ℕ)) (ends : List WorkerLeft) → length ends ≤ length names
    → doubts_in names ends ≡ [] → All (λ (left : WorkerLeft). left_in_doubt left ≡ []) ends
all_settled names [] many none = All-nil (λ (left : WorkerLeft). left_in_doubt left ≡ [])
all_settled [] (left ∷ ends) many none = absurd (omega (arith, many))
all_settled (name ∷ names) (left ∷ ends) many none =
    let first = none_before (option_to_list (if_any name (left_in_doubt left))) (doubts_in names ends) none in
    let rest = none_behind (option_to_list (if_any name (left_in_doubt left))) (doubts_in names ends) none in
    All-cons (λ (left : WorkerLeft). left_in_doubt left ≡ []) left ends
    (none_in_doubt name (left_in_doubt left) first) (all_settled names ends (omega (arith, many)) rest)

neither : (one other : Bool) → (one || other) ≡ false → (one ≡ false) × (other ≡ false)
neither true other none = absurd cc
neither false other none = (refl, none)

all_closed : (ends : List WorkerLeft) → list_any (λ (left : WorkerLeft). was_given_up left.reason) ends ≡ false
    → All (λ (left : WorkerLeft). was_given_up left.reason ≡ false) ends
all_closed [] none = All-nil (λ (left : WorkerLeft). was_given_up left.reason ≡ false)
all_closed (left ∷ ends) none =
    let both = neither (was_given_up left.reason)
    (list_any (λ (left : WorkerLeft). was_given_up left.reason) ends) none in
    All-cons (λ (left : WorkerLeft). was_given_up left.reason ≡ false) left ends both.0 (all_closed ends both.1)

many_ran : {D : Type 0} (wording : D → Wording) (workers : List (WorkerStart D)) (ends : List WorkerLeft)
    → AllRan wording workers ends → length ends ≡ length workers
many_ran wording [] [] ran = refl
many_ran wording [] (left ∷ ends) ran = absurd ran
many_ran wording (worker ∷ workers) [] ran = absurd ran
many_ran wording (worker ∷ workers) (left ∷ ends) ran = ap suc (many_ran wording workers ends ran.1)

few_start : (venues : List Venue) (drains : List DrainParts) → length (starts_on venues drains) ≤ length venues
few_start [] drains = omega arith
few_start (venue ∷ venues) [] = omega arith
few_start (venue ∷ venues) (drain ∷ drains) =
    let rest = few_start venues drains in
    omega (arith, rest)

as_many_begun : (place : ℕ) (venues : List Venue) (workers : List (WorkerStart VenueDialect))
    → AreBegun place venues workers → length workers ≡ length venues
as_many_begun place [] [] begun = refl
as_many_begun place [] (worker ∷ workers) begun = absurd begun
as_many_begun place (venue ∷ venues) [] begun = absurd begun
as_many_begun place (venue ∷ venues) (worker ∷ workers) begun =
    ap suc (as_many_begun (suc place) venues workers begun.1)

-- of workers that are no more than the venues
whole_of : (venues : List Venue) (ends : List WorkerLeft) (day : DeskDay)
    (audited : IsAudited ends (parts_of day.sweeps.items) day.report)
    → TellsRest (map (λ v. v.name) venues) ends (counted_of audited.day) day → length ends ≤ length venues
    → day.is_given_up ≡ false → day.unbooked.items ≡ [] → day.doubts.items ≡ []
    → IsWhole (length venues) ends audited.day.unbooked
whole_of venues ends day audited rest few closed booked settled =
    let names : List (List ℕ) = map (λ v. v.name) venues in
    let audit = audited.day in
    let named : length names ≡ length venues = length-map venues (λ v. v.name) in
    let none : doubts_in names ends ≡ [] = sym rest.doubts ∙ ap (map venue_legs) settled in
    let nothing = sym rest.unbooked ∙ booked in
    record {
      closed = all_closed ends (sym rest.given_up ∙ closed);
      settled = all_settled names ends (omega (arith, named, few)) none;
      booked = λ venue within. nothing_listed names (counted_of audit) rest.words venue audit.list
          (omega (arith, named, within)) nothing;
    }

pub whole_day : (venues : List Venue) (day : DeskDay) (told : IsToldDay venues day) → day.is_given_up ≡ false
    → day.unbooked.items ≡ [] → day.doubts.items ≡ []
    → IsWhole (length venues) told.desk_day.ends told.desk_day.audited.day.unbooked
whole_day venues day told closed booked settled =
    let ends = told.desk_day.ends in
    let many = many_ran any_wording (starts_of venues) ends told.desk_day.ran in
    let few = few_start venues (new_drains (length venues)) in
    whole_of venues ends day told.desk_day.audited told.rest (omega (arith, many, few)) closed booked settled

-- so it is of a day that may have had lives before
pub whole_over : (venues : List Venue) (day : DeskDay) (told : IsToldOver venues day) → day.is_given_up ≡ false
    → day.unbooked.items ≡ [] → day.doubts.items ≡ []
    → IsWhole (length venues) told.desk_day.ends told.desk_day.audited.day.unbooked
whole_over venues day told closed booked settled =
    let ends = told.desk_day.ends in
    let many = many_ran any_wording told.desk_day.starts ends told.desk_day.ran in
    let begun = as_many_begun 0 venues told.desk_day.starts told.desk_day.begun in
    whole_of venues ends day told.desk_day.audited told.rest (omega (arith, many, begun)) closed booked settled
