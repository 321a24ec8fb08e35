-- A day whose workers ran from their venues' starts, or from what lives before left, and that was audited and told.
use Rattle.std.proofs.Common.{◌≡◌, ℕ, List, map, Ok, Err, subst}
use Rattle.std.specs.Prelude.{Result, IfOk}
use Rattle.venue_words.specs.declared.venue_dialect.VenueDialect.{VenueDialect}
use Rattle.desk_config.specs.declared.venue.Venue.{Venue}
use Rattle.session_worker.specs.Audit.{counted_of}
use Rattle.session_worker.specs.Ends.{WorkerStart, WorkerLeft, AllRan}
use Rattle.desk_venues.specs.Starts.{any_wording, starts_of}
use Rattle.desk_day.specs.declared.day.DeskDay.{DeskDay}
use Rattle.desk_day.specs.Audited.{AreBegun}
use Rattle.desk_day.specs.Told.{AllTell, IsTold, IsToldDay, IsToldFrom, IsToldKept, IsToldOver, TellsRest}

pub told_from : {E : Type 0} (starts : List (WorkerStart VenueDialect)) (ends : List WorkerLeft)
    (names : List (List ℕ)) (result : Result DeskDay E) → AllRan any_wording starts ends
    → IfOk result (IsTold names ends) → IfOk result (IsToldFrom names starts)
told_from starts ends names (Ok day) ran told = record { ends = ends; ran = ran; told = told }
told_from starts ends names (Err fault) ran told = tt

pub told_day : {E : Type 0} (venues : List Venue) (starts : List (WorkerStart VenueDialect)) (names : List (List ℕ))
    (result : Result DeskDay E) → starts ≡ starts_of venues → names ≡ map (λ v. v.name) venues
    → IfOk result (IsToldFrom names starts) → IfOk result (IsToldDay venues)
told_day venues starts names (Ok day) is same from =
    let told = from.told in
    record {
      desk_day = record {
        ends = from.ends;
        ran = subst (λ (s : List (WorkerStart VenueDialect)). AllRan any_wording s from.ends) is from.ran;
        audited = told.audited;
      };
      rest = subst (λ (n : List (List ℕ)). TellsRest n from.ends (counted_of told.audited.day) day) same told.rest;
    }
told_day venues starts names (Err fault) is same from = tt

-- so it is of a day that may have had lives before
pub told_over : {E : Type 0} (venues : List Venue) (starts : List (WorkerStart VenueDialect)) (names : List (List ℕ))
    (result : Result DeskDay E) → AreBegun 0 venues starts → names ≡ map (λ v. v.name) venues
    → IfOk result (IsToldFrom names starts) → IfOk result (IsToldOver venues)
told_over venues starts names (Ok day) begun same from =
    let told = from.told in
    record {
      desk_day = record { starts = starts; begun = begun; ends = from.ends; ran = from.ran; audited = told.audited };
      rest = subst (λ (n : List (List ℕ)). TellsRest n from.ends (counted_of told.audited.day) day) same told.rest;
    }
told_over venues starts names (Err fault) begun same from = tt

-- and of one whose workers tell journals
pub told_kept : {E : Type 0} (venues : List Venue) (starts : List (WorkerStart VenueDialect)) (names : List (List ℕ))
    (result : Result DeskDay E) → AreBegun 0 venues starts → AllTell starts → names ≡ map (λ v. v.name) venues
    → IfOk result (IsToldFrom names starts) → IfOk result (IsToldKept venues)
told_kept venues starts names (Ok day) begun tell same from =
    let told = from.told in
    record {
      over = record {
        desk_day = record { starts = starts; begun = begun; ends = from.ends; ran = from.ran; audited = told.audited };
        rest = subst (λ (n : List (List ℕ)). TellsRest n from.ends (counted_of told.audited.day) day) same told.rest;
      };
      tell = tell;
    }
told_kept venues starts names (Err fault) begun tell same from = tt
