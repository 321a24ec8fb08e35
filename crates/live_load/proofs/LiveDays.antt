-- A day whose workers ran from their venues' starts, and that was audited and told.
use Rattle.std.proofs.Common.{◌≡◌, List, Ok, Err, subst}
use Rattle.std.specs.Prelude.{Result, IfOk}
use Rattle.venue_words.specs.declared.venue_dialect.VenueDialect.{VenueDialect}
use Rattle.day_sweeps.specs.Paid.{parts_of}
use Rattle.desk_config.specs.declared.venue.Venue.{Venue}
use Rattle.session_worker.specs.Ends.{WorkerStart, WorkerLeft, AllRan}
use Rattle.desk_venues.specs.Starts.{any_wording, starts_of}
use Rattle.desk_day.specs.Audited.{IsAudited}
use Rattle.live_load.specs.declared.day.LiveDay.{LiveDay}
use Rattle.live_load.specs.Told.{IsLiveDay, TellsEnds}

pub live_day : {E : Type 0} (venues : List Venue) (starts : List (WorkerStart VenueDialect)) (ends : List WorkerLeft)
    (result : Result LiveDay E) → starts ≡ starts_of venues → AllRan any_wording starts ends
    → IfOk result (λ day. IsAudited ends (parts_of day.sweeps.items) day.report) → IfOk result (TellsEnds ends)
    → IfOk result (IsLiveDay venues)
live_day venues starts ends (Ok day) is ran audited tells = record {
  desk_day = record {
    ends = ends;
    ran = subst (λ (s : List (WorkerStart VenueDialect)). AllRan any_wording s ends) is ran;
    audited = audited;
  };
  tells = tells;
}
live_day venues starts ends (Err fault) is ran audited tells = tt
