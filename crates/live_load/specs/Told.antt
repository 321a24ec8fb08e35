-- What is told of a day, with its sweeps and its report.
use Rattle.std.specs.Prelude.{◌≡◌, List, map}
use Rattle.std.specs.List.{list_any}
use Rattle.day_sweeps.specs.Paid.{parts_of}
use Rattle.desk_config.specs.declared.venue.Venue.{Venue}
use Rattle.desk_day.specs.Audited.{IsDeskDay}
use Rattle.session_worker.specs.Ends.{WorkerLeft}
use Rattle.live_load.specs.declared.day.LiveDay.{LiveDay}
use Rattle.live_load.specs.Venues.{venue_left, was_answered}

-- the venues are told as these workers left them, and whether an exchange answered one of them
pub record TellsEnds (ends : List WorkerLeft) (day : LiveDay) : Type 0 where
  pub venues : day.venues.items ≡ map (λ left. venue_left left.parts) ends
  pub answered : day.is_answered ≡ list_any (λ left. was_answered left.parts) ends

-- a day of these venues was audited with its sweeps and its report, and its venues are told as their workers left them
pub record IsLiveDay (venues : List Venue) (day : LiveDay) : Type 0 where
  pub desk_day : IsDeskDay venues (parts_of day.sweeps.items) day.report
  pub tells : TellsEnds desk_day.ends day
