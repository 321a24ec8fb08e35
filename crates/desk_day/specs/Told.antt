-- What is told of an audited day, beside its sweeps and its report.
use Rattle.std.specs.Prelude.{◌≡◌, ℕ, true, List, [], ◌∷◌, length, map, is_some}
use Rattle.std.specs.List.{list_any}
use Rattle.day_sweeps.specs.Paid.{paid_in, parts_of}
use Rattle.day_sweeps.specs.Sweeps.{sweeps_in}
use Rattle.desk_config.specs.declared.venue.Venue.{Venue}
use Rattle.desk_venues.specs.Starts.{any_wording}
use Rattle.exec_collector.specs.Day.{note_count}
use Rattle.exec_collector.specs.Unbooked.{CountedParts}
use Rattle.session_worker.specs.Audit.{counted_of}
use Rattle.session_worker.specs.Ends.{WorkerLeft, WorkerStart, AllRan}
use Rattle.session_worker.specs.Keeping.{Told}
use Rattle.desk_day.specs.declared.day.DeskDay.{DeskDay}
use Rattle.desk_day.specs.Audited.{IsAudited, IsDayOver, IsDeskDay}
use Rattle.desk_day.specs.Doubts.{doubts_in, venue_legs, was_given_up}
use Rattle.report_words.specs.declared.report_words.ReportWords.{ReportWords}
use Rattle.venue_words.specs.declared.venue_dialect.VenueDialect.{VenueDialect}
use Rattle.desk_day.specs.Unbooked.{unbooked_in}

-- what was paid for each sweep of this book, all that it didn't take, all legs that these workers leave in doubt, and
-- whether one of them gave its session up. Words are kept of each note, in the order in which the notes were given: a
-- note that wasn't taken is told with those under its number
pub record TellsRest (names : List (List ℕ)) (ends : List WorkerLeft) (counted : CountedParts) (day : DeskDay)
    : Type 0 where
  pub paid : day.sweeps.items ≡ map (paid_in counted.book counted.unbooked) (sweeps_in counted.book)
  pub words : List ReportWords
  pub one_each : length words ≡ note_count counted
  pub unbooked : day.unbooked.items ≡ unbooked_in names counted words
  pub doubts : map venue_legs day.doubts.items ≡ doubts_in names ends
  pub given_up : day.is_given_up ≡ list_any (λ left. was_given_up left.reason) ends

-- what these workers left was audited, with the sweeps and the report that are told; and the rest is told of this
-- audit's book, and of these workers
pub record IsTold (names : List (List ℕ)) (ends : List WorkerLeft) (day : DeskDay) : Type 0 where
  pub audited : IsAudited ends (parts_of day.sweeps.items) day.report
  pub rest : TellsRest names ends (counted_of audited.day) day

-- a day that is told so, and whose workers ran from these starts
pub record IsToldFrom (names : List (List ℕ)) (starts : List (WorkerStart VenueDialect)) (day : DeskDay) : Type 0 where
  pub ends : List WorkerLeft
  pub ran : AllRan any_wording starts ends
  pub told : IsTold names ends day

-- so is the day of these venues, whose workers ran from their starts
pub record IsToldDay (venues : List Venue) (day : DeskDay) : Type 0 where
  pub desk_day : IsDeskDay venues (parts_of day.sweeps.items) day.report
  pub rest : TellsRest (map (λ v. v.name) venues) desk_day.ends (counted_of desk_day.audited.day) day

-- and so is a day that may have had lives before
pub record IsToldOver (venues : List Venue) (day : DeskDay) : Type 0 where
  pub desk_day : IsDayOver venues (parts_of day.sweeps.items) day.report
  pub rest : TellsRest (map (λ v. v.name) venues) desk_day.ends (counted_of desk_day.audited.day) day

-- each of these says what it was told, as a journal does
abbrev pub AllSay : List Told → Type 0
AllSay [] = Unit {0}
AllSay (told ∷ rest) = (is_some told ≡ true) × AllSay rest

-- each of these workers begins with a journal
abbrev pub AllTell : List (WorkerStart VenueDialect) → Type 0
AllTell [] = Unit {0}
AllTell (start ∷ starts) = (is_some start.parts.told ≡ true) × AllTell starts

-- and so is a day with journals: each worker tells one
pub record IsToldKept (venues : List Venue) (day : DeskDay) : Type 0 where
  pub over : IsToldOver venues day
  pub tell : AllTell over.desk_day.starts
