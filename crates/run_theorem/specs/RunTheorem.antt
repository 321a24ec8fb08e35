-- The sweep theorem of `dispatch run`, from its exit status to the bytes on each venue's link.
use Rattle.std.specs.Prelude.{◌≡◌, ◌⊎◌, ℕ, List, slice_get, Option, Some, Ok}
use Rattle.std.specs.Io.KnownBytes.{Appends}
use Rattle.desk_config.specs.Config.{AnswersText}
use Rattle.desk_config.specs.declared.config.DeskConfig.{DeskConfig}
use Rattle.desk_config.specs.declared.venue.Venue.{Venue}
use Rattle.desk_theorem.specs.DeskOverLives.{IsSafeAtOver}
use Rattle.desk_venues.specs.Starts.{any_wording}
use Rattle.desk_venues.specs.Venues.{desk_end}
use Rattle.config_check.specs.Checked.{check_text}
use Rattle.run_command.specs.Ending.{EndsOpen, PrintsDay, PrintsWholeDay}
use Rattle.run_command.specs.Running.{ExitsSo}
use Rattle.session_worker.specs.Audit.{counted_of}
use Rattle.sweep_release.specs.Released.{released}
use Rattle.venue_words.specs.Dialect.{dialect_of}

-- each venue of the printed day of a configuration is safe over all its lives
abbrev pub IsSafeDay : (config : DeskConfig) (after : Option (List ℕ)) → PrintsDay config after → Type 0
IsSafeDay config after prints = (place : ℕ) (venue : Venue) → slice_get config.venues.items place ≡ Some venue
    → IsSafeAtOver (any_wording (dialect_of venue.words)) (desk_end venue)
    (released place prints.told.desk_day.audited.day.desk.desk.sweeps)
    (counted_of prints.told.desk_day.audited.day) prints.told.desk_day.ends place venue

-- a whole day that is safe
pub record PrintsSafely (config : DeskConfig) (after : Option (List ℕ)) : Type 0 where
  pub day : PrintsWholeDay config after
  pub safe : IsSafeDay config after day.prints

-- what the configuration that some bytes spell says is printed, or a whole day of it that is safe
pub record EndsSafely (before after : Option (List ℕ)) : Type 0 where
  pub bytes : List ℕ
  pub config : DeskConfig
  pub says : AnswersText bytes (Ok config)
  pub prints : Appends before after (check_text config) ⊎ PrintsSafely config after

-- a day of the configuration that some bytes spell is printed, which leaves something open and is safe
pub record OpensSafely (after : Option (List ℕ)) : Type 0 where
  pub left : EndsOpen after
  pub safe : IsSafeDay left.config after left.prints

-- a run ends so by its exit status: 0, 7 where a session was given up or a leg stays in doubt, and 9 where the book
-- didn't take each report; by the bytes that its output held before and holds after
pub record TheRunTheorem : Type 0 where
  pub ended_well : (before after : Option (List ℕ)) → ExitsSo before after 0 → EndsSafely before after
  pub given_up : (before after : Option (List ℕ)) → ExitsSo before after 7 → OpensSafely after
  pub unbooked : (before after : Option (List ℕ)) → ExitsSo before after 9 → OpensSafely after
