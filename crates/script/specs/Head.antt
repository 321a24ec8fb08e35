-- The first line of a script: its venues and its limits.
use Rattle.std.specs.Prelude.{List, ℕ, length, ◌≤◌, Option, None, if◌then◌else◌}
use Rattle.schedule.specs.Script.{ScriptHead, ScriptVenue, is_venue_count, venues_of_words}

-- the venues of these words, where there are 1 to 16
abbrev pub few_venues : List (List ℕ) → Option (List ScriptVenue)
few_venues words = if is_venue_count (length words) then venues_of_words words else None

-- a first line is for 1 to 16 venues, and the number that no message has is 16 to 999,999,999
pub record IsHead (head : ScriptHead) : Type 0 where
  pub low : 1 ≤ length head.venues
  pub high : length head.venues ≤ 16
  pub least : 16 ≤ head.max_number
  pub most : head.max_number ≤ 999999999
