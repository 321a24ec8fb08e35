-- How a day is judged, sentence by sentence.
use Rattle.std.specs.Prelude.{◌≡◌, ℕ, Bool, false, List, [], map, Option}
use Rattle.std.specs.Io.KnownBytes.{Appends}
use Rattle.day_rules.specs.DeskDay.{DeskParts, new_desk}
use Rattle.day_check.specs.SweepsLog.{lines_heard}
use Rattle.day_check.specs.declared.finding.Printing.{Printing}
use Rattle.check_command.specs.DayRead.{DayRead, Told, all_sentences, any_broken_by, day_text, told_before, told_text}
use Rattle.check_command.specs.declared.command.Request.{Request}
use Rattle.check_command.specs.declared.day.Day.{Day}

abbrev pub paths_of : Day → List (List ℕ)
paths_of day = map (λ path. path.now) day.paths.items

-- the logs of venues that are kept, and that of the desk's lines
abbrev pub day_read : Printing → Day → DeskParts → DayRead
day_read p day desk = record {
  form = p.form.now;
  paths = paths_of day;
  venues = day.venues.items;
  path = p.log.now;
  desk = desk;
}

-- each sentence was told, and whether one is broken
pub record TellsDay (p : Printing) (d : DayRead) (before after : Option (List ℕ)) (broken : Bool) : Type 0 where
  pub told : List Told
  pub all_told : told_before told [] ≡ all_sentences
  pub is_so : broken ≡ any_broken_by d told
  pub printed : p.is_json ≡ false → Appends before after (told_text d told)

-- some lines were read of the desk's log, and the day was judged
abbrev pub asked_day : Request → Day → List ℕ → DeskParts → DayRead
asked_day r day path desk = record {
  form = r.form;
  paths = paths_of day;
  venues = day.venues.items;
  path = path;
  desk = desk;
}

pub record JudgesDay (r : Request) (day : Day) (path : List ℕ) (names : List (List ℕ)) (before after : Option (List ℕ))
    (broken : Bool) : Type 0 where
  pub lines : List (List ℕ)
  pub told : List Told
  pub all_told : told_before told [] ≡ all_sentences
  pub is_so : broken ≡ any_broken_by (asked_day r day path (lines_heard (new_desk names) lines)) told
  pub printed : r.is_json ≡ false
      → Appends before after (day_text (asked_day r day path (lines_heard (new_desk names) lines)) told)
