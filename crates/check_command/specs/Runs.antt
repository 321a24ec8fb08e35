-- What the logs of venues come to that were checked, and what is printed of them.
use Rattle.std.specs.Prelude.{◌≡◌, ℕ, Bool, true, false, ◌&&◌, ◌||◌, List, [], ◌∷◌, ◌++◌, map, Option, Some, None, is_some}
use Rattle.std.specs.Io.KnownBytes.{Appends}
use Rattle.day_rules.specs.VenueDay.{VenueParts}
use Rattle.day_check.specs.Exact.{exact_text}
use Rattle.day_check.specs.LogText.{Style, checked, log_text}
use Rattle.day_check.specs.Tallies.{breaks_a_rule}
use Rattle.day_check.specs.declared.finding.Printing.{Printing}
use Rattle.day_check.specs.declared.form.Form.{Form}
use Rattle.day_check.specs.declared.form.Form.TheVariants.{Own, Quickfix}
use Rattle.day_check.specs.declared.checked_log.CheckedLog.{CheckedLog}
use Rattle.check_command.specs.PathName.{venue_paths}
use Rattle.check_command.specs.declared.command.Request.{Request}
use Rattle.check_command.specs.declared.day.Day.{Day}

-- what is said of a log that is held against what its session writes: how many frames are that, and the first line that
-- isn't, with what the session writes there
pub record ExactSaid : Type 0 where
  pub held : ℕ
  pub broken : Option (ℕ × List ℕ)

-- a log that was read: its path, its lines, of which the last one stands first, whether it ends within a line, and what
-- is said of it exactly, where that is asked for
pub record LogRead : Type 0 where
  pub path : List ℕ
  pub lines : List (List ℕ)
  pub is_cut : Bool
  pub exact : Option ExactSaid

abbrev pub exact_broken : Option ExactSaid → Bool
exact_broken None = false
exact_broken (Some said) = is_some said.broken

abbrev pub text_of_exact : Option ExactSaid → List ℕ
text_of_exact None = []
text_of_exact (Some said) = exact_text said.held said.broken

-- whether a rule is broken in a log, or it isn't what the session writes
abbrev pub is_broken : Style → LogRead → Bool
is_broken s log = breaks_a_rule (checked s log.lines).tallies || exact_broken log.exact

-- what is printed of it
abbrev pub read_text : Style → LogRead → List ℕ
read_text s log = log_text s log.path log.lines log.is_cut ++ text_of_exact log.exact

-- whether one of these logs is broken, of which the last one stands first
abbrev pub any_broken : Style → List LogRead → Bool
any_broken s [] = false
any_broken s (log ∷ earlier) = any_broken s earlier || is_broken s log

-- what is printed of them
abbrev pub logs_text : Style → List LogRead → List ℕ
logs_text s [] = []
logs_text s (log ∷ earlier) = logs_text s earlier ++ read_text s log

-- what their messages say together
abbrev pub venues_of : Style → List LogRead → List VenueParts
venues_of s [] = []
venues_of s (log ∷ earlier) = venues_of s earlier ++ (checked s log.lines).day ∷ []

-- their paths, before others
abbrev pub paths_before : List LogRead → List (List ℕ) → List (List ℕ)
paths_before [] paths = paths
paths_before (log ∷ earlier) paths = paths_before earlier (log.path ∷ paths)

-- how the logs are told that the words name, as those of a day where the day is judged
abbrev pub style_asked : Request → Bool → Style
style_asked r of_day = record {
  words = r.words.items;
  form = r.form;
  tells_legs = r.tells_legs;
  tells_executions = r.tells_executions;
  keeps_legs = r.tells_legs || r.tells_executions || of_day;
}

abbrev pub is_own_form : Form → Bool
is_own_form Own = true
is_own_form (Quickfix desk) = false

-- a log is held against what its session writes where that is asked for, and of a day where its first line says that
-- this program wrote it
abbrev pub holds_exactly : Request → Bool → Bool → Bool
holds_exactly r of_day is_own = is_some r.exact || (of_day && is_own && is_own_form r.form)

abbrev pub is_held : Request → Bool → List (List ℕ) → Bool
is_held r of_day lines = holds_exactly r of_day (checked (style_asked r of_day) lines).is_own

abbrev pub AreHeld : Request → Bool → List LogRead → Type 0
AreHeld r of_day [] = Unit {0}
AreHeld r of_day (log ∷ earlier) = (is_some log.exact ≡ is_held r of_day log.lines) × AreHeld r of_day earlier

-- what is said of a log exactly, where that is asked for
pub record ChecksExactly (p : Printing) (asked : Bool) (before after : Option (List ℕ)) (broken : Bool) : Type 0 where
  pub said : Option ExactSaid
  pub held : is_some said ≡ asked
  pub is_so : broken ≡ exact_broken said
  pub printed : p.is_json ≡ false → Appends before after (text_of_exact said)

-- the log of a path was read
pub record ChecksPath (r : Request) (of_day : Bool) (path : List ℕ) (before after : Option (List ℕ)) (log : CheckedLog)
    : Type 0 where
  pub read : LogRead
  pub path_is : read.path ≡ path
  pub held : is_some read.exact ≡ is_held r of_day read.lines
  pub day : log.day ≡ (checked (style_asked r of_day) read.lines).day
  pub broken : log.is_broken ≡ is_broken (style_asked r of_day) read
  pub printed : r.is_json ≡ false → Appends before after (read_text (style_asked r of_day) read)

-- the paths that the words name
abbrev pub paths_asked : Request → List (List ℕ)
paths_asked r = map (λ path. path.now) r.paths.items

-- these are the logs of venues that the words name, each in its turn, but for those among these paths, which are left
pub record AreRead (r : Request) (of_day : Bool) (rest : List (List ℕ)) (logs : List LogRead) : Type 0 where
  pub paths : paths_before logs (venue_paths rest) ≡ venue_paths (paths_asked r)
  pub held : AreHeld r of_day logs

-- they were read, and this is what they come to; of a day they are kept
pub record ChecksLogs (r : Request) (of_day : Bool) (rest : List (List ℕ)) (before after : Option (List ℕ)) (day : Day)
    : Type 0 where
  pub logs : List LogRead
  pub read : AreRead r of_day rest logs
  pub broken : day.is_broken ≡ any_broken (style_asked r of_day) logs
  pub venues : of_day ≡ true → day.venues.items ≡ venues_of (style_asked r of_day) logs
  pub named : of_day ≡ true → map (λ path. path.now) day.paths.items ≡ paths_before logs []
  pub printed : r.is_json ≡ false → Appends before after (logs_text (style_asked r of_day) logs)

-- the log of this path is read next, where it is that of a venue
abbrev pub ReadsNext : Request → Bool → List ℕ → Option (List ℕ) → Option (List ℕ) → Day → Day → Type 0
ReadsNext r of_day path before after old new =
    (rest : List (List ℕ)) (start : Option (List ℕ)) → ChecksLogs r of_day (path ∷ rest) start before old
    → ChecksLogs r of_day rest start after new
