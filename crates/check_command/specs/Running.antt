-- How `dispatch check` ends.
use Rattle.std.specs.Prelude.{◌≡◌, ℕ, Bool, true, false, ◌||◌, List, [], ◌∷◌, ◌++◌, Option, Result, Ok, Err}
use Rattle.std.specs.Io.KnownBytes.{Appends, Keeps}
use Rattle.clap.specs.declared.parser.matches.ArgMatches.{ArgMatches}
use Rattle.day_check.specs.SweepsLog.{lines_heard}
use Rattle.day_rules.specs.DeskDay.{DeskParts, new_desk}
use Rattle.check_command.specs.DayRead.{DayRead, Told, all_sentences, any_broken_by, day_text, told_before}
use Rattle.check_command.specs.Fault.{IsOfWords, fault_status}
use Rattle.check_command.specs.PathName.{AreNames, sweeps_paths}
use Rattle.check_command.specs.Request.{IsRequest}
use Rattle.check_command.specs.Runs.{AreRead, LogRead, any_broken, logs_text, paths_asked, paths_before, style_asked, venues_of}
use Rattle.check_command.specs.declared.command.Request.{Request}
use Rattle.check_command.specs.declared.fault.CommandFault.{CommandFault}

-- the status of a run: 8 where a rule or a sentence is broken, 0 where none is, or that of its fault
abbrev pub check_status : Result Bool CommandFault → ℕ
check_status (Ok true) = 8
check_status (Ok false) = 0
check_status (Err fault) = fault_status fault

-- the logs of venues were read, each for itself: whether one of them is broken, and what was printed
pub record ChecksEach (r : Request) (before after : Option (List ℕ)) (broken : Bool) : Type 0 where
  pub logs : List LogRead
  pub read : AreRead r false [] logs
  pub is_so : broken ≡ any_broken (style_asked r false) logs
  pub printed : r.is_json ≡ false → Appends before after (logs_text (style_asked r false) logs)

-- what the logs of venues say, with that of a desk's lines, of this path
abbrev pub day_of : Request → List LogRead → List ℕ → DeskParts → DayRead
day_of r logs path desk = record {
  form = r.form;
  paths = paths_before logs [];
  venues = venues_of (style_asked r true) logs;
  path = path;
  desk = desk;
}

-- they were read, and then these lines of that of a desk, of which the last one stands first; and the day was judged
pub record ChecksDay (r : Request) (path : List ℕ) (before after : Option (List ℕ)) (broken : Bool) : Type 0 where
  pub logs : List LogRead
  pub read : AreRead r true [] logs
  pub names : List (List ℕ)
  pub are_names : AreNames names (paths_asked r)
  pub lines : List (List ℕ)
  pub told : List Told
  pub all_told : told_before told [] ≡ all_sentences
  pub is_so : broken ≡ any_broken (style_asked r true) logs
      || any_broken_by (day_of r logs path (lines_heard (new_desk names) lines)) told
  pub printed : r.is_json ≡ false → Appends before after
      (logs_text (style_asked r true) logs ++ day_text (day_of r logs path (lines_heard (new_desk names) lines)) told)

-- as a day where there is a log of a desk's lines, else each log for itself
abbrev pub ChecksAsked : Request → List (List ℕ) → Option (List ℕ) → Option (List ℕ) → Bool → Type 0
ChecksAsked r [] before after broken = ChecksEach r before after broken
ChecksAsked r (path ∷ []) before after broken = ChecksDay r path before after broken
ChecksAsked r (path ∷ other ∷ paths) before after broken = ⊥

-- what the words ask for was done
pub record DidCheck (before after : Option (List ℕ)) (broken : Bool) : Type 0 where
  pub matches : ArgMatches
  pub request : Request
  pub asked : IsRequest matches request
  pub checked : ChecksAsked request (sweeps_paths (paths_asked request)) before after broken

-- where the words are refused nothing is printed
abbrev pub KeepsWhereRefused : Option (List ℕ) → Option (List ℕ) → CommandFault → Type 0
KeepsWhereRefused before after fault = IsOfWords fault → Keeps before after

-- how a run ends: what the words ask for was done, or there is a fault
abbrev pub EndsCheck : Option (List ℕ) → Option (List ℕ) → Result Bool CommandFault → Type 0
EndsCheck before after (Ok broken) = DidCheck before after broken
EndsCheck before after (Err fault) = KeepsWhereRefused before after fault

-- a run that ends so has this exit status
abbrev pub ExitsSo : Option (List ℕ) → Option (List ℕ) → ℕ → Type 0
ExitsSo before after status =
    (done : Result Bool CommandFault) × (status ≡ check_status done) × EndsCheck before after done
