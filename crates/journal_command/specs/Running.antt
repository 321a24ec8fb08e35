-- How `dispatch journal` ends.
use Rattle.std.specs.Prelude.{◌≡◌, ◌≢◌, ℕ, Bool, true, false, List, [], Option, MatchOption, Result, Ok, Err}
use Rattle.std.specs.Io.KnownBytes.{Appends, Keeps}
use Rattle.clap.specs.declared.parser.matches.ArgMatches.{ArgMatches}
use Rattle.journal_command.specs.Fault.{fault_status}
use Rattle.journal_command.specs.Judged.{Listed, Says}
use Rattle.journal_command.specs.Logged.{LogsJournal, LogsUpTo}
use Rattle.journal_command.specs.Request.{IsRequest}
use Rattle.journal_command.specs.declared.command.Request.{Request}
use Rattle.journal_command.specs.declared.fault.CommandFault.{CommandFault}
use Rattle.journal_command.specs.declared.fault.CommandFault.TheVariants.{BadLine, LogWantsMemory, WriteFailed}

-- the status of a run: 8 where a journal is broken, 0 where none is, or that of its fault
abbrev pub journal_status : Result Bool CommandFault → ℕ
journal_status (Ok true) = 8
journal_status (Ok false) = 0
journal_status (Err fault) = fault_status fault

-- the journals that are listed were read, one at least, and what they say was printed
pub record Judges (r : Request) (before after : Option (List ℕ)) (broken : Bool) : Type 0 where
  pub listed : Listed
  pub some : listed ≢ []
  pub text : List ℕ
  pub says : Says r.tells_lines listed [] text broken
  pub printed : Appends before after text

-- what is asked for was done: journals were read, or the log of one was printed, which isn't broken
abbrev pub Does : Request → Option (List ℕ) → Option (List ℕ) → Bool → Type 0
Does r before after broken =
    MatchOption r.log (Judges r before after broken) (λ name. (broken ≡ false) × LogsJournal before after)

-- what the words ask for was done
pub record DidJudge (before after : Option (List ℕ)) (broken : Bool) : Type 0 where
  pub matches : ArgMatches
  pub request : Request
  pub asked : IsRequest matches request
  pub does : Does request before after broken

-- before a fault nothing is printed, where the output didn't fail and no log wants memory, but the log of the lines
-- before one that says nothing
abbrev pub KeepsBefore : Option (List ℕ) → Option (List ℕ) → CommandFault → Type 0
KeepsBefore before after WriteFailed = Unit {0}
KeepsBefore before after LogWantsMemory = Unit {0}
KeepsBefore before after (BadLine name number why) = LogsUpTo number why before after
KeepsBefore before after fault = Keeps before after

-- how a run ends: it did so, or there is a fault
abbrev pub EndsJudging : Option (List ℕ) → Option (List ℕ) → Result Bool CommandFault → Type 0
EndsJudging before after (Ok broken) = DidJudge before after broken
EndsJudging before after (Err fault) = KeepsBefore before after fault

-- a run that ends so has this exit status
abbrev pub ExitsSo : Option (List ℕ) → Option (List ℕ) → ℕ → Type 0
ExitsSo before after status =
    (done : Result Bool CommandFault) × (status ≡ journal_status done) × EndsJudging before after done
