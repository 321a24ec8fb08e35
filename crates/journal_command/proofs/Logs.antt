-- A log that ends before a line that says nothing.
use Rattle.std.proofs.Common.{◌≡◌, ℕ, List, Option, Some, None, Result, Ok, Err, sym, subst}
use Rattle.std.specs.Prelude.{MatchResult}
use Rattle.std.specs.Option.{IsSomeAnd}
use Rattle.journal_words.specs.declared.fault.WordsFault.{WordsFault}
use Rattle.session_core.specs.Session.{new_session}
use Rattle.journal_folder.specs.Found.{AreFound, FoundParts, IsFoundOf}
use Rattle.journal_log.specs.Head.{HeadParts, log_head, wording_of}
use Rattle.journal_log.specs.Logged.{StopsAt, StopsWith}
use Rattle.journal_log.specs.declared.fault.LogFault.{LogFault}
use Rattle.journal_log.specs.declared.fault.LogFault.TheVariants as log
use Rattle.journal_command.specs.Fault.{IsOfFolder, IsOfLine, IsStop}
use Rattle.journal_command.specs.Logged.{IsOfVenue, LogsUpTo}
use Rattle.journal_command.specs.Running.{KeepsBefore}
use Rattle.journal_command.specs.declared.fault.CommandFault.{CommandFault}
use Rattle.journal_command.specs.declared.fault.CommandFault.TheVariants.{CommandLine, NoFolder, NoJournal, NoVenue, Broken, OtherHead, BadLine, ReadFailed, WriteFailed, LogWantsMemory, OutOfMemory}

pub line_keeps : (number : ℕ) (why : WordsFault) (before after : Option (List ℕ)) (fault : CommandFault)
    → IsOfLine number why fault → LogsUpTo number why before after → KeepsBefore before after fault
line_keeps number why before after (BadLine name at said) is logs =
    subst (λ (n : ℕ). LogsUpTo n said before after) (sym is.0)
    (subst (λ (w : WordsFault). LogsUpTo number w before after) (sym is.1) logs)
line_keeps number why before after LogWantsMemory is logs = tt
line_keeps number why before after (CommandLine error) is logs = absurd is
line_keeps number why before after NoFolder is logs = absurd is
line_keeps number why before after NoJournal is logs = absurd is
line_keeps number why before after (NoVenue name) is logs = absurd is
line_keeps number why before after (Broken name reason) is logs = absurd is
line_keeps number why before after (OtherHead name) is logs = absurd is
line_keeps number why before after (ReadFailed path) is logs = absurd is
line_keeps number why before after WriteFailed is logs = tt
line_keeps number why before after OutOfMemory is logs = absurd is

pub stop_keeps : (files : List (List ℕ)) (found : FoundParts) (head : HeadParts) (lines : List (List ℕ))
    (before after : Option (List ℕ)) (stop : LogFault) (fault : CommandFault) → IsOfVenue files found head
    → lines ≡ found.lines
    → StopsWith (wording_of head.words) (new_session head.config) (log_head head) lines before after stop
    → IsStop stop fault → KeepsBefore before after fault
stop_keeps files found head lines before after (log.Line number why) fault venue same stops is =
    line_keeps number why before after fault is (
      files,
      found,
      head,
      venue,
      subst (λ (ls : List (List ℕ)). StopsAt (wording_of head.words) (new_session head.config) (log_head head) ls number why before after)
          same stops,
    )
stop_keeps files found head lines before after log.WriteFailed fault venue same stops is =
    subst (λ (f : CommandFault). KeepsBefore before after f) (sym is) tt
stop_keeps files found head lines before after log.OutOfMemory fault venue same stops is =
    subst (λ (f : CommandFault). KeepsBefore before after f) (sym is) tt

-- the files that a journal was read of
pub files_of : (found : FoundParts) → ((count : ℕ) × IsFoundOf count found) → (files : List (List ℕ)) × AreFound files found
files_of found (count, is) = (is.0, is.1)

-- so many are listed
some_count : (listed : Option ℕ) (found : FoundParts) → IsSomeAnd listed (λ n. IsFoundOf n found)
    → (count : ℕ) × IsFoundOf count found
some_count None found is = absurd is
some_count (Some count) found is = (count, is)

pub listed_read : (listed : Option ℕ) (found : Result FoundParts CommandFault)
    → MatchResult found (λ f. IsSomeAnd listed (λ n. IsFoundOf n f)) IsOfFolder
    → MatchResult found (λ f. (count : ℕ) × IsFoundOf count f) IsOfFolder
listed_read listed (Ok found) is = some_count listed found is
listed_read listed (Err fault) is = is
