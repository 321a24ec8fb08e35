-- The log of a venue that is printed.
use Rattle.std.specs.Prelude.{◌≡◌, ℕ, List, Option, Some}
use Rattle.session_core.specs.Session.{new_session}
use Rattle.journal_folder.specs.Found.{AreFound, FoundParts}
use Rattle.journal_words.specs.declared.fault.WordsFault.{WordsFault}
use Rattle.journal_log.specs.Head.{HeadParts, head_words, log_head, wording_of}
use Rattle.journal_log.specs.Logged.{PrintsLog, StopsAt}

-- a journal of a venue with this head
pub record IsOfVenue (files : List (List ℕ)) (found : FoundParts) (head : HeadParts) : Type 0 where
  pub are : AreFound files found
  pub words : found.words ≡ Some (head_words head)

-- the log of what is found was printed
abbrev pub LogsFound : FoundParts → HeadParts → Option (List ℕ) → Option (List ℕ) → Type 0
LogsFound found head before after =
    PrintsLog (wording_of head.words) (new_session head.config) (log_head head) found.lines before after

-- the log of a venue's journal was printed, by the bytes of its files
abbrev pub LogsJournal : Option (List ℕ) → Option (List ℕ) → Type 0
LogsJournal before after =
    (files : List (List ℕ)) × (found : FoundParts) × (head : HeadParts) × IsOfVenue files found head
    × LogsFound found head before after

-- it was printed of the lines before the one of this number, which says nothing
abbrev pub LogsUpTo : ℕ → WordsFault → Option (List ℕ) → Option (List ℕ) → Type 0
LogsUpTo number why before after =
    (files : List (List ℕ)) × (found : FoundParts) × (head : HeadParts) × IsOfVenue files found head
    × StopsAt (wording_of head.words) (new_session head.config) (log_head head) found.lines number why before after
