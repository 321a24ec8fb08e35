-- Where the folders of a day's logs and of its journals are.
use Rattle.std.specs.Prelude.{ℕ, List, Option, Some, None}
use Rattle.std.specs.Path.{path_join, path_parent}
use Rattle.desk_config.specs.declared.day.Day.{Day}
use Rattle.desk_config.specs.declared.journal.Durable.{Durable}
use Rattle.desk_config.specs.declared.journal.JournalTerms.{JournalTerms}
use Rattle.desk_config.specs.Journal.{folder_on}

-- a folder in a place, if there is one
abbrev pub folder_in : Option (List ℕ) → List ℕ → List ℕ
folder_in (Some place) folder = path_join place folder
folder_in None folder = folder

-- a folder that a file names, from the file's own folder on
abbrev pub folder_of : List ℕ → List ℕ → List ℕ
folder_of file folder = folder_in (path_parent file) folder

-- that of a day's journals, where these terms of a file ask for any: the folder that they name for the day
abbrev pub journal_folder : List ℕ → Option JournalTerms → Day → Option (List ℕ)
journal_folder file None day = None
journal_folder file (Some terms) day = Some (folder_of file (folder_on terms.folder day))

-- journals in this folder, what they outlive by these terms, and the day that they are of
abbrev pub journal_at : Option JournalTerms → Option (List ℕ) → Day → Option (List ℕ × Durable × Day)
journal_at (Some terms) (Some folder) day = Some (folder, terms.durable, day)
journal_at terms folder day = None
