-- The files of a day's journals.
use Rattle.std.specs.Prelude.{◌≡◌, ℕ, List, Ok, codes}
use Rattle.journal_folder.specs.Found.{FoundParts, IsFoundUnder}

-- the name of the desk's journal
abbrev pub desk_name : List ℕ
desk_name = codes "desk"

-- this was found of some files of a journal, whose heads have these words
abbrev pub HasWords : List ℕ → FoundParts → Type 0
HasWords words found = (count : ℕ) × IsFoundUnder count words (Ok found)
