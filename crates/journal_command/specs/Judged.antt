-- Journals that were read, and what is printed of them.
use Rattle.std.specs.Prelude.{◌≡◌, ℕ, Bool, true, false, ◌||◌, List, [], ◌∷◌, ◌++◌, Result, Ok, Err, MatchResult}
use Rattle.std.specs.Option.{unwrap_or}
use Rattle.journal_folder.specs.Found.{FoundParts, IsFoundOf, IsRefused}
use Rattle.journal_folder.specs.declared.fault.FolderFault.{FolderFault}
use Rattle.journal_command.specs.Shown.{broken_text, found_text, title_text}

-- a journal with its name, of how many files, and what was found of it, or why it can't be gone on with
pub record JournalRead : Type 0 where
  pub name : List ℕ
  pub files : ℕ
  pub found : Result FoundParts FolderFault

-- what the bytes of so many files say
abbrev pub IsSaid : ℕ → Result FoundParts FolderFault → Type 0
IsSaid files found = MatchResult found (IsFoundOf files) IsRefused

abbrev pub AreRead : List JournalRead → Type 0
AreRead [] = Unit {0}
AreRead (journal ∷ earlier) = IsSaid journal.files journal.found × AreRead earlier

-- whether one can't be gone on with
abbrev pub is_broken : Result FoundParts FolderFault → Bool
is_broken (Ok found) = false
is_broken (Err fault) = true

abbrev pub any_broken : List JournalRead → Bool
any_broken [] = false
any_broken (journal ∷ earlier) = is_broken journal.found || any_broken earlier

-- what is printed of journals, of which the last one stands first
abbrev pub said_text : Bool → Result FoundParts FolderFault → List ℕ
said_text tells (Ok found) = found_text tells found
said_text tells (Err fault) = unwrap_or (broken_text fault) []

abbrev pub journals_text : Bool → List JournalRead → List ℕ
journals_text tells [] = []
journals_text tells (journal ∷ earlier) =
    journals_text tells earlier ++ (title_text journal.name ++ said_text tells journal.found)

-- the names of journals and how many files each has; of these the last one stands first, before others
abbrev pub Listed : Type 0
Listed = List (List ℕ × ℕ)

abbrev pub listed_before : List JournalRead → Listed → Listed
listed_before [] listed = listed
listed_before (journal ∷ earlier) listed = listed_before earlier ((journal.name, journal.files) ∷ listed)

-- this is said of the journals that are listed, each read in its turn, but for those that are left
pub record Says (tells : Bool) (listed rest : Listed) (text : List ℕ) (broken : Bool) : Type 0 where
  pub journals : List JournalRead
  pub read : AreRead journals
  pub listed_is : listed_before journals rest ≡ listed
  pub text_is : text ≡ journals_text tells journals
  pub broken_is : broken ≡ any_broken journals

-- the journal of this name is read next, of so many files
abbrev pub SaysNext : Bool → List ℕ → ℕ → (old : List ℕ) → (was : Bool) → (new : List ℕ) → (is : Bool) → Type 0
SaysNext tells name files old was new is =
    (listed rest : Listed) → Says tells listed ((name, files) ∷ rest) old was → Says tells listed rest new is
