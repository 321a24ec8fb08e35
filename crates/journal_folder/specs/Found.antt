-- What is found of a journal in the bytes of its files.
use Rattle.std.specs.Prelude.{◌≡◌, ◌⊎◌, ℕ, ◌+◌, Bool, true, false, not, List, [], ◌∷◌, ◌++◌, length, take, drop, count_by, Option, Some, None, Result, Ok, Err, ◌==◌, nat_lt, if◌then◌else◌}
use Rattle.std.specs.Str.{bytes_eq}
use Rattle.journal_record.specs.Reading.{HasAll, is_damaged}
use Rattle.journal_record.specs.declared.judging.TextEnd.{TextEnd}
use Rattle.journal_record.specs.declared.judging.TextEnd.TheVariants.{Damaged as DamagedEnd}
use Rattle.journal_tape.specs.Tape.{text}
use Rattle.journal_folder.specs.Head.{head_of}
use Rattle.journal_folder.specs.declared.fault.FolderFault.{FolderFault}
use Rattle.journal_folder.specs.declared.fault.FolderFault.TheVariants.{CantRead, Gone, Damaged, NoFolder, NoHead, LinesGone, OtherWords, OutOfMemory}

-- the lines that count, how many files they are of, and the words of their heads; and of the last file how many bytes
-- are the beginning of a line, and how many behind its first NUL are none
pub record FoundParts : Type 0 where
  pub lines : List (List ℕ)
  pub files : ℕ
  pub words : Option (List ℕ)
  pub torn : ℕ
  pub stray : ℕ

abbrev pub none_found : FoundParts
none_found = record { lines = []; files = 0; words = None; torn = 0; stray = 0 }

-- how many bytes aren't NUL
abbrev pub filled : List ℕ → ℕ
filled bytes = count_by (λ c. not (c == 0)) bytes

-- the lines of a file with these bytes, how many behind them are the beginning of a line, and how many bytes behind the
-- first NUL are none
pub record IsSound (bytes : List ℕ) (lines : List (List ℕ)) (torn stray : ℕ) : Type 0 where
  pub at : ℕ
  pub end : TextEnd
  pub all : HasAll (text bytes) lines at end
  pub sound : is_damaged end ≡ false
  pub torn_is : torn + at ≡ length (text bytes)
  pub stray_is : stray ≡ filled (drop (length (text bytes)) bytes)

-- the line of this number isn't the record of one, and so many bytes are before it
pub record IsDamagedAt (bytes : List ℕ) (line at : ℕ) : Type 0 where
  pub lines : List (List ℕ)
  pub all : HasAll (text bytes) lines at DamagedEnd
  pub line_is : line ≡ length lines + 1

abbrev pub MayBeDamaged : ℕ → List ℕ → FolderFault → Type 0
MayBeDamaged file bytes (Damaged f line at) = (f ≡ file) × IsDamagedAt bytes line at
MayBeDamaged file bytes OutOfMemory = Unit {0}
MayBeDamaged file bytes fault = ⊥

-- whether the heads have other words than these
abbrev pub other_words : Option (List ℕ) → List ℕ → Bool
other_words None words = false
other_words (Some found) words = not (bytes_eq found words)

-- why a file of this number can't have this head
abbrev pub head_fault : ℕ → FoundParts → Option (ℕ × ℕ × List ℕ) → Option FolderFault
head_fault file found None = Some (NoHead file)
head_fault file found (Some head) =
    if not (head.0 == file) then Some (NoHead file)
    else (if nat_lt (length found.lines) head.1 then Some (LinesGone file head.1 (length found.lines))
    else (if other_words found.words head.2 then Some (OtherWords file) else None))

-- the lines that count before a file, and those of it behind its head
abbrev pub GoesOn : FoundParts → ℕ → List ℕ → List (List ℕ) → FoundParts → Type 0
GoesOn old after words more new =
    new ≡ record {
      lines = take after old.lines ++ more;
      files = old.files;
      words = Some words;
      torn = old.torn;
      stray = old.stray;
    }

-- what is found with a file whose lines these are, of which the first is its head
abbrev pub HasLinesOf : FoundParts → ℕ → List (List ℕ) → FoundParts → Type 0
HasLinesOf old file [] new = new ≡ old
HasLinesOf old file (line ∷ more) new =
    (head : ℕ × ℕ × List ℕ) × (head_of line ≡ Some head) × (head_fault file old (Some head) ≡ None)
    × GoesOn old head.1 head.2 more new

abbrev pub RefusesLines : FoundParts → ℕ → List (List ℕ) → FolderFault → Type 0
RefusesLines old file [] fault = ⊥
RefusesLines old file (line ∷ more) fault = head_fault file old (head_of line) ≡ Some fault

abbrev pub MayRefuseLines : FoundParts → ℕ → List (List ℕ) → FolderFault → Type 0
MayRefuseLines old file lines OutOfMemory = Unit {0}
MayRefuseLines old file lines fault = RefusesLines old file lines fault

-- the file of this number is read next
abbrev pub at_file : ℕ → ℕ → ℕ → FoundParts → FoundParts
at_file file torn stray found =
    record { lines = found.lines; files = file; words = found.words; torn = torn; stray = stray }

-- what is found with it, by its bytes, and why it can be refused
pub record IsTaken (old : FoundParts) (file : ℕ) (bytes : List ℕ) (new : FoundParts) : Type 0 where
  pub lines : List (List ℕ)
  pub torn : ℕ
  pub stray : ℕ
  pub sound : IsSound bytes lines torn stray
  pub taken : HasLinesOf (at_file file torn stray old) file lines new

pub record HasBadHead (old : FoundParts) (file : ℕ) (bytes : List ℕ) (fault : FolderFault) : Type 0 where
  pub lines : List (List ℕ)
  pub torn : ℕ
  pub stray : ℕ
  pub sound : IsSound bytes lines torn stray
  pub refused : RefusesLines (at_file file torn stray old) file lines fault

abbrev pub MayRefuse : FoundParts → ℕ → List ℕ → FolderFault → Type 0
MayRefuse old file bytes (Damaged f line at) = (f ≡ file) × IsDamagedAt bytes line at
MayRefuse old file bytes OutOfMemory = Unit {0}
MayRefuse old file bytes fault = HasBadHead old file bytes fault

-- what is found of files with these bytes, of which the last one stands first
abbrev pub AreFound : List (List ℕ) → FoundParts → Type 0
AreFound [] found = found ≡ none_found
AreFound (bytes ∷ earlier) found =
    (before : FoundParts) × AreFound earlier before × IsTaken before (length earlier + 1) bytes found

-- what is found of so many files
abbrev pub IsFoundOf : ℕ → FoundParts → Type 0
IsFoundOf count found = (files : List (List ℕ)) × AreFound files found × (length files ≡ count)

-- a folder that can't be listed, or there is no memory for its journals' names
abbrev pub IsUnlisted : FolderFault → Type 0
IsUnlisted NoFolder = Unit {0}
IsUnlisted OutOfMemory = Unit {0}
IsUnlisted fault = ⊥

-- a file that isn't there or can't be read, or there is no memory for it
abbrev pub IsUnread : FolderFault → Type 0
IsUnread (Gone file) = Unit {0}
IsUnread (CantRead file) = Unit {0}
IsUnread OutOfMemory = Unit {0}
IsUnread fault = ⊥

-- a file that can't be gone on with, by its bytes and those of the files before it; or one that isn't read
abbrev pub MayBreak : FolderFault → Type 0
MayBreak fault = (earlier : List (List ℕ)) × (found : FoundParts) × (bytes : List ℕ) × AreFound earlier found
    × MayRefuse found (length earlier + 1) bytes fault

abbrev pub IsRefused : FolderFault → Type 0
IsRefused (Gone file) = Unit {0}
IsRefused (CantRead file) = Unit {0}
IsRefused OutOfMemory = Unit {0}
IsRefused fault = MayBreak fault

-- so many files were read, whose heads have other words than these
abbrev pub HasOtherWords : ℕ → List ℕ → FolderFault → Type 0
HasOtherWords count words fault =
    (found : FoundParts) × IsFoundOf count found × (other_words found.words words ≡ true)
    × (fault ≡ OtherWords found.files)

-- what is found of so many files whose heads have these words, or why they can't be gone on with
abbrev pub IsFoundUnder : ℕ → List ℕ → Result FoundParts FolderFault → Type 0
IsFoundUnder count words (Ok found) = IsFoundOf count found × (other_words found.words words ≡ false)
IsFoundUnder count words (Err fault) = IsRefused fault ⊎ HasOtherWords count words fault
