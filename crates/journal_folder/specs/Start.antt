-- What is left of a journal's files, and what a start finds of them.
use Rattle.std.specs.Prelude.{◌≡◌, ◌⊎◌, ℕ, ◌+◌, ◌≤◌, false, List, [], ◌∷◌, ◌++◌, length, take}
use Rattle.journal_record.specs.Record.{lines_sum, lines_text}
use Rattle.journal_record.specs.Laws.{AreLines}
use Rattle.journal_tape.specs.Tape.{IsBetween, text}
use Rattle.journal_folder.specs.Head.{head_text}
use Rattle.journal_folder.specs.Found.{AreFound, FoundParts, MayRefuse, other_words}
use Rattle.journal_folder.specs.declared.fault.FolderFault.{FolderFault}
use Rattle.journal_folder.specs.declared.fault.FolderFault.TheVariants.{OutOfMemory}

-- a tape on which these lines are kept, and these are being written behind them, leaves these bytes
pub record LeavesLines (kept unkept : List (List ℕ)) (bytes : List ℕ) : Type 0 where
  pub kept_lines : AreLines kept
  pub unkept_lines : AreLines unkept
  pub between : IsBetween (lines_text 0 kept) (lines_text (lines_sum 0 kept) unkept) (text bytes)

-- the head of a file that goes on behind these lines
abbrev pub head_behind_lines : List ℕ → ℕ → List (List ℕ) → List ℕ
head_behind_lines words file before = head_text file (length before) words

-- a file that goes on behind the lines kept before it: its head is being written, and the others are as they were; or
-- its head is kept, and lines behind it
abbrev pub IsFileLeft : List ℕ → ℕ → (before waiting : List (List ℕ)) → List ℕ → (kept unkept : List (List ℕ)) → Type 0
IsFileLeft words file before waiting bytes kept unkept =
    (LeavesLines [] (head_behind_lines words file before ∷ []) bytes × (kept ≡ before) × (unkept ≡ waiting))
    ⊎ ((mine : List (List ℕ)) × LeavesLines (head_behind_lines words file before ∷ mine) unkept bytes
    × (kept ≡ before ++ mine))

-- a file goes on behind the lines that are kept in the files before it, where those are being written, as in one life;
-- or behind all that were found of them, as in a later one
abbrev pub GoesBehind : List (List ℕ) → (kept unkept before waiting : List (List ℕ)) → Type 0
GoesBehind earlier kept unkept before waiting =
    ((before ≡ kept) × (waiting ≡ unkept))
    ⊎ ((found : FoundParts) × AreFound earlier found × (before ≡ found.lines) × (waiting ≡ []))

-- the files of a journal, of which the last one stands first, leave these bytes over lives and crashes: these lines of
-- it are kept, and these are being written
abbrev pub AreLeft : List ℕ → List (List ℕ) → (kept unkept : List (List ℕ)) → Type 0
AreLeft words [] kept unkept = (kept ≡ []) × (unkept ≡ [])
AreLeft words (bytes ∷ earlier) kept unkept =
    (old : List (List ℕ)) × (more : List (List ℕ)) × (before : List (List ℕ)) × (waiting : List (List ℕ))
    × AreLeft words earlier old more × GoesBehind earlier old more before waiting
    × (length earlier + 1 ≤ 999999999999) × (length before ≤ 999999999999)
    × IsFileLeft words (length earlier + 1) before waiting bytes kept unkept

-- found are the lines that are kept, and the first of those that were being written, under the journal's words
pub record FindsKept (words : List ℕ) (files kept unkept : List (List ℕ)) (found : FoundParts) : Type 0 where
  pub count : ℕ
  pub some : count ≤ length unkept
  pub lines_are : found.lines ≡ kept ++ take count unkept
  pub words_are : other_words found.words words ≡ false
  pub files_are : found.files ≡ length files

abbrev pub StartsFindKept : Type 0
StartsFindKept =
    (words : List ℕ) (files kept unkept : List (List ℕ)) (found : FoundParts)
    → AreLeft words files kept unkept → AreFound files found → FindsKept words files kept unkept found

-- none of them is refused
abbrev pub StartsRefuseNone : Type 0
StartsRefuseNone =
    (words bytes : List ℕ) (earlier : List (List ℕ)) (kept unkept : List (List ℕ)) (found : FoundParts)
    (fault : FolderFault) → AreLeft words (bytes ∷ earlier) kept unkept → AreFound earlier found
    → MayRefuse found (length earlier + 1) bytes fault → fault ≡ OutOfMemory
