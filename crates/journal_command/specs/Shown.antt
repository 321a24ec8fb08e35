-- What is printed of a journal.
use Rattle.std.specs.Prelude.{ℕ, ◌+◌, Bool, true, false, ◌&&◌, List, [], ◌∷◌, ◌++◌, length, Option, Some, None, decimal, codes, ◌==◌, if◌then◌else◌}
use Rattle.journal_folder.specs.Found.{FoundParts}
use Rattle.journal_folder.specs.declared.fault.FolderFault.{FolderFault}
use Rattle.journal_folder.specs.declared.fault.FolderFault.TheVariants.{Gone, Damaged, NoHead, LinesGone, OtherWords}

-- the line with its name
abbrev pub title_text : List ℕ → List ℕ
title_text name = codes "journal " ++ name ++ 10 ∷ []

-- the line with the words of its heads, if there are any
abbrev pub words_text : Option (List ℕ) → List ℕ
words_text None = []
words_text (Some words) = codes "words " ++ words ++ 10 ∷ []

-- its lines, each with its number
abbrev pub line_shown : ℕ → List ℕ → List ℕ
line_shown number line = codes "line " ++ decimal number ++ 32 ∷ line ++ 10 ∷ []

abbrev pub lines_shown : ℕ → List (List ℕ) → List ℕ
lines_shown number [] = []
lines_shown number (line ∷ lines) = line_shown number line ++ lines_shown (number + 1) lines

abbrev pub lines_asked : Bool → List (List ℕ) → List ℕ
lines_asked true lines = lines_shown 1 lines
lines_asked false lines = []

-- whether nothing is behind its lines
abbrev pub is_whole : FoundParts → Bool
is_whole found = (found.torn == 0) && (found.stray == 0)

-- the line on its end, where it can be gone on with
abbrev pub whole_text : ℕ → ℕ → List ℕ
whole_text files lines = codes "end whole files " ++ decimal files ++ codes " lines " ++ decimal lines ++ codes "\n"

abbrev pub torn_text : ℕ → ℕ → ℕ → ℕ → List ℕ
torn_text files lines torn stray = codes "end torn files " ++ decimal files ++ codes " lines " ++ decimal lines
    ++ codes " bytes " ++ decimal torn ++ codes " stray " ++ decimal stray ++ codes "\n"

abbrev pub end_text : FoundParts → List ℕ
end_text found =
    if is_whole found then whole_text found.files (length found.lines)
    else torn_text found.files (length found.lines) found.torn found.stray

-- what was found of it
abbrev pub found_text : Bool → FoundParts → List ℕ
found_text tells found = words_text found.words ++ lines_asked tells found.lines ++ end_text found

-- the line on a fault for which it can't be gone on with
abbrev pub gone_text : ℕ → List ℕ
gone_text file = codes "broken file " ++ decimal file ++ codes " is gone\n"

abbrev pub damaged_text : ℕ → ℕ → ℕ → List ℕ
damaged_text file line at = codes "broken file " ++ decimal file ++ codes " is damaged at line " ++ decimal line
    ++ codes ", byte " ++ decimal at ++ codes "\n"

abbrev pub headless_text : ℕ → List ℕ
headless_text file = codes "broken file " ++ decimal file ++ codes " has no head of a journal\n"

abbrev pub short_text : ℕ → ℕ → ℕ → List ℕ
short_text file after found = codes "broken file " ++ decimal file ++ codes " follows " ++ decimal after
    ++ codes " lines, of which " ++ decimal found ++ codes " are there\n"

abbrev pub other_text : ℕ → List ℕ
other_text file = codes "broken file " ++ decimal file ++ codes " is of another day, desk or venue\n"

abbrev pub broken_text : FolderFault → Option (List ℕ)
broken_text (Gone file) = Some (gone_text file)
broken_text (Damaged file line at) = Some (damaged_text file line at)
broken_text (NoHead file) = Some (headless_text file)
broken_text (LinesGone file after found) = Some (short_text file after found)
broken_text (OtherWords file) = Some (other_text file)
broken_text other = None
