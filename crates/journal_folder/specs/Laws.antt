-- The head of a file reads back.
use Rattle.std.specs.Prelude.{◌≡◌, ℕ, ◌≤◌, List, Some}
use Rattle.journal_folder.specs.Head.{head_of, head_text}

-- the head that is written of a file says the file's number, how many lines count before it, and the journal's words
abbrev pub HeadsReadBack : Type 0
HeadsReadBack =
    (file after : ℕ) (words : List ℕ) → file ≤ 999999999999 → after ≤ 999999999999
    → head_of (head_text file after words) ≡ Some (file, after, words)
