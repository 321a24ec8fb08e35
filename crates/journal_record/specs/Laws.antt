-- What was kept is read.
use Rattle.std.specs.Prelude.{◌≡◌, ◌≢◌, ◌≤◌, ℕ, true, List, [], ◌∷◌, ◌++◌, length, take}
use Rattle.journal_record.specs.declared.judging.TextEnd.{TextEnd}
use Rattle.journal_record.specs.declared.judging.TextEnd.TheVariants.{Damaged}
use Rattle.journal_record.specs.Record.{is_line}

-- lines that may be written
abbrev pub AreLines : List (List ℕ) → Type 0
AreLines [] = Unit {0}
AreLines (line ∷ lines) = (is_line line ≡ true) × AreLines lines

-- what is read are the lines that were kept and the first of those that were being written, and nothing is damaged
pub record ReadsKept (kept more lines : List (List ℕ)) (end : TextEnd) : Type 0 where
  pub count : ℕ
  pub some : count ≤ length more
  pub lines_are : lines ≡ kept ++ take count more
  pub sound : end ≢ Damaged
