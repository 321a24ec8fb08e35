-- The lines that were told to a journal, and those of them that are kept.
use Rattle.std.specs.Prelude.{ℕ, Bool, List, [], ◌∷◌, ◌++◌, refl}
use Rattle.std.specs.List.{list_all}
use Rattle.journal_record.specs.Record.{is_line, lines_sum, lines_text}
use Rattle.std.specs.Coded.{Coded, code_by, coded×, coded_ℕ, coded_list}

-- the lines that are kept, in order, and those that were told since
pub record LinesTold : Type 0 where
  pub kept : List (List ℕ)
  pub unkept : List (List ℕ)

-- what ghost data of this type is kept as
abbrev pub told_coded : Coded LinesTold
told_coded = code_by (List (List ℕ) × List (List ℕ))
    (coded× (coded_list (coded_list coded_ℕ)) (coded_list (coded_list coded_ℕ))) (λ t. (t.kept, t.unkept))
    (λ p. record { kept = p.0; unkept = p.1 }) (λ t. refl)

-- none was told
abbrev pub no_lines : LinesTold
no_lines = record { kept = []; unkept = [] }

-- a line is told
abbrev pub with_line : List ℕ → LinesTold → LinesTold
with_line line told = record { kept = told.kept; unkept = told.unkept ++ line ∷ [] }

-- how many bytes a record has beside its line
abbrev pub beside_line : ℕ
beside_line = 10

-- all are kept
abbrev pub all_kept : LinesTold → LinesTold
all_kept told = record { kept = told.kept ++ told.unkept; unkept = [] }

-- the records of the lines that aren't kept
abbrev pub unkept_text : LinesTold → List ℕ
unkept_text told = lines_text (lines_sum 0 told.kept) told.unkept

-- whether each of these is a line
abbrev pub are_lines : List (List ℕ) → Bool
are_lines lines = list_all is_line lines
