-- What the journal of a day was told, with the lives before.
use Rattle.std.specs.Prelude.{◌≡◌, ℕ, List, [], ◌∷◌, ◌++◌}
use Rattle.fix_tags.specs.Stamp.{StampParts}
use Rattle.journal_tape.specs.Told.{LinesTold}
use Rattle.journal_words.specs.declared.act.Act.TheVariants.{Broke}
use Rattle.journal_words.specs.Deed.{timed}
use Rattle.journal_words.specs.Deed.DeedSaid.{Acts}
use Rattle.journal_words.specs.Words.{deed_line}

-- the lines that counted before a life, and those that it was told
abbrev pub told_after : List (List ℕ) → LinesTold → LinesTold
told_after earlier told = record { kept = earlier ++ told.kept; unkept = told.unkept }

-- the line that says that the connection is gone
abbrev pub gone_line : StampParts → List ℕ
gone_line stamp = deed_line (timed stamp (Acts Broke))

-- a venue's journal goes on behind these lines: where there are some it was told that the connection is gone
abbrev pub GoesBehind : List (List ℕ) → LinesTold → Type 0
GoesBehind [] told = told ≡ record { kept = []; unkept = [] }
GoesBehind (line ∷ lines) told =
    (stamp : StampParts) × (told ≡ record { kept = line ∷ lines; unkept = gone_line stamp ∷ [] })
