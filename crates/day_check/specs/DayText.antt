-- What is printed of the sweeps and of the sentences of a day.
use Rattle.std.specs.Prelude.{ℕ, zero, suc, ◌+◌, List, [], ◌∷◌, ◌++◌, length, codes, decimal, Option, Some, None}
use Rattle.leg.specs.declared.sweep.Routed.{Routed}
use Rattle.log_legs.specs.LegLine.{sweep_line}
use Rattle.log_legs.specs.declared.sweep_sums.SweepTotals.{SweepTotals}
use Rattle.day_rules.specs.DeskDay.{DeskParts}
use Rattle.day_rules.specs.Sentence.{sentence_advice, sentence_name, sentence_text}
use Rattle.day_rules.specs.Sweeps.{sweep_sums}
use Rattle.day_rules.specs.VenueDay.{VenueParts}
use Rattle.day_rules.specs.declared.sentence.Sentence.{Sentence}

-- a sentence that no line breaks, as `sentence order holds`
abbrev pub verdict_line : Sentence → List ℕ → List ℕ
verdict_line says verdict = codes "sentence " ++ sentence_name says ++ codes " " ++ verdict ++ 10 ∷ []

-- one that a line breaks, the line, and what to do
abbrev pub broken_lines : Sentence → List ℕ → ℕ → List ℕ → List ℕ
broken_lines says path number line =
    codes "sentence " ++ sentence_name says ++ codes " broken " ++ path ++ codes " line " ++ decimal number
    ++ codes ": " ++ sentence_text says ++ codes "\n  " ++ line ++ codes "\n  " ++ sentence_advice says ++ 10 ∷ []

-- the line of the sweep at a place, of which the first has number 1
abbrev pub line_of_sums : ℕ → Option SweepTotals → List ℕ
line_of_sums place None = []
line_of_sums place (Some sums) = sweep_line (place + 1) sums

-- the lines of the first sweeps, so many of them
abbrev pub sweeps_upto : List VenueParts → List (List Routed) → ℕ → List ℕ
sweeps_upto venues sweeps zero = []
sweeps_upto venues sweeps (suc n) =
    sweeps_upto venues sweeps n ++ line_of_sums n (sweep_sums venues sweeps n)

-- the lines of the sweeps that were placed
abbrev pub sweeps_text : List VenueParts → DeskParts → List ℕ
sweeps_text venues d = sweeps_upto venues d.intake.sweeps (length d.intake.sweeps)
