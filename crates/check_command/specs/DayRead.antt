-- What the logs of a day come to, and what is printed of it.
use Rattle.std.specs.Prelude.{ℕ, Bool, true, false, ◌||◌, List, [], ◌∷◌, ◌++◌, codes}
use Rattle.day_rules.specs.DeskDay.{DeskParts}
use Rattle.day_rules.specs.Judged.{judged}
use Rattle.day_rules.specs.VenueDay.{VenueParts}
use Rattle.day_rules.specs.declared.judged.SentenceVerdict.{SentenceVerdict}
use Rattle.day_rules.specs.declared.judged.SentenceVerdict.TheVariants.{Holds, BrokenAt, Unjudged}
use Rattle.day_rules.specs.declared.sentence.Sentence.{Sentence}
use Rattle.day_rules.specs.declared.sentence.Sentence.TheVariants as sentence
use Rattle.day_check.specs.DayText.{broken_lines, sweeps_text, verdict_line}
use Rattle.day_check.specs.LogText.{path_line}
use Rattle.day_check.specs.Shown.{line_shown}
use Rattle.day_check.specs.declared.form.Form.{Form}
use Rattle.check_command.specs.PathName.{place_line, place_path}

-- the logs of venues, with their paths, and that of the desk's lines
pub record DayRead : Type 0 where
  pub form : Form
  pub paths : List (List ℕ)
  pub venues : List VenueParts
  pub path : List ℕ
  pub desk : DeskParts

-- a sentence that was told, and the line that was read where one breaks it
pub record Told : Type 0 where
  pub sentence : Sentence
  pub line : List ℕ

abbrev pub is_broken_by : SentenceVerdict → Bool
is_broken_by (BrokenAt place) = true
is_broken_by verdict = false

-- what is printed of a sentence, of logs of this form, with these paths of those of venues and this one of the desk's
abbrev pub verdict_text : Form → List (List ℕ) → List ℕ → Told → SentenceVerdict → List ℕ
verdict_text form paths path told Holds = verdict_line told.sentence (codes "holds")
verdict_text form paths path told Unjudged = verdict_line told.sentence (codes "not judged")
verdict_text form paths path told (BrokenAt place) =
    broken_lines told.sentence (place_path paths path place) (place_line place) (line_shown form told.line)

-- what is printed of sentences, of which the last one stands first
abbrev pub told_text : DayRead → List Told → List ℕ
told_text d [] = []
told_text d (told ∷ earlier) =
    told_text d earlier ++ verdict_text d.form d.paths d.path told (judged d.desk d.venues told.sentence)

-- whether one of them is broken
abbrev pub any_broken_by : DayRead → List Told → Bool
any_broken_by d [] = false
any_broken_by d (told ∷ earlier) = any_broken_by d earlier || is_broken_by (judged d.desk d.venues told.sentence)

-- the sentences that were told, before others
abbrev pub told_before : List Told → List Sentence → List Sentence
told_before [] sentences = sentences
told_before (told ∷ earlier) sentences = told_before earlier (told.sentence ∷ sentences)

-- all of them, in their order
abbrev pub all_sentences : List Sentence
all_sentences =
    sentence.Placed ∷ sentence.Order ∷ sentence.Gaps ∷ sentence.Close ∷ sentence.Settled ∷ sentence.Reports
    ∷ sentence.Shares ∷ []

-- the path of the desk's log, what became of each sweep, and each sentence
abbrev pub day_text : DayRead → List Told → List ℕ
day_text d told = path_line d.path ++ sweeps_text d.venues d.desk ++ told_text d told
