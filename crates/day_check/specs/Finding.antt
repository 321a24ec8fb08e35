-- What is printed of a rule.
use Rattle.std.specs.Prelude.{ℕ, zero, suc, Bool, ◌&&◌, List, [], ◌∷◌, ◌++◌, codes, decimal, Option, Some, None, slice_get, ◌==◌, if◌then◌else◌}
use Rattle.day_rules.specs.VenueDay.{breaks}
use Rattle.log_rules.specs.declared.tally.Tally.{Tally}
use Rattle.log_rules.specs.declared.verdict.Verdict.{Verdict}
use Rattle.day_check.specs.Shown.{line_shown}
use Rattle.day_check.specs.declared.form.Form.{Form}
use Rattle.day_check.specs.declared.rule_words.RuleWords.{RuleWords}

-- the rule that the line of a number breaks
abbrev pub finding_head : RuleWords → ℕ → List ℕ
finding_head words number =
    codes "line " ++ decimal number ++ codes " " ++ words.name.now ++ codes ": " ++ words.asks.now ++ codes " ("
    ++ words.section.now ++ codes ")\n  "

-- and the line as it is shown, and what to do
abbrev pub finding_lines : RuleWords → ℕ → List ℕ → List ℕ
finding_lines words number shown = finding_head words number ++ shown ++ codes "\n  " ++ words.advice.now ++ 10 ∷ []

abbrev pub finding_if : Form → ℕ → List ℕ → Option RuleWords → Bool → List ℕ
finding_if form number line None broken = []
finding_if form number line (Some words) broken =
    if broken then finding_lines words number (line_shown form line) else []

-- a finding for each rule that a line breaks, of so many of the first rules
abbrev pub findings_upto : List RuleWords → Form → ℕ → List ℕ → List Verdict → ℕ → List ℕ
findings_upto words form number line said zero = []
findings_upto words form number line said (suc n) =
    findings_upto words form number line said n
    ++ finding_if form number line (slice_get words n) (breaks said n)

-- how often it was broken again, where it was
abbrev pub again_text : ℕ → List ℕ
again_text zero = []
again_text (suc n) = codes " again " ++ decimal (suc n)

-- how often a rule was held and broken
abbrev pub tally_line : List ℕ → Tally → List ℕ
tally_line name tally =
    if tally.held == 0 && tally.broken == 0 && tally.again == 0 then codes "rule " ++ name ++ codes " not seen\n"
    else codes "rule " ++ name ++ codes " held " ++ decimal tally.held ++ codes " broken "
    ++ decimal tally.broken ++ again_text tally.again ++ 10 ∷ []

abbrev pub tally_if : Option RuleWords → Option Tally → List ℕ
tally_if None tally = []
tally_if (Some words) None = []
tally_if (Some words) (Some tally) = tally_line words.name.now tally

-- a line for each rule, of so many of the first rules
abbrev pub summary_upto : List RuleWords → List Tally → ℕ → List ℕ
summary_upto words tallies zero = []
summary_upto words tallies (suc n) =
    summary_upto words tallies n ++ tally_if (slice_get words n) (slice_get tallies n)
