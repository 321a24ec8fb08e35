-- What is read of a text of lines.
use Rattle.std.specs.Prelude.{◌≡◌, ◌≢◌, ℕ, ◌+◌, Bool, true, false, List, [], ◌∷◌, ◌++◌, length, Option, Some, None, ◌==◌, if◌then◌else◌}
use Rattle.journal_record.specs.declared.damage.Damage.{Damage}
use Rattle.journal_record.specs.declared.judging.Judged.{Judged}
use Rattle.journal_record.specs.declared.judging.TextEnd.{TextEnd}
use Rattle.journal_record.specs.declared.judging.TextEnd.TheVariants.{Whole, Torn, Damaged}
use Rattle.journal_record.specs.Record.{marked, sum_after, lines_text, lines_sum}

-- the first line of a text, without its end, and what stands behind that; none where no line ends
abbrev pub with_front : ℕ → Option (List ℕ × List ℕ) → Option (List ℕ × List ℕ)
with_front c None = None
with_front c (Some parts) = Some (c ∷ parts.0, parts.1)

abbrev pub first_line : List ℕ → Option (List ℕ × List ℕ)
first_line [] = None
first_line (c ∷ cs) = if c == 10 then Some ([], cs) else with_front c (first_line cs)

-- a text that is read: what is left of it, how many lines and bytes were read, and the sum of those lines
pub record ReaderParts : Type 0 where
  pub rest : List ℕ
  pub lines : ℕ
  pub at : ℕ
  pub sum : ℕ

abbrev pub new_reader : List ℕ → ReaderParts
new_reader text = record { rest = text; lines = 0; at = 0; sum = 0 }

-- a line was read, and so much is left
abbrev pub behind_line : List ℕ → List ℕ → ReaderParts → ReaderParts
behind_line line rest r = record {
  rest = rest;
  lines = r.lines + 1;
  at = r.at + length (marked r.sum line) + 1;
  sum = sum_after r.sum line;
}

-- the next line of a text, if one ends there
abbrev pub IsNext : ReaderParts → Option (List ℕ) → ReaderParts → Type 0
IsNext old None new = (first_line old.rest ≡ None) × (new ≡ old)
IsNext old (Some line) new =
    (first_line old.rest ≡ Some (marked old.sum line, new.rest)) × (new ≡ behind_line line new.rest old)

-- a line ends there, and is the record of none behind lines of this sum
abbrev pub IsUnread : ℕ → List ℕ → Type 0
IsUnread sum text = (whole : List ℕ) × (rest : List ℕ) × (first_line text ≡ Some (whole, rest))
    × ((line : List ℕ) → whole ≢ marked sum line)

abbrev pub IsDamaged : ReaderParts → Damage → Type 0
IsDamaged r damage = IsUnread r.sum r.rest × (damage ≡ record { line = r.lines + 1; at = r.at })

-- whether a line is damaged
abbrev pub is_damaged : TextEnd → Bool
is_damaged Whole = false
is_damaged Torn = false
is_damaged Damaged = true

-- how a text goes on behind its lines, which have this sum
abbrev pub IsEnd : ℕ → List ℕ → TextEnd → Type 0
IsEnd sum rest Whole = rest ≡ []
IsEnd sum rest Torn = (rest ≢ []) × (first_line rest ≡ None)
IsEnd sum rest Damaged = IsUnread sum rest

-- no line ends within one of these
abbrev pub AreWhole : List (List ℕ) → Type 0
AreWhole [] = Unit {0}
AreWhole (line ∷ lines) = (first_line line ≡ None) × AreWhole lines

-- a text has these lines behind others of this sum, up to its end or to one that is damaged
pub record HasLines (sum : ℕ) (text : List ℕ) (lines : List (List ℕ)) (end : TextEnd) : Type 0 where
  pub rest : List ℕ
  pub text_is : text ≡ lines_text sum lines ++ rest
  pub whole : AreWhole lines
  pub end_is : IsEnd (lines_sum sum lines) rest end

-- and these are all of them, which take so many bytes
pub record HasAll (text : List ℕ) (lines : List (List ℕ)) (bytes : ℕ) (end : TextEnd) : Type 0 where
  pub has : HasLines 0 text lines end
  pub bytes_are : bytes ≡ length (lines_text 0 lines)

-- so many of its lines count, which end there
pub record IsJudged (text : List ℕ) (judged : Judged) : Type 0 where
  pub lines : List (List ℕ)
  pub all : HasAll text lines judged.bytes judged.end
  pub count : judged.lines ≡ length lines
