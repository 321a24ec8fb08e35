-- A script of a day, line by line: its first line, and what each line behind it says.
use Rattle.std.specs.Prelude.{ℕ, suc, List, [], ◌∷◌, length, Option, Some, None, Result, Ok, Err, if◌then◌else◌}
use Rattle.std.specs.Option.{option_map}
use Rattle.schedule.specs.Script.{ScriptHead, head_of_words, is_passed_over, lines_of, words_of}
use Rattle.script.specs.declared.day_event.DayEvent.{DayEvent}
use Rattle.script.specs.Crash.{day_event_of_words}

-- what a line behind the first says: nothing where it is passed over, or what happens, or none where it is bad
abbrev pub day_said_by : ℕ → List ℕ → Option (Option DayEvent)
day_said_by venues line =
    if is_passed_over line then Some None
    else option_map (λ event. Some event) (day_event_of_words venues (words_of line))

-- the first line's head, and the lines behind it, of which the first has this number
pub record BegunScript : Type 0 where
  pub head : ScriptHead
  pub number : ℕ
  pub lines : List (List ℕ)

abbrev pub begun_behind : ℕ → List (List ℕ) → Option ScriptHead → Result BegunScript ℕ
begun_behind number lines None = Err number
begun_behind number lines (Some head) = Ok (record { head = head; number = suc number; lines = lines })

-- blank lines and remarks may stand before the first line; where it is missing, the fault is one above the last line
abbrev pub begun_of_lines : ℕ → List (List ℕ) → Result BegunScript ℕ
begun_of_lines number [] = Err number
begun_of_lines number (line ∷ lines) =
    if is_passed_over line then begun_of_lines (suc number) lines
    else begun_behind number lines (head_of_words (words_of line))

abbrev pub begun_of : List ℕ → Result BegunScript ℕ
begun_of text = begun_of_lines 1 (lines_of text)

-- the first bad one of lines, of which the first has this number
abbrev pub bad_here : ℕ → Option (Option DayEvent) → Option ℕ → Option ℕ
bad_here number None behind = Some number
bad_here number (Some said) behind = behind

abbrev pub bad_line : ℕ → ℕ → List (List ℕ) → Option ℕ
bad_line venues number [] = None
bad_line venues number (line ∷ lines) =
    bad_here number (day_said_by venues line) (bad_line venues (suc number) lines)

-- the first bad line of a text, if one is bad: else it is a script
abbrev pub bad_behind : Result BegunScript ℕ → Option ℕ
bad_behind (Err number) = Some number
bad_behind (Ok begun) = bad_line (length begun.head.venues) begun.number begun.lines

abbrev pub bad_line_of : List ℕ → Option ℕ
bad_line_of text = bad_behind (begun_of text)
