-- What the readers of a script answer, where they may want memory.
use Rattle.std.specs.Prelude.{◌≡◌, ℕ, Bool, false, List, [], ◌∷◌, ◌++◌, length, codes, Option, Some, None, Result, Ok, Err, if◌then◌else◌}
use Rattle.std.specs.Option.{option_map, option_to_list}
use Rattle.std.specs.Str.{bytes_eq}
use Rattle.leg.specs.declared.sweep.Routed.{Routed}
use Rattle.schedule.specs.declared.script_fault.ScriptFault.{ScriptFault}
use Rattle.schedule.specs.declared.script_fault.ScriptFault.TheVariants as fault
use Rattle.schedule.specs.declared.event.Event.{Event}
use Rattle.schedule.specs.Script.{ScriptHead, event_of_words, is_passed_over, words_of, ScriptParts, events_of_lines, legs_of_words, with_events}
use Rattle.script.specs.Lines.{LinesLeft}
use Rattle.script.specs.declared.line_fault.LineFault.{LineFault}
use Rattle.script.specs.declared.line_fault.LineFault.TheVariants.{Bad, OutOfMemory}

-- what a line says; or out of memory, where it says something
abbrev pub ReadsLine : {X : Type 0} → Option X → Result X LineFault → Type 0
ReadsLine None answer = answer ≡ Err Bad
ReadsLine (Some said) (Ok read) = read ≡ said
ReadsLine (Some said) (Err fault) = fault ≡ OutOfMemory

-- the legs behind a leg: none, or `+` and more legs
abbrev pub more_legs : List (List ℕ) → Option (List Routed)
more_legs [] = Some []
more_legs (plus ∷ words) = if bytes_eq plus (codes "+") then legs_of_words words else None

-- the legs of which the first is for this venue, if there is one
abbrev pub legs_from : Option (List ℕ) → List (List ℕ) → Option (List Routed)
legs_from None words = None
legs_from (Some venue) words = legs_of_words (venue ∷ words)

-- what a line says: nothing where it is passed over, an event, or none where it is bad
abbrev pub said_by : ℕ → List ℕ → Option (Option Event)
said_by venues line =
    if is_passed_over line then Some None else option_map (λ event. Some event) (event_of_words venues (words_of line))

-- the line's fault; or the events after the line, where no memory was refused for them
abbrev pub KeepsLine : ℕ → Option (Option Event) → Result (Unit {0}) ScriptFault → Bool → List Event → Bool → List Event
    → Type 0
KeepsLine number None answer was_refused before is_refused after = answer ≡ Err (fault.Line number)
KeepsLine number (Some said) answer was_refused before is_refused after =
    (answer ≡ Ok tt) × (is_refused ≡ false → (was_refused ≡ false) × (after ≡ before ++ option_to_list said))

-- what the text says, or its first bad line; or out of memory, where the text says something
abbrev pub ReadsScript : {X : Type 0} → Result X ℕ → Result X ScriptFault → Type 0
ReadsScript (Err line) answer = answer ≡ Err (fault.Line line)
ReadsScript (Ok said) (Ok read) = read ≡ said
ReadsScript (Ok said) (Err wanting) = wanting ≡ fault.OutOfMemory

-- a text's first bad line is this fault
abbrev pub IsBad : {X : Type 0} → Result X ℕ → ScriptFault → Type 0
IsBad (Err line) bad = bad ≡ fault.Line line
IsBad (Ok said) bad = ⊥

-- what the script is with this first line and the lines behind it, or the fault of the first line
abbrev pub ReadsHead : Result ScriptParts ℕ → Result ScriptHead ScriptFault → LinesLeft → Type 0
ReadsHead script (Ok head) left =
    script ≡ with_events head (events_of_lines (length head.venues) left.number left.lines)
ReadsHead script (Err bad) left = IsBad script bad
