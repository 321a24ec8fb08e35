-- The events that were read so far.
use Rattle.std.proofs.Common.{◌≡◌, ℕ, suc, Bool, true, false, List, [], ◌∷◌, ◌++◌, Option, Some, None, refl, sym, ap, ◌∙◌, append_assoc, inl, inr}
use Rattle.std.specs.Prelude.{Result, Ok, Err, if◌then◌else◌}
use Rattle.std.specs.Option.{option_map, option_to_list}
use Rattle.schedule.specs.declared.event.Event.{Event}
use Rattle.schedule.specs.declared.script_fault.ScriptFault.{ScriptFault}
use Rattle.schedule.specs.declared.script_fault.ScriptFault.TheVariants as fault
use Rattle.schedule.specs.Script.{event_of_words, events_of_lines, is_passed_over, with_event, words_of}
use Rattle.script.specs.Reading.{KeepsLine, said_by}

abbrev pub onto : List Event → Result (List Event) ℕ → Result (List Event) ℕ
onto front (Ok events) = Ok (front ++ events)
onto front (Err line) = Err line

-- the first bad line, if there is one
abbrev pub bad_line : Result (List Event) ℕ → Option ℕ
bad_line (Ok events) = None
bad_line (Err line) = Some line

-- what is left has the bad line of the whole; and where no memory was refused, the whole is what was read and what is left
pub record EventsSoFar (is_refused : Bool) (front : List Event) (left whole : Result (List Event) ℕ) : Type 0 where
  pub line : bad_line left ≡ bad_line whole
  pub read : is_refused ≡ false → onto front left ≡ whole

-- a line, by what it says
abbrev pub by_line : ℕ → Option (Option Event) → Result (List Event) ℕ → Result (List Event) ℕ
by_line number None later = Err number
by_line number (Some said) later = onto (option_to_list said) later

onto_none : (left : Result (List Event) ℕ) → onto [] left ≡ left
onto_none (Ok events) = refl
onto_none (Err line) = refl

by_event : (number : ℕ) (event : Option Event) (later : Result (List Event) ℕ)
    → with_event number event later ≡ by_line number (option_map (λ e. Some e) event) later
by_event number None later = refl
by_event number (Some event) (Ok events) = refl
by_event number (Some event) (Err line) = refl

by_test : (number : ℕ) (is_over : Bool) (event : Option Event) (later : Result (List Event) ℕ)
    → (if is_over then later else with_event number event later) ≡ by_line number (if is_over then Some None else option_map (λ e. Some e) event) later
by_test number true event later = sym (onto_none later)
by_test number false event later = by_event number event later

pub events_by_line : (venues number : ℕ) (line : List ℕ) (lines : List (List ℕ))
    → events_of_lines venues number (line ∷ lines) ≡ by_line number (said_by venues line) (events_of_lines venues (suc number) lines)
events_by_line venues number line lines =
    by_test number (is_passed_over line) (event_of_words venues (words_of line)) (events_of_lines venues (suc number) lines)

onto_onto : (front more : List Event) (left : Result (List Event) ℕ) → onto front (onto more left) ≡ onto (front ++ more) left
onto_onto front more (Ok events) = ap Ok (sym (append_assoc front more events))
onto_onto front more (Err line) = refl

line_onto : (front : List Event) (left : Result (List Event) ℕ) → bad_line (onto front left) ≡ bad_line left
line_onto front (Ok events) = refl
line_onto front (Err line) = refl

-- after a good line
pub line_read : (was_refused is_refused : Bool) (front after : List Event) (number : ℕ) (said : Option (Option Event)) (answer : Result (Unit {0}) ScriptFault)
    (left now whole : Result (List Event) ℕ) → left ≡ by_line number said now → answer ≡ Ok tt
    → KeepsLine number said answer was_refused front is_refused after
    → EventsSoFar was_refused front left whole → EventsSoFar is_refused after now whole
line_read was_refused is_refused front after number None answer left now whole e ok keeps so_far =
    let wrong : Ok tt ≡ Err (fault.Line number) = sym ok ∙ keeps in absurd cc
line_read was_refused is_refused front after number (Some said) answer left now whole e ok keeps so_far = record {
  line = sym (line_onto (option_to_list said) now) ∙ ap bad_line (sym e) ∙ so_far.line;
  read = λ kept.
      ap (λ (f : List Event). onto f now) (keeps.1 kept).1 ∙ sym (onto_onto front (option_to_list said) now)
      ∙ ap (onto front) (sym e) ∙ so_far.read (keeps.1 kept).0;
}

-- the next line, and those behind it
pub next_line : (venues number line_number number_behind : ℕ) (line : List ℕ) (lines behind : List (List ℕ))
    → lines ≡ line ∷ behind → line_number ≡ number → number_behind ≡ suc number
    → events_of_lines venues number lines ≡ by_line line_number (said_by venues line) (events_of_lines venues number_behind behind)
next_line venues number line_number number_behind line lines behind e same next =
    ap (events_of_lines venues number) e ∙ events_by_line venues number line behind
    ∙ ap (λ (n : ℕ). by_line n (said_by venues line) (events_of_lines venues (suc number) behind)) (sym same)
    ∙ ap (λ (n : ℕ). by_line line_number (said_by venues line) (events_of_lines venues n behind)) (sym next)
