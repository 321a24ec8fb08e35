-- The lines by which a person halts the desk, pauses a venue, and frees them again.
use Rattle.std.specs.Prelude.{ℕ, List, Option, Some, None, drop, position, codes, nat_eq, option_map, if◌then◌else◌}
use Rattle.std.specs.List.{starts_with}
use Rattle.std.specs.Str.{bytes_eq}
use Rattle.desk_words.specs.Printable.{shown}
use Rattle.sweep_text.specs.declared.line_fault.LineFault.{LineFault}
use Rattle.sweep_text.specs.declared.line_fault.LineFault.TheVariants.{NoVenue}
use Rattle.desk_talk.specs.declared.hold.Hold.{Hold}
use Rattle.desk_talk.specs.declared.hold.Hold.TheVariants.{Halt, Resume, Pause, Unpause}

-- the venue of a name: its place
abbrev pub venue_of : List (List ℕ) → List ℕ → Option ℕ
venue_of names word = position (λ name. bytes_eq name word) names

-- what a line asks of one venue, if it does
abbrev pub venue_hold : List (List ℕ) → List ℕ → Option Hold
venue_hold names line =
    if starts_with nat_eq line (codes "pause ") then option_map (λ v. Pause v) (venue_of names (drop 6 line))
    else (if starts_with nat_eq line (codes "resume ") then option_map (λ v. Unpause v) (venue_of names (drop 7 line))
    else None)

-- what a line asks to be held or freed, over these names of venues, if it does
abbrev pub hold_of : List (List ℕ) → List ℕ → Option Hold
hold_of names line =
    if bytes_eq line (codes "halt") then Some Halt
    else (if bytes_eq line (codes "resume") then Some Resume
    else venue_hold names line)

-- what is wrong with a line that asks something of a venue, where the desk has none of that name
abbrev pub no_venue : List ℕ → Option LineFault
no_venue word = Some (NoVenue (shown 200 word))

abbrev pub hold_fault : List ℕ → Option LineFault
hold_fault line =
    if starts_with nat_eq line (codes "pause ") then no_venue (drop 6 line)
    else (if starts_with nat_eq line (codes "resume ") then no_venue (drop 7 line)
    else None)
