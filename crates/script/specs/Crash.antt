-- A crash in a script: which words say what is lost, and what a line of a day with crashes says.
use Rattle.std.specs.Prelude.{ℕ, ◌&&◌, List, [], ◌∷◌, length, codes, Option, Some, None, option_map, option_and_then, nat_le, if◌then◌else◌}
use Rattle.std.specs.Str.{bytes_eq}
use Rattle.schedule.specs.declared.event.Event.{Event}
use Rattle.schedule.specs.Script.{event_of_words, number_within}
use Rattle.world_restart.specs.Start.{Loss}
use Rattle.script.specs.declared.day_event.DayEvent.{DayEvent}
use Rattle.script.specs.declared.day_event.DayEvent.TheVariants.{Goes, Crash}

-- how many sweeps, or lines of a journal, are lost
abbrev pub lost_word : List ℕ → Option ℕ
lost_word word = number_within 0 999999999 word

abbrev pub lost_words : List (List ℕ) → Option (List ℕ)
lost_words [] = Some []
lost_words (word ∷ words) =
    option_and_then (λ first. option_map (λ rest. first ∷ rest) (lost_words words)) (lost_word word)

-- of one journal at least, and of no more than there are venues
abbrev pub few_lost : ℕ → List (List ℕ) → Option (List ℕ)
few_lost venues words = if nat_le 1 (length words) && nat_le (length words) venues then lost_words words else None

-- so many sweeps are lost, and the lines of the words behind `lines`
abbrev pub lines_lost : ℕ → ℕ → List (List ℕ) → Option Loss
lines_lost venues sweeps words =
    option_map (λ lines. record { sweeps = sweeps; lines = lines }) (few_lost venues words)

-- the words behind `sweeps`
abbrev pub sweeps_lost : ℕ → List (List ℕ) → Option Loss
sweeps_lost venues [] = None
sweeps_lost venues (number ∷ []) = option_map (λ sweeps. record { sweeps = sweeps; lines = [] }) (lost_word number)
sweeps_lost venues (number ∷ what ∷ words) =
    if bytes_eq what (codes "lines")
    then option_and_then (λ sweeps. lines_lost venues sweeps words) (lost_word number)
    else None

-- the words behind `lost`
abbrev pub loss_of_words : ℕ → List (List ℕ) → Option Loss
loss_of_words venues [] = None
loss_of_words venues (what ∷ words) =
    if bytes_eq what (codes "sweeps") then sweeps_lost venues words
    else (if bytes_eq what (codes "lines") then lines_lost venues 0 words else None)

-- the words behind `crash`
abbrev pub crash_of_words : ℕ → List (List ℕ) → Option Loss
crash_of_words venues [] = Some (record { sweeps = 0; lines = [] })
crash_of_words venues (lost ∷ words) = if bytes_eq lost (codes "lost") then loss_of_words venues words else None

-- a line behind the first: a crash, or an event of the world
abbrev pub goes : Option Event → Option DayEvent
goes event = option_map (λ e. Goes e) event

abbrev pub day_event_of_words : ℕ → List (List ℕ) → Option DayEvent
day_event_of_words venues [] = None
day_event_of_words venues (name ∷ words) =
    if bytes_eq name (codes "crash")
    then option_map (λ loss. Crash loss) (crash_of_words venues words)
    else goes (event_of_words venues (name ∷ words))
