-- Where a day's journal is kept.
use Rattle.std.specs.Prelude.{ℕ, Bool, List, ◌++◌, codes, drop, nat_eq, Option, Some, None, option_and_then, option_map, ◌==◌, if◌then◌else◌}
use Rattle.std.specs.List.{list_any, starts_with}
use Rattle.std.specs.Str.{bytes_eq}
use Rattle.desk_words.specs.Printable.{printable_of}
use Rattle.dialect.specs.Split.{parts_round}
use Rattle.desk_config.specs.declared.day.Day.{Day}
use Rattle.desk_config.specs.declared.journal.Durable.{Durable}
use Rattle.desk_config.specs.declared.journal.Durable.TheVariants.{Process, Power}
use Rattle.desk_config.specs.Day.{day_text}

-- what a journal outlives, by its name
abbrev pub durable_named : List ℕ → Option Durable
durable_named name =
    if bytes_eq name (codes "process") then Some Process
    else (if bytes_eq name (codes "power") then Some Power else None)

abbrev pub durable_text : Durable → List ℕ
durable_text Process = codes "process"
durable_text Power = codes "power"

-- whether a text has a `%`
abbrev pub has_percent : List ℕ → Bool
has_percent text = list_any (λ c. c == 37) text

-- what stands behind `%Y-%m-%d`, of what stands behind the `%`
abbrev pub behind_day : List ℕ → Option (List ℕ)
behind_day rest = if starts_with nat_eq rest (codes "Y-%m-%d") then Some (drop 7 rest) else None

-- what stands before `%Y-%m-%d` in a text, and what behind it, where this is its first `%`
abbrev pub round_day : List ℕ × List ℕ → Option (List ℕ × List ℕ)
round_day parts = option_map (λ behind. (parts.0, behind)) (behind_day parts.1)

unfoldable pub day_parts : List ℕ → Option (List ℕ × List ℕ)
day_parts text = option_and_then round_day (parts_round 37 text)

-- whether a text has a `%` outside of one `%Y-%m-%d`
abbrev pub stray_by : List ℕ → Option (List ℕ × List ℕ) → Bool
stray_by text None = has_percent text
stray_by text (Some parts) = has_percent parts.1

abbrev pub has_stray_percent : List ℕ → Bool
has_stray_percent text = stray_by text (day_parts text)

-- the name of a folder in which `%Y-%m-%d` may stand once
abbrev pub pattern_of : List ℕ → Option (List ℕ)
pattern_of text = if has_stray_percent text then None else printable_of 200 text

-- the folder of a day: its date in the place of `%Y-%m-%d`
abbrev pub folder_by : List ℕ → Day → Option (List ℕ × List ℕ) → List ℕ
folder_by text day None = text
folder_by text day (Some parts) = parts.0 ++ (day_text day ++ parts.1)

abbrev pub folder_on : List ℕ → Day → List ℕ
folder_on text day = folder_by text day (day_parts text)
