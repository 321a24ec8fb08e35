-- How many sweeps were refused, by the reason, and the last of them.
use Rattle.std.specs.Prelude.{◌≡◌, ◌⊎◌, ℕ, ◌+◌, ◌-◌, ◌^◌, List, [], ◌∷◌, ◌++◌, length, drop, min, nat_le, Option, Some, None, if◌then◌else◌}
use Rattle.desk_answers.specs.declared.answer.Refusal.{Refusal}
use Rattle.desk_answers.specs.declared.answer.Refusal.TheVariants.{NoLegs, TooManyLegs, UnknownVenue, GateDown, BacklogFull, SweepsSpent, OutOfMemory, WrongBook, OtherLegs, NoReference, OverLimit}
use Rattle.order_limits.specs.declared.over.Over.{Over}
use Rattle.order_limits.specs.declared.over.Over.TheVariants.{LegShares, LegDollars, SweepDollars, DayDollars, OtherSymbol}
use Rattle.desk_floor.specs.declared.refusals.RefusedCounts.{RefusedCounts}

-- one more, up to the greatest number
abbrev pub raised : ℕ → ℕ
raised count = min (count + 1) (2 ^ 64 - 1)

-- a sweep more was over this limit
abbrev pub counted_over : RefusedCounts → Over → RefusedCounts
counted_over counts (LegShares symbol shares limit) = record counts { leg_shares = raised counts.leg_shares }
counted_over counts (LegDollars symbol dollars limit) = record counts { leg_dollars = raised counts.leg_dollars }
counted_over counts (SweepDollars dollars limit) = record counts { sweep_dollars = raised counts.sweep_dollars }
counted_over counts (DayDollars dollars limit) = record counts { day_dollars = raised counts.day_dollars }
counted_over counts (OtherSymbol symbol) = record counts { other_symbol = raised counts.other_symbol }

-- one more was refused for this reason; or for none, since the day was closing
abbrev pub counted : RefusedCounts → Option Refusal → RefusedCounts
counted counts None = record counts { closing = raised counts.closing }
counted counts (Some NoLegs) = record counts { no_legs = raised counts.no_legs }
counted counts (Some TooManyLegs) = record counts { too_many_legs = raised counts.too_many_legs }
counted counts (Some UnknownVenue) = record counts { unknown_venue = raised counts.unknown_venue }
counted counts (Some (GateDown venue)) = record counts { gate_down = raised counts.gate_down }
counted counts (Some (BacklogFull venue)) = record counts { backlog_full = raised counts.backlog_full }
counted counts (Some SweepsSpent) = record counts { sweeps_spent = raised counts.sweeps_spent }
counted counts (Some OutOfMemory) = record counts { out_of_memory = raised counts.out_of_memory }
counted counts (Some WrongBook) = record counts { wrong_book = raised counts.wrong_book }
counted counts (Some OtherLegs) = record counts { other_legs = raised counts.other_legs }
counted counts (Some NoReference) = record counts { no_reference = raised counts.no_reference }
counted counts (Some (OverLimit venue over)) = counted_over counts over

-- the last refusals, where so many are kept at most
abbrev pub room_made : ℕ → List (Option Refusal) → List (Option Refusal)
room_made most last = if nat_le most (length last) then drop 1 last else last

-- one more is kept, where there is memory
abbrev pub KeepsLast : ℕ → Option Refusal → List (Option Refusal) → List (Option Refusal) → Type 0
KeepsLast most refusal old new = (new ≡ room_made most old ++ refusal ∷ []) ⊎ (new ≡ room_made most old)

-- the last so many of them
abbrev pub last_of : ℕ → List (Option Refusal) → List (Option Refusal)
last_of count refusals = drop (length refusals - count) refusals
