-- The seats of the callers of a day.
use Rattle.std.specs.Prelude.{ℕ, Option, option_map}
use Rattle.exec_collector.specs.Seats.{Seat}

-- the parts of a caller's own seat, if it has one
abbrev pub own_parts : Option Seat → Option ℕ
own_parts seat = option_map (λ s. s.parts) seat
