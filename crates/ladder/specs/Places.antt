-- Where things stand in a picture, in pixels from its upper left corner.
use Rattle.std.specs.Prelude.{ℕ, ◌+◌, ◌*◌, min}

-- the most slots and venues that are told apart
abbrev pub most_slots : ℕ
most_slots = 1_000_000_000

-- the middle of a slot
abbrev pub y_of : ℕ → ℕ
y_of slot = 90 + 20 * min slot most_slots

-- the life lines of a venue's session and its exchange
abbrev pub session_x : ℕ → ℕ
session_x venue = 700 + 880 * min venue most_slots

abbrev pub exchange_x : ℕ → ℕ
exchange_x venue = 900 + 880 * min venue most_slots
