-- A text in two parts.
use Rattle.std.specs.Prelude.{ℕ, ◌+◌, List, take, drop, position, Option, ◌==◌}
use Rattle.std.specs.Option.{option_map}

-- what stands before the first such byte and what stands after it, where there is one
abbrev pub parts_round : ℕ → List ℕ → Option (List ℕ × List ℕ)
parts_round byte text = option_map (λ at. (take at text, drop (at + 1) text)) (position (λ c. c == byte) text)
