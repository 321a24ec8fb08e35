-- A text in two parts.
use Rattle.std.specs.Prelude.{ℕ, ◌+◌, List, [], take, drop, position, Option, Some, None, ◌==◌}

-- a text in two at a place, of which the byte there is dropped
abbrev pub parted_at : List ℕ → Option ℕ → List ℕ × List ℕ
parted_at text None = (text, [])
parted_at text (Some at) = (take at text, drop (at + 1) text)

-- what stands before the first such byte, and what stands behind it: nothing where there is none
abbrev pub parts_at : ℕ → List ℕ → List ℕ × List ℕ
parts_at byte text = parted_at text (position (λ c. c == byte) text)
