-- The seats on which a day counts what is placed.
use Rattle.std.specs.Prelude.{ℕ, Option, Some, None}

-- the parts of the seat on which the clients of a page count: one, where there is a page
abbrev pub shared_parts : {A : Type 0} → Option A → ℕ
shared_parts None = 0
shared_parts (Some counter) = 1
