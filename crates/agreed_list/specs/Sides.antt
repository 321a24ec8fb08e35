-- What the two sides of a list own: the two halves of one ghost variable, which holds the list.
use Rattle.std.specs.Prelude.{ℕ, List}
use base.Stored.{Gv, code_l}
use base.Fml.{Fml, fobs, fauth}

-- the book's half
unfoldable pub book_owns : {T : Type 0} → (T → Gv) → ℕ → List T → Fml
book_owns c name items = fauth name (code_l c items)

-- the seat's half
unfoldable pub seat_owns : {T : Type 0} → (T → Gv) → ℕ → List T → Fml
seat_owns c name items = fobs name (code_l c items)
