-- What a book of slips and the holder of slips own.
-- The book's list is a chain of cells that starts at its name. A cell names, for good, one slip and the next cell. The
-- book owns the chain, and one half of each slip. Who holds a slip owns the other half, and knows the way to its cell.
use Rattle.std.specs.Prelude.{ℕ, zero, suc, List, [], ◌∷◌, ◌++◌, IsPermutation}
use base.Stored.{Gv, gnil, gnum, gcons}
use base.Fml.{Fml, ftrue, fsep, fex, fobs, fauth, fres}

-- these items are in this list, each in another place
pub record AreOf {T : Type 0} (held given : List T) : Type 0 where
  pub rest : List T
  pub all : IsPermutation given (held ++ rest)

-- what a cell names: its slip, and the next cell
unfoldable pub link : ℕ × ℕ → Gv
link c = gcons (gnum c.0) (gnum c.1)

-- what a slip says: its item, and a mark, which is 0 while the slip is out
unfoldable pub entry : {T : Type 0} → (T → Gv) → T × ℕ → Gv
entry code slip = gcons (code slip.0) (gnum slip.1)

-- slips for these items, all of them out
abbrev pub all_out : {T : Type 0} → List T → List (T × ℕ)
all_out [] = []
all_out (item ∷ items) = (item, 0) ∷ all_out items

module _ {T : Type 0} (code : T → Gv) where
  -- the cell at γ, where the rest begins at the next cell
  abbrev pub cell : ℕ → T × ℕ → (ℕ → Fml) → ℕ × ℕ → Fml
  cell γ slip rest c = fsep (fauth γ (link c)) (fsep (fres γ (link c)) (fsep (fauth c.0 (entry code slip)) (rest c.1)))

  -- a chain from γ, whose last cell names nothing yet
  abbrev pub chain : List (T × ℕ) → ℕ → Fml
  chain [] γ = fsep (fobs γ gnil) (fauth γ gnil)
  chain (slip ∷ slips) γ = fex (ℕ × ℕ) (cell γ slip (chain slips))

  -- it is known what the cell at γ names, and more of that
  abbrev pub past : ℕ → (ℕ × ℕ → Fml) → ℕ × ℕ → Fml
  past γ more c = fsep (fres γ (link c)) (more c)

  -- the holder's half of the slip at a place of the chain from γ
  abbrev pub half : ℕ → T × ℕ → ℕ → Fml
  half zero slip γ = fex (ℕ × ℕ) (past γ (λ c. fobs c.0 (entry code slip)))
  half (suc place) slip γ = fex (ℕ × ℕ) (past γ (λ c. half place slip c.1))

  unfoldable pub book_owns : ℕ → List T → Fml
  book_owns name given = chain (all_out given) name

  -- a slip for this item, at some place
  abbrev pub one_slip : ℕ → T → Fml
  one_slip name item = fex ℕ (λ place. half place (item, 0) name)

  abbrev pub each_slip : ℕ → List T → Fml
  each_slip name [] = ftrue
  each_slip name (item ∷ items) = fsep (one_slip name item) (each_slip name items)

  unfoldable pub slips_own : ℕ → List T → Fml
  slips_own name held = each_slip name held
