-- What the desk's journal has kept, each time the lock is free.
use Rattle.std.specs.Prelude.{◌≡◌, ℕ, suc, List, [], ◌∷◌, Option, Some, None, Result, Ok}
use Rattle.fix_tags.specs.Stamp.{StampParts}
use Rattle.sweep_release.specs.History.{KeptDesk}
use Rattle.journal_tape.specs.Told.{LinesTold}
use Rattle.journal_words.specs.Desk.{DeskSaid, desk_said}
use Rattle.journal_words.specs.Desk.DeskSaid.{Places}
use Rattle.journal_words.specs.declared.fault.WordsFault.{WordsFault}

-- the number of the sweep that a line says was placed, before others
abbrev pub number_before : Result (StampParts × DeskSaid) WordsFault → List ℕ → List ℕ
number_before (Ok (stamp, Places number line)) numbers = number ∷ numbers
number_before _ numbers = numbers

-- the numbers of the sweeps that lines say were placed, in order
abbrev pub placed_in : List (List ℕ) → List ℕ
placed_in [] = []
placed_in (line ∷ lines) = number_before (desk_said line) (placed_in lines)

-- so many numbers from this one on
abbrev pub numbers_from : {A : Type 0} → ℕ → List A → List ℕ
numbers_from first [] = []
numbers_from first (x ∷ xs) = first ∷ numbers_from (suc first) xs

-- no line is left to keep, and those kept say of each sweep of the desk that it was placed, once and in order
abbrev pub IsNoted : KeptDesk → Option LinesTold → Type 0
IsNoted desk None = Unit {0}
IsNoted desk (Some told) =
    (told.unkept ≡ []) × (placed_in told.kept ≡ numbers_from 1 desk.desk.sweeps)
