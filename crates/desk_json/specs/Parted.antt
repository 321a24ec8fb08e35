-- Texts of a list, parted by commas.
use Rattle.std.specs.Prelude.{ℕ, List, [], ◌∷◌, ◌++◌, codes}

-- each behind a mark: this one before the first, and a comma before each other
abbrev pub parted : {A : Type 0} → (A → List ℕ) → List ℕ → List A → List ℕ
parted text_of mark [] = []
parted text_of mark (item ∷ rest) = mark ++ text_of item ++ parted text_of (codes ",") rest
