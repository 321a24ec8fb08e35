-- The values of a field, while the fields of a head are gone through.
use Rattle.std.proofs.Common.{ℕ, List, [], ◌∷◌, Option, Some, None}
use Rattle.std.specs.Borrow.{Bor}

-- the values that were found
abbrev pub found_in : Option (Bor (List ℕ)) → List (List ℕ)
found_in None = []
found_in (Some value) = value.now ∷ []
