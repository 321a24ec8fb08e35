-- Which venues have a password.
use Rattle.std.specs.Prelude.{◌↔◌, ℕ, List, [], ◌∷◌, Option, IsSome}
use Rattle.desk_config.specs.declared.venue.Venue.{Venue}

-- a venue has a password if it names a file
abbrev pub HasItsPassword : Venue → Option (List ℕ) → Type 0
HasItsPassword venue secret = IsSome secret ↔ IsSome venue.password_file

-- so does each of these, in order
abbrev pub HaveTheirPasswords : List Venue → List (Option (List ℕ)) → Type 0
HaveTheirPasswords [] [] = Unit {0}
HaveTheirPasswords [] (secret ∷ secrets) = ⊥
HaveTheirPasswords (venue ∷ venues) [] = ⊥
HaveTheirPasswords (venue ∷ venues) (secret ∷ secrets) = HasItsPassword venue secret × HaveTheirPasswords venues secrets
