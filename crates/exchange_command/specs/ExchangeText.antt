-- What `dispatch exchange` prints.
use Rattle.std.specs.Prelude.{ℕ, List, [], ◌∷◌, ◌++◌, codes, decimal}

-- that it listens on a port, as `listening on port 9001`
abbrev pub listening_text : ℕ → List ℕ
listening_text port = codes "listening on port " ++ decimal port ++ 10 ∷ []

-- how many orders it accepted, as `accepted 12`
abbrev pub accepted_text : ℕ → List ℕ
accepted_text accepted = codes "accepted " ++ decimal accepted ++ 10 ∷ []
