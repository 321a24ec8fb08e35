-- Phrases, one behind the other.
use Rattle.std.specs.Prelude.{ℕ, List, [], ◌∷◌, ◌++◌, codes}

-- one more phrase behind what was said
abbrev pub also : List ℕ → List ℕ → List ℕ
also [] phrase = phrase
also (byte ∷ said) phrase = ((byte ∷ said) ++ codes "; ") ++ phrase

-- more phrases behind what was said
abbrev pub says : List ℕ → List (List ℕ) → List ℕ
says said [] = said
says said (phrase ∷ phrases) = says (also said phrase) phrases

-- groups of phrases behind what was said
abbrev pub says_all : List ℕ → List (List (List ℕ)) → List ℕ
says_all said [] = said
says_all said (phrases ∷ groups) = says_all (says said phrases) groups
