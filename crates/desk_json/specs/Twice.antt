-- Whether an object of a body has a key twice. Keys are compared by their unescaped bytes.
use Rattle.std.specs.Prelude.{◌≡◌, ℕ, List, Some, IsSomeAnd}
use Rattle.json.specs.Json.{Json, document}
use Rattle.json.specs.Strict.{HasUniqueKeys}

-- an object of the JSON, at any depth, has a key twice
abbrev pub HasKeyTwice : List ℕ → Type 0
HasKeyTwice text = IsSomeAnd (document text) (λ json. ¬ HasUniqueKeys json)

-- no object of it has
abbrev pub HasKeysOnce : List ℕ → Type 0
HasKeysOnce text = (json : Json) → document text ≡ Some json → HasUniqueKeys json
