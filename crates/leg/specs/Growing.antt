-- Lists that grow at their end.
use Rattle.std.specs.Prelude.{◌≡◌, List, ◌++◌}

-- what was there stands, with more behind it or nothing
abbrev pub Grew : {A : Type 0} → List A → List A → Type 0
Grew old new = (more : List _) × (new ≡ old ++ more)
