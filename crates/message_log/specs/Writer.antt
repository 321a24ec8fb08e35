-- What is written of the lines that wait.
use Rattle.std.specs.Prelude.{ℕ, Bool, List, ◌∷◌, if◌then◌else◌}

-- lines behind a line that may have been torn
abbrev pub batch_text : Bool → List ℕ → List ℕ
batch_text is_torn lines = if is_torn then 10 ∷ lines else lines
