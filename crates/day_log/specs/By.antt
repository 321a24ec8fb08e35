-- Who did something, as a remark in the log of a desk's lines has it.
use Rattle.std.specs.Prelude.{ℕ, List, ◌++◌, codes}

-- as `by alice`, or `close by alice`
abbrev pub by_text : List ℕ → List ℕ → List ℕ
by_text what user = what ++ codes "by " ++ user
