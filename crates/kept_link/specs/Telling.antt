-- What is told of a worker's deeds, from one moment to another. Who is told says so always or never.
use Rattle.std.specs.Prelude.{◌≡◌, ℕ, List, [], ◌++◌, map, Option, Some, None}
use Rattle.journal_tape.specs.Told.{LinesTold, all_kept, with_line}
use Rattle.journal_words.specs.Deed.{Timed}
use Rattle.journal_words.specs.Words.{deed_line}

abbrev pub MayTell : Option LinesTold → Option LinesTold → (LinesTold → LinesTold → Type 0) → Type 0
MayTell None None R = Unit {0}
MayTell None (Some b) R = ⊥
MayTell (Some a) None R = ⊥
MayTell (Some a) (Some b) R = R a b

-- this line was told behind the others
abbrev pub TellsLine : List ℕ → Option LinesTold → Option LinesTold → Type 0
TellsLine line before after = MayTell before after (λ a b. b ≡ with_line line a)

-- all that was told is kept
abbrev pub KeepsAll : Option LinesTold → Option LinesTold → Type 0
KeepsAll before after = MayTell before after (λ a b. b ≡ all_kept a)

-- no line is left to keep
abbrev pub IsAllKept : Option LinesTold → Type 0
IsAllKept None = Unit {0}
IsAllKept (Some told) = told.unkept ≡ []

-- these lines were told behind the others, in order, and some or all may be kept since
abbrev pub TellsLines : List (List ℕ) → Option LinesTold → Option LinesTold → Type 0
TellsLines lines before after =
    MayTell before after (λ a b. b.kept ++ b.unkept ≡ (a.kept ++ a.unkept) ++ lines)

-- the lines of deeds, one each
abbrev pub lines_of : List Timed → List (List ℕ)
lines_of deeds = map deed_line deeds
