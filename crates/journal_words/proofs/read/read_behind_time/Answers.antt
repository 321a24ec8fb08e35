use Rattle.std.proofs.Common.{ℕ, List, subst}
use Rattle.std.specs.Prelude.{Option}
use Rattle.journal_words.specs.Reading.{ReadsDeed, if_words}
use Rattle.journal_words.proofs.read.read_behind_time.Goals as goal

pub returns-in-Some : goal.returns-in-Some
returns-in-Some c fields =
    subst (λ (words : Option (List ℕ)). ReadsDeed (if_words words) c.read_words.result fields) c.in-Some.ensures
    (c.read_words.ensures fields)
