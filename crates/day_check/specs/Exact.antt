-- A log that is held against what the session itself writes.
use Rattle.std.specs.Prelude.{◌≡◌, ℕ, Bool, false, List, [], ◌∷◌, ◌++◌, codes, decimal, Option, Some, None, is_some, option_map}
use Rattle.std.specs.Io.KnownBytes.{Appends}
use Rattle.message_log.specs.Line.{logged}
use Rattle.day_check.specs.declared.exact.Said.{Said}
use Rattle.day_check.specs.declared.finding.Printing.{Printing}
use Rattle.day_check.specs.Finding.{tally_line}

-- what the session writes in the place of a line, as it is logged, or nothing
abbrev pub written_instead : ℕ → List ℕ → List ℕ
written_instead number [] =
    codes "line " ++ decimal number ++ codes " exact: the session writes nothing, or the dialect is another"
written_instead number (c ∷ cs) =
    codes "line " ++ decimal number ++ codes " exact: the session writes " ++ c ∷ cs

-- what to do where it writes this in the place of a line, or nothing
abbrev pub advice_on : List ℕ → List ℕ
advice_on [] =
    codes "name the dialect of the venue's orders with --exact; if it is this one, find what changed the log"
advice_on (c ∷ cs) =
    codes "find what lost or changed a line of this log; if nothing did, stop the desk and report it with the log"

-- what the session writes in the place of a line, and what to do
abbrev pub difference_line : ℕ → List ℕ → List ℕ
difference_line number logged = written_instead number logged ++ codes "\n  " ++ advice_on logged ++ 10 ∷ []

abbrev pub difference_text : ℕ → List ℕ → List ℕ
difference_text number frame = difference_line number (logged frame)

-- how many frames are what the session writes, and whether one isn't
abbrev pub exact_tally : ℕ → ℕ → List ℕ
exact_tally held broken = tally_line (codes "exact") (record { held = held; broken = broken; again = 0 })

-- what is printed of that many frames, and of the first line that isn't what the session writes, if there is one
abbrev pub exact_text : ℕ → Option (ℕ × List ℕ) → List ℕ
exact_text held None = exact_tally held 0
exact_text held (Some broken) = difference_text broken.0 broken.1 ++ exact_tally held 1

abbrev pub said_text : Said → List ℕ
said_text said = exact_text said.held (option_map (λ broken. (broken.0, broken.1.items)) said.broken)

-- so many frames are what the session writes, and a line isn't, if there is one; and where text is printed, it says so
pub record HoldsExactly (p : Printing) (before after : Option (List ℕ)) (is_broken : Bool) : Type 0 where
  pub held : ℕ
  pub broken : Option (ℕ × List ℕ)
  pub is_so : is_broken ≡ is_some broken
  pub printed : p.is_json ≡ false → Appends before after (exact_text held broken)
