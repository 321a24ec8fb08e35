-- A whole log.
use Rattle.std.proofs.Common.{◌≡◌, ◌<◌, ◌≤◌, ◌+◌, ℕ, List, [], ◌∷◌, ◌++◌, length, take, get_or, sym, ap, subst, ◌∙◌}
use Rattle.std.proofs.lemmas.List.{take_more, take_all}
use Rattle.fix_tags.specs.Config.{ConfigParts}
use Rattle.dialect.specs.Wording.{Wording}
use Rattle.session_trace.specs.declared.shown.Shown.{Shown}
use Rattle.session_trace.specs.Shows.{TraceParts, Explains, new_trace}
use Rattle.session_trace.specs.Shows.Shows.{begins}
use Rattle.session_trace.specs.Explained.{IsExplained}
use Rattle.session_trace.proofs.Wrote.{wrote}

pub nothing_shown : (w : Wording) (config : ConfigParts) (t : TraceParts) → t ≡ new_trace config → Explains w config [] t
nothing_shown w config t same = record {
  calls = [];
  shows = rw same begins;
}

-- a line more
pub line_more : (log : List Shown) (i : ℕ) (line : Shown) → i < length log → line ≡ get_or log i line
    → take (i + 1) log ≡ take i log ++ line ∷ []
line_more log i line below is = take_more log i line below ∙ ap (λ (x : Shown). take i log ++ x ∷ []) (sym is)

pub all_shown : (w : Wording) (config : ConfigParts) (log : List Shown) (t : TraceParts) (i : ℕ)
    → Explains w config (take i log) t → length log ≤ i → IsExplained w config log
all_shown w config log t i explains over =
    let whole : Explains w config log t =
    subst (λ (l : List Shown). Explains w config l t) (take_all i log over) explains in record {
      calls = whole.calls;
      at = t;
      shows = whole.shows;
      written = wrote w config whole.shows;
    }
