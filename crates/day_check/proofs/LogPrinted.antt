-- What is printed of a log, part by part.
use Rattle.std.proofs.Common.{◌≡◌, ℕ, Bool, List, ◌++◌, Option, ap, subst, ◌∙◌}
use Rattle.std.specs.Io.KnownBytes.{Appends}
use Rattle.day_check.specs.LogChecked.{LogParts}
use Rattle.day_check.specs.LogText.{Style, checked, findings, log_end, log_text, path_line}
use Rattle.day_check.proofs.LinesRead.{behind}

pub told : (s : Style) (path : List ℕ) (lines : List (List ℕ)) (is_cut : Bool) (log : LogParts) (a b c d : Option (List ℕ))
    (head end : List ℕ) → log ≡ checked s lines → head ≡ path_line path → end ≡ log_end s is_cut log
    → Appends a b head → Appends b c (findings s lines) → Appends c d end → Appends a d (log_text s path lines is_cut)
told s path lines is_cut log a b c d head end is is_head is_end first body last =
    let after = subst (Appends c d) (is_end ∙ ap (log_end s is_cut) is) last in
    behind a c d (path_line path ++ findings s lines) (log_end s is_cut (checked s lines))
    (behind a b c (path_line path) (findings s lines) (subst (Appends a b) is_head first) body) after
