use Rattle.std.proofs.Common.{List, Option, ℕ, [], map, ap, ◌∙◌, Bor}
use Rattle.std.specs.Option.{unwrap_or}
use Rattle.check_command.proofs.command.paths_in.Goals as goal

pub returns-in_ok-from_slice-in-Some : goal.returns-in_ok-from_slice-in-Some
returns-in_ok-from_slice-in-Some c =
    ap (λ (paths : List (Bor (List ℕ))). map (λ path. path.now) paths) c.in_ok-from_slice-in-Some.ensures.items
    ∙ ap (λ (named : Option (List (List ℕ))). unwrap_or named []) c.in-Some.ensures

pub returns-in-None : goal.returns-in-None
returns-in-None c =
    ap (λ (paths : List (Bor (List ℕ))). map (λ path. path.now) paths) c.new.ensures.items
    ∙ ap (λ (named : Option (List (List ℕ))). unwrap_or named []) c.in-None.ensures
