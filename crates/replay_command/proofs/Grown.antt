-- Bytes behind bytes.
use Rattle.std.proofs.Common.{◌≡◌, ◌++◌, ℕ, List, [], Option, Some, None, sym, ap, ◌∙◌}
use Rattle.std.proofs.lemmas.List.{append-nil, append_assoc}
use Rattle.std.specs.Io.KnownBytes.{Appends}
use Rattle.command_line.specs.Output.{Grows}

pub grows-refl : (a : Option (List ℕ)) → Grows a a
grows-refl None = ([], tt)
grows-refl (Some xs) = ([], sym (append-nil xs))

pub grown : (a b : Option (List ℕ)) (more : List ℕ) → Appends a b more → Grows a b
grown a b more appends = (more, appends)

pub behind : (a b c : Option (List ℕ)) (more last : List ℕ) → Appends a b more → Appends b c last → Appends a c (more ++ last)
behind None b c more last first then = tt
behind (Some xs) None c more last first then = absurd first
behind (Some xs) (Some ys) None more last first then = absurd then
behind (Some xs) (Some ys) (Some zs) more last first then =
    then ∙ (ap (λ (l : List ℕ). l ++ last) first ∙ append_assoc xs more last)

pub grows-trans : (a b c : Option (List ℕ)) → Grows a b → Grows b c → Grows a c
grows-trans a b c first then = (first.0 ++ then.0, behind a b c first.0 then.0 first.1 then.1)
