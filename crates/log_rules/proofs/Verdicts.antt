-- Lists of verdicts, verdict by verdict.
use Rattle.std.proofs.Common.{◌≡◌, Bool, List, ◌∷◌, ap, ◌∙◌}
use Rattle.log_rules.specs.Verdict.{again_if}
use Rattle.log_rules.specs.declared.verdict.Verdict.{Verdict}

pub one_by_one : {v w : Verdict} {vs ws : List Verdict} → v ≡ w → vs ≡ ws → (v ∷ vs) ≡ (w ∷ ws)
one_by_one {v} {w} {vs} {ws} first others = ap (λ x. x ∷ vs) first ∙ ap (λ xs. w ∷ xs) others

-- a verdict that is told again where it was named
pub named : (is_named : Bool) {told said verdict : Verdict} → told ≡ again_if is_named said → said ≡ verdict
    → told ≡ again_if is_named verdict
named is_named told_is said_is = told_is ∙ ap (again_if is_named) said_is
