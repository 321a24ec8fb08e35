-- How often each rule was held and broken.
use Rattle.std.specs.Prelude.{ℕ, suc, Bool, List, ◌∷◌, nat_lt}
use Rattle.std.specs.List.{list_any}
use Rattle.log_rules.specs.Verdict.{tallied}
use Rattle.log_rules.specs.declared.tally.Tally.{Tally}
use Rattle.log_rules.specs.declared.verdict.Verdict.{Verdict}

-- with the verdicts on so many of the first rules
abbrev pub tallied_upto : ℕ → List Verdict → List Tally → List Tally
tallied_upto (suc n) (verdict ∷ verdicts) (tally ∷ tallies) =
    tallied verdict tally ∷ tallied_upto n verdicts tallies
tallied_upto n verdicts tallies = tallies

-- whether a rule is broken
abbrev pub breaks_a_rule : List Tally → Bool
breaks_a_rule tallies = list_any (λ (tally : Tally). nat_lt 0 tally.broken) tallies
