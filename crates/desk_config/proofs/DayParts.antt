-- The text round `%Y-%m-%d` in the name of a folder.
use Rattle.std.proofs.Common.{◌≡◌, ℕ, Bool, true, false, List, length, drop, Option, Some, None, codes, ◌==◌, refl, sym, ap, ap₂, ◌∙◌, subst, arith, Bor}
use Rattle.std.specs.Prelude.{option_map, MatchOption}
use Rattle.std.specs.List.{position_or_len}
use Rattle.std.specs.Str.{IsCharBoundary}
use Rattle.std.specs.Str.Pattern.{FindsTextPrefix, StripsPrefix}
use Rattle.std.proofs.lemmas.Bool.{le-ltb, lt-ltb}
use Rattle.std.proofs.lemmas.Str.Pattern.{IsSplitOnceResult, split_once_first, starts_text}
use Rattle.dialect.specs.Split.{parts_round}
use Rattle.desk_config.specs.Journal.{behind_day}

-- what stands before the first `%` and what behind it
pub round_percent : (text : List ℕ) (found : Option (Bor (List ℕ) × Bor (List ℕ))) → IsSplitOnceResult 37 text found
    → option_map (λ parts. (parts.0.now, parts.1.now)) found ≡ parts_round 37 text
round_percent text None is =
    let none = split_once_first 37 text None is (omega arith) in
    rw (le-ltb (position_or_len (λ c. c == 37) text) (length text) (omega (arith, none))) refl
round_percent text (Some parts) is =
    let some = split_once_first 37 text (Some parts) is (omega arith) in
    rw (lt-ltb (position_or_len (λ c. c == 37) text) (length text) some.0)
    (ap₂ (λ (before behind : List ℕ). Some (before, behind)) some.1 some.2)

abbrev the_rest : List ℕ
the_rest = codes "Y-%m-%d"

-- what stands behind `%Y-%m-%d`
pub behind_is : (rest : List ℕ) (found : Option (Bor (List ℕ)))
    → MatchOption found (FindsTextPrefix the_rest rest None) (λ x. StripsPrefix (FindsTextPrefix the_rest) rest x.now)
    → option_map (λ x. x.now) found ≡ behind_day rest
behind_is rest None is = rw (← starts_text false the_rest rest is) refl
behind_is rest (Some behind) is =
    let count : is.0 ≡ 7 = is.1.0 in
    rw (← starts_text true the_rest rest (is.0, is.1, subst (λ (n : ℕ). IsCharBoundary rest n) (sym count) is.1.2))
    (ap (λ (b : List ℕ). Some b) (is.2 ∙ ap (λ (n : ℕ). drop n rest) count))
