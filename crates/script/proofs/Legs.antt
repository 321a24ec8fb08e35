-- The legs of a release, one after the other.
use Rattle.std.proofs.Common.{◌≡◌, ℕ, List, [], ◌∷◌, Option, Some, None, Bool, true, false, refl, sym}
use Rattle.std.specs.Prelude.{codes, if◌then◌else◌}
use Rattle.std.specs.Str.{bytes_eq}
use Rattle.leg.specs.declared.sweep.Routed.{Routed}
use Rattle.schedule.specs.Script.{leg_of_words, legs_of_words, before}
use Rattle.script.specs.Reading.{more_legs}

before_none : (leg : Option Routed) → before leg None ≡ None
before_none None = refl
before_none (Some leg) = refl

legs_behind : (leg : Option Routed) (is_plus : Bool) (legs : Option (List Routed))
    → (if is_plus then before leg legs else None) ≡ before leg (if is_plus then legs else None)
legs_behind leg true legs = refl
legs_behind leg false legs = sym (before_none leg)

-- the leg of five words, and those behind it
pub legs_of_five : (venue symbol side shares price : List ℕ) (words : List (List ℕ))
    → legs_of_words (venue ∷ symbol ∷ side ∷ shares ∷ price ∷ words) ≡ before (leg_of_words venue symbol side shares price) (more_legs words)
legs_of_five venue symbol side shares price [] = refl
legs_of_five venue symbol side shares price (plus ∷ words) = legs_behind (leg_of_words venue symbol side shares price) (bytes_eq plus (codes "+")) (legs_of_words words)
