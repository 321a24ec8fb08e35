-- The first that passes a test, looked for one after the other.
use Rattle.std.proofs.Common.{◌≡◌, ℕ, ◌+◌, ◌<◌, Bool, true, false, List, [], ◌∷◌, Option, Some, None, refl, sym, ap, ◌∙◌, length, drop, get_or, cond}
use Rattle.std.proofs.lemmas.List.{drop_more}
use Rattle.std.proofs.lemmas.Iterator.Adapters.{position_from-zero}
use Rattle.std.specs.List.{position_from}
use Rattle.std.specs.Option.{option_or}
use Rattle.std.specs.Prelude.{position}

-- at the beginning nothing was found, and all are left
pub all_left : {X : Type 0} (test : X → Bool) (xs : List X)
    → option_or None (position_from test 0 xs) ≡ position test xs
all_left test xs = sym (position_from-zero test xs)

-- at the end none is left
pub none_left : (found : Option ℕ) → option_or found None ≡ found
none_left None = refl
none_left (Some place) = refl

-- what was found by one more step, or else among those behind it
by_one_more : (found : Option ℕ) (is_it : Bool) (place : ℕ) (behind : Option ℕ)
    → option_or (option_or found (cond is_it (Some place) None)) behind
    ≡ option_or found (cond is_it (Some place) behind)
by_one_more (Some earlier) is_it place behind = refl
by_one_more None true place behind = refl
by_one_more None false place behind = refl

-- one more is looked at, and those behind it are left
pub one_more_seen : {X : Type 0} (test : X → Bool) (xs : List X) (i : ℕ) (d : X) (found whole : Option ℕ)
    → i < length xs
    → option_or found (position_from test i (drop i xs)) ≡ whole
    → option_or (option_or found (cond (test (get_or xs i d)) (Some i) None))
    (position_from test (i + 1) (drop (i + 1) xs))
    ≡ whole
one_more_seen test xs i d found whole within so_far =
    by_one_more found (test (get_or xs i d)) i (position_from test (i + 1) (drop (i + 1) xs))
    ∙ sym (ap (λ left. option_or found (position_from test i left)) (drop_more xs i d within))
    ∙ so_far
