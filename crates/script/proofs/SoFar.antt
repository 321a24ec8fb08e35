-- What was read of a list so far, and what is left of it.
use Rattle.std.proofs.Common.{◌≡◌, ℕ, suc, Bool, true, false, List, [], ◌∷◌, ◌++◌, Option, Some, None, refl, sym, ap, ◌∙◌, append_assoc}
use Rattle.std.specs.Prelude.{is_some}
use Rattle.std.specs.Option.{option_map, option_and_then}
use Rattle.std.proofs.lemmas.List.{append-nil}

abbrev pub with_front : {X : Type 0} → List X → Option (List X) → Option (List X)
with_front front left = option_map (λ later. front ++ later) left

-- one more, which stood first in what is left
pub one_more : {X : Type 0} (front : List X) (x : X) (left : Option (List X))
    → with_front front (option_map (λ later. x ∷ later) left) ≡ with_front (front ++ x ∷ []) left
one_more front x None = refl
one_more front x (Some later) = ap Some (sym (append_assoc front (x ∷ []) later))

pub none_more : {X : Type 0} (front : List X) → with_front front (Some []) ≡ Some front
none_more front = ap Some (append-nil front)
