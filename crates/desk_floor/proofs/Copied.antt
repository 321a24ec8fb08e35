-- Legs, copied one after the other.
use Rattle.std.proofs.Common.{◌≡◌, ℕ, ◌+◌, ◌<◌, List, [], ◌∷◌, ◌++◌, length, take, get_or, sym, ap₂, ◌∙◌}
use Rattle.std.proofs.lemmas.List.{take_more}
use Rattle.leg.specs.declared.sweep.Routed.{Routed}

-- one leg more is copied
pub one_more : (legs copied after : List Routed) (i : ℕ) (leg copy : Routed) → i < length legs
    → copied ≡ take i legs → leg ≡ get_or legs i leg → copy ≡ leg → after ≡ copied ++ copy ∷ []
    → after ≡ take (i + 1) legs
one_more legs copied after i leg copy within so_far is same grew =
    grew
    ∙ ap₂ (λ (front : List Routed) (last : Routed). front ++ last ∷ []) so_far (same ∙ is)
    ∙ sym (take_more legs i leg within)
