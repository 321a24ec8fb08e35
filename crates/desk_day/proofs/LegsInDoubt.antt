-- The legs in doubt among the first of those taken.
use Rattle.std.proofs.Common.{◌≡◌, ℕ, ◌+◌, ◌<◌, List, [], ◌∷◌, ◌++◌, Some, None, length, take, get_or, refl, sym, ap, ◌∙◌}
use Rattle.std.specs.Prelude.{Option, filter_map, option_to_list}
use Rattle.std.proofs.lemmas.List.{take_more}
use Rattle.std.proofs.lemmas.List.Elements.{filter_map-append}

one_or_none : {A : Type 0} (o : Option A) → filter_map (λ (n : ℕ). o) (0 ∷ []) ≡ option_to_list o
one_or_none None = refl
one_or_none (Some x) = refl

-- one leg more
pub doubts_more : {A B : Type 0} (h : A → Option B) (legs : List A) (i : ℕ) (leg : A) → i < length legs
    → leg ≡ get_or legs i leg → filter_map h (take (i + 1) legs) ≡ filter_map h (take i legs) ++ option_to_list (h leg)
doubts_more h legs i leg below is =
    ap (filter_map h) (take_more legs i leg below ∙ ap (λ x. take i legs ++ x ∷ []) (sym is))
    ∙ (filter_map-append h (take i legs) (leg ∷ []) ∙ ap (λ l. filter_map h (take i legs) ++ l) (one_or_none (h leg)))
