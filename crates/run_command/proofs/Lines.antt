-- Lines of a list, written one after the other.
use Rattle.std.proofs.Common.{◌≡◌, ℕ, ◌+◌, ◌<◌, List, ◌++◌, length, take, get_or, sym, ap, ◌∙◌}
use Rattle.std.specs.List.{flat_map}
use Rattle.std.proofs.lemmas.List.{take_more, flat_map_more}

-- one more is written behind those before it
pub line_more : {A : Type 0} (line_of : A → List ℕ) (items : List A) (i : ℕ) (d : A) (whole before after : List ℕ)
    → i < length items
    → before ≡ whole ++ flat_map line_of (take i items)
    → after ≡ before ++ line_of (get_or items i d)
    → after ≡ whole ++ flat_map line_of (take (i + 1) items)
line_more line_of items i d whole before after within so_far grew =
    grew
    ∙ ap (λ text. text ++ line_of (get_or items i d)) so_far
    ∙ flat_map_more line_of whole (take i items) (get_or items i d)
    ∙ ap (λ left. whole ++ flat_map line_of left) (sym (take_more items i d within))
