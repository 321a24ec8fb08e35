-- Texts of a list, written one after the other.
use Rattle.std.proofs.Common.{◌≡◌, ℕ, ◌+◌, ◌<◌, List, ◌++◌, length, drop, get_or, sym, ap, ◌∙◌, append_assoc, codes}
use Rattle.std.proofs.lemmas.List.{drop_more}
use Rattle.desk_json.specs.Parted.{parted}

-- three texts behind another
behind : (a b c d : List ℕ) → a ++ ((b ++ c) ++ d) ≡ ((a ++ b) ++ c) ++ d
behind a b c d = simp append_assoc

-- one more is written, and those behind it are left
pub parted_more : {A : Type 0} (text_of : A → List ℕ) (items : List A) (i : ℕ) (d : A)
    (mark whole before after : List ℕ)
    → i < length items
    → whole ≡ before ++ parted text_of mark (drop i items)
    → after ≡ (before ++ mark) ++ text_of (get_or items i d)
    → whole ≡ after ++ parted text_of (codes ",") (drop (i + 1) items)
parted_more text_of items i d mark whole before after within so_far grew =
    let item = text_of (get_or items i d) in
    let rest = parted text_of (codes ",") (drop (i + 1) items) in
    so_far
    ∙ ap (λ left. before ++ parted text_of mark left) (drop_more items i d within)
    ∙ behind before mark item rest
    ∙ ap (λ text. text ++ rest) (sym grew)
