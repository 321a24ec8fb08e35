-- Legs in doubt, written one after the other.
use Rattle.std.proofs.Common.{◌≡◌, ℕ, ◌+◌, ◌<◌, List, ◌++◌, length, drop, get_or, sym, ap, ◌∙◌, append_assoc, codes}
use Rattle.std.proofs.lemmas.List.{drop_more}
use Rattle.leg.specs.LegId.{LegIdParts, leg_id_text}
use Rattle.desk_news.specs.Doubt.{ids_text}

-- two texts behind another
behind : (a b c d : List ℕ) → a ++ ((b ++ c) ++ d) ≡ ((a ++ b) ++ c) ++ d
behind a b c d = simp append_assoc

-- one more leg is written, and those behind it are left
pub ids_more : (ids : List LegIdParts) (i : ℕ) (d : LegIdParts) (whole before after : List ℕ)
    → i < length ids
    → whole ≡ before ++ ids_text (drop i ids)
    → after ≡ (before ++ codes " ") ++ leg_id_text (get_or ids i d)
    → whole ≡ after ++ ids_text (drop (i + 1) ids)
ids_more ids i d whole before after within so_far grew =
    let rest = ids_text (drop (i + 1) ids) in
    so_far
    ∙ ap (λ left. before ++ ids_text left) (drop_more ids i d within)
    ∙ behind before (codes " ") (leg_id_text (get_or ids i d)) rest
    ∙ ap (λ text. text ++ rest) (sym grew)
