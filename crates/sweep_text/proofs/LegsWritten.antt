-- The legs of a line, written one after the other.
use Rattle.std.proofs.Common.{◌≡◌, ℕ, ◌+◌, ◌<◌, List, ◌++◌, length, drop, get_or, sym, ap, ◌∙◌, append_assoc, codes}
use Rattle.std.proofs.lemmas.List.{drop_more}
use Rattle.leg.specs.declared.sweep.Routed.{Routed}
use Rattle.sweep_text.specs.Written.{leg_text, legs_text}

-- three texts behind another
behind : (a b c d : List ℕ) → a ++ ((b ++ c) ++ d) ≡ ((a ++ b) ++ c) ++ d
behind a b c d = simp append_assoc

-- one more leg is written, and those behind it are left
pub legs_more : (names : List (List ℕ)) (legs : List Routed) (i : ℕ) (d : Routed) (mark whole before after : List ℕ)
    → i < length legs
    → whole ≡ before ++ legs_text mark names (drop i legs)
    → after ≡ (before ++ mark) ++ leg_text names (get_or legs i d)
    → whole ≡ after ++ legs_text (codes " + ") names (drop (i + 1) legs)
legs_more names legs i d mark whole before after within so_far grew =
    let leg = leg_text names (get_or legs i d) in
    let rest = legs_text (codes " + ") names (drop (i + 1) legs) in
    so_far
    ∙ ap (λ left. before ++ legs_text mark names left) (drop_more legs i d within)
    ∙ behind before mark leg rest
    ∙ ap (λ text. text ++ rest) (sym grew)
