-- Packets, and the bytes that they have together.
use Rattle.std.proofs.Common.{◌≡◌, ℕ, List, [], ◌∷◌, ◌++◌, map, ap, ◌∙◌}
use Rattle.std.proofs.lemmas.List.{map-append, append-nil}
use Rattle.std.proofs.lemmas.List.Folds.{concat-append}
use Rattle.std.specs.Global.{Vec}
use Rattle.std.specs.List.{concat}

-- with one more packet
pub one_more : (full now : List (Vec ℕ)) (packet : Vec ℕ) → now ≡ full ++ packet ∷ [] →
    concat (map (λ (p : Vec ℕ). p.items) now) ≡ concat (map (λ (p : Vec ℕ). p.items) full) ++ packet.items
one_more full now packet e =
    let before = map (λ (p : Vec ℕ). p.items) full in
    ap (λ (l : List (Vec ℕ)). concat (map (λ (p : Vec ℕ). p.items) l)) e
    ∙ (ap concat (map-append (λ (p : Vec ℕ). p.items) full (packet ∷ []))
    ∙ (concat-append before (packet.items ∷ [])
    ∙ ap (λ bytes. concat before ++ bytes) (append-nil packet.items)))

-- and nothing behind it
pub one_full : (full now : List (Vec ℕ)) (packet : Vec ℕ) (rest : List ℕ) → now ≡ full ++ packet ∷ [] → rest ≡ [] →
    concat (map (λ (p : Vec ℕ). p.items) now) ++ rest
    ≡ concat (map (λ (p : Vec ℕ). p.items) full) ++ packet.items
one_full full now packet rest e none =
    ap (λ bytes. concat (map (λ (p : Vec ℕ). p.items) now) ++ bytes) none
    ∙ (append-nil (concat (map (λ (p : Vec ℕ). p.items) now)) ∙ one_more full now packet e)
