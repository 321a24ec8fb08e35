-- Which legs are told as settled behind a start, one venue further.
use Rattle.std.proofs.Common.{◌≡◌, ◌+◌, ◌-◌, ◌<◌, ◌≤◌, ℕ, suc, zero, List, [], ◌∷◌, ◌++◌, length, slice_set, refl, sym, ap, ◌∙◌, arith}
use Rattle.std.specs.Prelude.{replicate}
use Rattle.std.proofs.lemmas.List.{append_assoc, append-nil}
use Rattle.schedule.specs.World.{World}
use Rattle.event_text.specs.Crash.{settled_over}
use Rattle.event_text.specs.Step.{settled_from}

length_over : (w : World) (v n : ℕ) → length (settled_over w v n) ≡ n
length_over w v zero = refl
length_over w v (suc n) = ap suc (length_over w (suc v) n)

one_more : (w : World) (v n : ℕ) → settled_over w v (suc n) ≡ settled_over w v n ++ settled_from w (v + n) 0 ∷ []
one_more w v zero =
    let here : v ≡ v + 0 = omega arith in ap (λ (u : ℕ). settled_from w u 0 ∷ []) here
one_more w v (suc n) =
    let here : suc v + n ≡ v + suc n = omega arith in
    ap (λ (l : List ℕ). settled_from w v 0 ∷ l) (one_more w (suc v) n
    ∙ ap (λ (u : ℕ). settled_over w (suc v) n ++ settled_from w u 0 ∷ []) here)

set_behind : (front : List ℕ) (x y : ℕ) (rest : List ℕ) → slice_set (front ++ y ∷ rest) (length front) x ≡ front ++ x ∷ rest
set_behind [] x y rest = refl
set_behind (first ∷ front) x y rest = ap (λ (l : List ℕ). first ∷ l) (set_behind front x y rest)

-- those of the venues so far, and none of the others
abbrev pub told_to : World → ℕ → List ℕ
told_to w n = settled_over w 0 n ++ replicate (16 - n) 0

pub told_next : (w : World) (n : ℕ) (told : List ℕ) → n < 16 → told ≡ told_to w n
    → slice_set told n (settled_from w n 0) ≡ told_to w (n + 1)
told_next w n told within before =
    let left : 16 - n ≡ suc (16 - (n + 1)) = omega (arith, within) in
    let one : n + 1 ≡ suc n = omega arith in
    let here : n ≡ 0 + n = omega arith in
    let zero_first : told ≡ settled_over w 0 n ++ 0 ∷ replicate (16 - (n + 1)) 0 =
    before ∙ ap (λ (m : ℕ). settled_over w 0 n ++ replicate m 0) left in
    ap (λ (l : List ℕ). slice_set l n (settled_from w n 0)) zero_first
    ∙ ap (λ (m : ℕ). slice_set (settled_over w 0 n ++ 0 ∷ replicate (16 - (n + 1)) 0) m (settled_from w n 0)) (sym (length_over w 0 n))
    ∙ set_behind (settled_over w 0 n) (settled_from w n 0) 0 (replicate (16 - (n + 1)) 0)
    ∙ sym (append_assoc (settled_over w 0 n) (settled_from w n 0 ∷ []) (replicate (16 - (n + 1)) 0))
    ∙ ap (λ (m : ℕ). (settled_over w 0 n ++ settled_from w m 0 ∷ []) ++ replicate (16 - (n + 1)) 0) here
    ∙ ap (λ (l : List ℕ). l ++ replicate (16 - (n + 1)) 0) (sym (one_more w 0 n))
    ∙ ap (λ (m : ℕ). settled_over w 0 m ++ replicate (16 - (n + 1)) 0) (sym one)

-- at the last venue
pub told_all : (w : World) (n : ℕ) (told : List ℕ) → 16 ≤ n → n ≤ 16 → told ≡ told_to w n → told ≡ settled_over w 0 16
told_all w n told over within before =
    let all : n ≡ 16 = omega arith in
    before ∙ (ap (told_to w) all ∙ append-nil (settled_over w 0 16))
