-- Lines as they are printed.
use Rattle.std.proofs.Common.{◌≡◌, ◌<◌, ℕ, ◌+◌, suc, List, [], ◌∷◌, ◌++◌, length, map, take, get_or, sym, ap, ◌∙◌, append_assoc, arith}
use Rattle.std.specs.Prelude.{Vec}
use Rattle.std.specs.declared.alloc.Global.{Global}
use Rattle.std.proofs.lemmas.List.{append-nil, length-map, length-take-le, map-append, take_more}
use Rattle.journal_command.specs.Shown.{line_shown, lines_shown}

-- one line more
pub shown_more : (number : ℕ) (lines : List (List ℕ)) (line : List ℕ)
    → lines_shown number (lines ++ line ∷ []) ≡ lines_shown number lines ++ line_shown (number + length lines) line
shown_more number [] line =
    append-nil (line_shown number line)
    ∙ ap (λ (n : ℕ). line_shown n line) (let e : number ≡ number + 0 = omega arith in e)
shown_more number (l ∷ ls) line =
    ap (λ (t : List ℕ). line_shown number l ++ t) (shown_more (number + 1) ls line)
    ∙ sym (append_assoc (line_shown number l) (lines_shown (number + 1) ls) (line_shown (number + 1 + length ls) line))
    ∙ ap (λ (n : ℕ). (line_shown number l ++ lines_shown (number + 1) ls) ++ line_shown n line)
    (let e : number + 1 + length ls ≡ number + suc (length ls) = omega arith in e)

-- the first lines and the next one
items_more : (lines : List (Vec ℕ Global)) (line : Vec ℕ Global) (i : ℕ) → i < length lines → line ≡ get_or lines i line
    → map (λ (v : Vec ℕ Global). v.items) (take (i + 1) lines)
    ≡ map (λ (v : Vec ℕ Global). v.items) (take i lines) ++ line.items ∷ []
items_more lines line i below is =
    ap (λ (ls : List (Vec ℕ Global)). map (λ (v : Vec ℕ Global). v.items) ls)
    (take_more lines i line below ∙ ap (λ (v : Vec ℕ Global). take i lines ++ v ∷ []) (sym is))
    ∙ map-append (λ (v : Vec ℕ Global). v.items) (take i lines) (line ∷ [])

pub lines_step : (begun old new : List ℕ) (lines : List (Vec ℕ Global)) (line : Vec ℕ Global) (i number : ℕ)
    → i < length lines → line ≡ get_or lines i line → number ≡ i + 1
    → old ≡ begun ++ lines_shown 1 (map (λ (v : Vec ℕ Global). v.items) (take i lines))
    → new ≡ old ++ line_shown number line.items
    → new ≡ begun ++ lines_shown 1 (map (λ (v : Vec ℕ Global). v.items) (take (i + 1) lines))
lines_step begun old new lines line i number below is counted so_far more =
    let first = map (λ (v : Vec ℕ Global). v.items) (take i lines) in
    let long : length first ≡ i =
    length-map (take i lines) (λ (v : Vec ℕ Global). v.items) ∙ length-take-le i lines (omega (arith, below)) in
    let next : number ≡ 1 + length first = omega (arith, long, counted) in
    more
    ∙ ap (λ (t : List ℕ). t ++ line_shown number line.items) so_far
    ∙ append_assoc begun (lines_shown 1 first) (line_shown number line.items)
    ∙ ap (λ (n : ℕ). begun ++ (lines_shown 1 first ++ line_shown n line.items)) next
    ∙ ap (λ (t : List ℕ). begun ++ t) (sym (shown_more 1 first line.items))
    ∙ ap (λ (ls : List (List ℕ)). begun ++ lines_shown 1 ls) (sym (items_more lines line i below is))
