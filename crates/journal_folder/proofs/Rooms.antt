-- How many bytes records take.
use Rattle.std.proofs.Common.{◌≡◌, ℕ, ◌+◌, List, [], ◌∷◌, ◌++◌, length, map, take, get_or, min, ◌<◌, sym, ap, ◌∙◌, arith, length-append}
use Rattle.std.specs.Prelude.{Vec}
use Rattle.std.specs.declared.alloc.Global.{Global}
use Rattle.std.proofs.lemmas.List.{map-append, take_more}
use Rattle.journal_record.specs.Record.{lines_sum, lines_text, mark_text, record_text, sum_after}
use Rattle.journal_record.proofs.ReadTo.{text_more}

record_long : (sum : ℕ) (line : List ℕ) → length (record_text sum line) ≡ length line + 10
record_long sum line =
    let marked = length-append (mark_text (sum_after sum line)) line in
    let ended = length-append (mark_text (sum_after sum line) ++ line) (10 ∷ []) in
    omega (arith, marked, ended)

-- one line more
pub room_more : (lines : List (List ℕ)) (line : List ℕ)
    → length (lines_text 0 (lines ++ line ∷ [])) ≡ length (lines_text 0 lines) + (length line + 10)
room_more lines line =
    ap length (text_more 0 lines line)
    ∙ length-append (lines_text 0 lines) (record_text (lines_sum 0 lines) line)
    ∙ ap (λ (n : ℕ). length (lines_text 0 lines) + n) (record_long (lines_sum 0 lines) line)

-- added up to a bound
pub added_up : (all more bound : ℕ) → min (min all bound + min more bound) bound ≡ min (all + more) bound
added_up all more bound = omega arith

-- the first lines and the next one
items_more : (lines : List (Vec ℕ Global)) (line : Vec ℕ Global) (i : ℕ) → i < length lines → line ≡ get_or lines i line
    → map (λ (v : Vec ℕ Global). v.items) (take (i + 1) lines)
    ≡ map (λ (v : Vec ℕ Global). v.items) (take i lines) ++ line.items ∷ []
items_more lines line i below is =
    ap (λ (ls : List (Vec ℕ Global)). map (λ (v : Vec ℕ Global). v.items) ls)
    (take_more lines i line below ∙ ap (λ (v : Vec ℕ Global). take i lines ++ v ∷ []) (sym is))
    ∙ map-append (λ (v : Vec ℕ Global). v.items) (take i lines) (line ∷ [])

pub room_step : (head : List ℕ) (lines : List (Vec ℕ Global)) (line : Vec ℕ Global) (i bytes bound : ℕ) → i < length lines
    → line ≡ get_or lines i line
    → bytes ≡ min (length (lines_text 0 (head ∷ map (λ (v : Vec ℕ Global). v.items) (take i lines)))) bound
    → min (bytes + min (length line.items + 10) bound) bound
    ≡ min (length (lines_text 0 (head ∷ map (λ (v : Vec ℕ Global). v.items) (take (i + 1) lines)))) bound
room_step head lines line i bytes bound below is so_far =
    let first = map (λ (v : Vec ℕ Global). v.items) (take i lines) in
    ap (λ (n : ℕ). min (n + min (length line.items + 10) bound) bound) so_far
    ∙ added_up (length (lines_text 0 (head ∷ first))) (length line.items + 10) bound
    ∙ ap (λ (n : ℕ). min n bound) (sym (room_more (head ∷ first) line.items))
    ∙ ap (λ (ls : List (List ℕ)). min (length (lines_text 0 (head ∷ ls))) bound)
    (sym (items_more lines line i below is))
