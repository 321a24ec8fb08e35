-- A text that is shown byte by byte.
use Rattle.std.proofs.Common.{◌≡◌, ℕ, ◌+◌, ◌-◌, ◌<◌, ◌≤◌, List, ◌∷◌, ◌++◌, length, drop, get_or, ap, sym, ◌∙◌, arith, length-append, append_assoc, le-leb}
use Rattle.std.proofs.lemmas.List.{drop_more}
use Rattle.desk_words.specs.Printable.{byte_shown, shown}

-- a byte that there is room for is shown, and then the rest in the room that is left
shown_first : (room c : ℕ) (cs : List ℕ) → length (byte_shown c) ≤ room
    → shown room (c ∷ cs) ≡ byte_shown c ++ shown (room - length (byte_shown c)) cs
shown_first room c cs fits = rw (le-leb (length (byte_shown c)) room fits)

-- the room that is left after two pieces
room_left : (n a b : ℕ) → n - a - b ≡ n - (a + b)
room_left n a b = omega arith

-- one more byte is shown
pub shown_more : (n i : ℕ) (text before after : List ℕ) → i < length text
    → shown n text ≡ before ++ shown (n - length before) (drop i text)
    → after ≡ before ++ byte_shown (get_or text i 0)
    → length after ≤ n
    → shown n text ≡ after ++ shown (n - length after) (drop (i + 1) text)
shown_more n i text before after within so_far grew short =
    let piece = byte_shown (get_or text i 0) in
    let rest = drop (i + 1) text in
    let longer : length after ≡ length before + length piece = ap length grew ∙ length-append before piece in
    let fits : length piece ≤ n - length before = omega arith in
    let left : n - length before - length piece ≡ n - length after =
    room_left n (length before) (length piece) ∙ ap (λ k. n - k) (sym longer) in
    so_far
    ∙ ap (λ later. before ++ shown (n - length before) later) (drop_more text i 0 within)
    ∙ ap (λ later. before ++ later) (shown_first (n - length before) (get_or text i 0) rest fits)
    ∙ sym (append_assoc before piece (shown (n - length before - length piece) rest))
    ∙ ap (λ front. front ++ shown (n - length before - length piece) rest) (sym grew)
    ∙ ap (λ k. after ++ shown k rest) left
