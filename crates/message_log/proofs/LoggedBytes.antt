-- A message that is logged byte by byte.
use Rattle.std.proofs.Common.{◌≡◌, ℕ, ◌+◌, ◌<◌, List, ◌++◌, length, drop, get_or, sym, ap, ◌∙◌, append_assoc}
use Rattle.std.proofs.lemmas.List.{drop_more}
use Rattle.message_log.specs.Line.{byte_logged, logged}

-- one more byte is logged
pub logged_more : (i : ℕ) (message whole before after : List ℕ) → i < length message
    → whole ≡ before ++ logged (drop i message)
    → after ≡ before ++ byte_logged (get_or message i 0)
    → whole ≡ after ++ logged (drop (i + 1) message)
logged_more i message whole before after within so_far grew =
    let rest = logged (drop (i + 1) message) in
    so_far
    ∙ ap (λ later. before ++ logged later) (drop_more message i 0 within)
    ∙ sym (append_assoc before (byte_logged (get_or message i 0)) rest)
    ∙ ap (λ front. front ++ rest) (sym grew)
