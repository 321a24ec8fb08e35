-- The text of a price is UTF-8.
use Rattle.std.proofs.Common.{◌≡◌, ℕ, ◌<◌, ◌^◌, List, sym, subst, arith}
use Rattle.std.specs.Str.{IsUtf8}
use Rattle.std.proofs.lemmas.Str.{IsUtf8-from_ascii}
use Rattle.std.proofs.lemmas.Str.Ascii.{IsAscii-from_all}
use Rattle.fix_tags.specs.Price.{price_short}
use Rattle.sweep_text.proofs.WordsWritten.{price_word}

ascii : (price : ℕ) → price < 2 ^ 64 → IsUtf8 (price_short price)
ascii price fits =
    let word = price_word price fits in
    IsUtf8-from_ascii (price_short price) (IsAscii-from_all (price_short price)
    (λ k d within. let byte = word.bytes k d within in omega arith))

pub utf8_of_price : (text : List ℕ) (price : ℕ) → price < 2 ^ 64 → text ≡ price_short price → IsUtf8 text
utf8_of_price text price fits is = subst IsUtf8 (sym is) (ascii price fits)
