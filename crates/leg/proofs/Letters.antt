-- Letters are ASCII, so they are text.
use Rattle.std.proofs.Common.{ℕ, List, arith}
use Rattle.std.specs.List.{All}
use Rattle.std.specs.Str.{IsUtf8}
use Rattle.std.proofs.lemmas.Str.{IsUtf8-from_ascii}
use Rattle.std.proofs.lemmas.Str.Ascii.{IsAscii-from_all}
use Rattle.leg.specs.Symbol.{IsLetter}

-- a text of letters is UTF-8
pub utf8_of_letters : (text : List ℕ) → All IsLetter text → IsUtf8 text
utf8_of_letters text letters =
    IsUtf8-from_ascii text (IsAscii-from_all text (λ k d within. let letter = letters k d within in omega arith))
