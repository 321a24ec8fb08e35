-- Printable bytes are ASCII, so they are text.
use Rattle.std.proofs.Common.{ℕ, List, arith}
use Rattle.std.specs.List.{All}
use Rattle.std.specs.Str.{IsUtf8}
use Rattle.std.proofs.lemmas.Str.{IsUtf8-from_ascii}
use Rattle.std.proofs.lemmas.Str.Ascii.{IsAscii-from_all}
use Rattle.desk_words.specs.VenueName.{IsVenueName}
use Rattle.desk_words.specs.Printable.{IsPrintableByte}

-- a name is UTF-8
pub utf8_of_name : (text : List ℕ) → IsVenueName text → IsUtf8 text
utf8_of_name text name =
    IsUtf8-from_ascii text (IsAscii-from_all text (λ k d within. let byte = name.bytes k d within in omega arith))

-- printable bytes are UTF-8
pub utf8_of_printable : (text : List ℕ) → All IsPrintableByte text → IsUtf8 text
utf8_of_printable text printable =
    IsUtf8-from_ascii text (IsAscii-from_all text (λ k d within. let byte = printable k d within in omega arith))
