-- The bytes of a reference are ASCII, so they are text.
use Rattle.std.proofs.Common.{ℕ, List, arith}
use Rattle.std.specs.Str.{IsUtf8}
use Rattle.std.proofs.lemmas.Str.{IsUtf8-from_ascii}
use Rattle.std.proofs.lemmas.Str.Ascii.{IsAscii-from_all}
use Rattle.sweep_refs.specs.Ref.{IsRef}

-- a reference is UTF-8
pub utf8_of_ref : (text : List ℕ) → IsRef text → IsUtf8 text
utf8_of_ref text reference =
    IsUtf8-from_ascii text (IsAscii-from_all text (λ k d within. let byte = reference.bytes k d within in omega arith))
