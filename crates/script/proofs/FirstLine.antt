-- The lines of a text, by the place of its first line end.
use Rattle.std.proofs.Common.{◌≡◌, ℕ, ◌+◌, ◌-◌, ◌<◌, true, false, eqb, List, [], ◌∷◌, length, take, drop, Some, None, refl, sym, ap, ◌∙◌, arith, inl, inr}
use Rattle.std.proofs.lemmas.Bool.{cases_Bool}
use Rattle.memchr.specs.Find.{IsFirstByte, is_byte}
use Rattle.text_pieces.specs.Pieces.{pieces, with_byte}
use Rattle.text_pieces.proofs.FirstPiece.{piece_found, piece_whole}
use Rattle.schedule.specs.Script.{lines_of, without_empty_end}

-- what stands before a text's pieces isn't the last of them
before_byte : (byte : ℕ) (later : List (List ℕ)) (line : List ℕ)
    → without_empty_end (line ∷ with_byte byte later) ≡ line ∷ without_empty_end (with_byte byte later)
before_byte byte [] [] = refl
before_byte byte [] (first ∷ line) = refl
before_byte byte (piece ∷ later) [] = refl
before_byte byte (piece ∷ later) (first ∷ line) = refl

before_end : (line : List ℕ) (later : List (List ℕ)) → without_empty_end (line ∷ [] ∷ later) ≡ line ∷ without_empty_end ([] ∷ later)
before_end [] later = refl
before_end (first ∷ line) later = refl

pub before_pieces : (text line : List ℕ) → without_empty_end (line ∷ pieces 10 text) ≡ line ∷ without_empty_end (pieces 10 text)
before_pieces [] [] = refl
before_pieces [] (first ∷ line) = refl
before_pieces (byte ∷ bytes) line =
    elim (cases_Bool (eqb byte 10)) [
      | inl is ↦ rw is (before_end line (pieces 10 bytes))
      | inr other ↦ rw other (before_byte byte (pieces 10 bytes) line)
    ]

pub line_found : (text : List ℕ) (at : ℕ) → IsFirstByte (is_byte 10) text (Some at)
    → lines_of text ≡ take at text ∷ lines_of (take (length text - (at + 1)) (drop (at + 1) text))
line_found text at first =
    ap without_empty_end (piece_found 10 text at first) ∙ before_pieces (take (length text - (at + 1)) (drop (at + 1) text)) (take at text)

one_line : (text : List ℕ) → 0 < length text → without_empty_end (text ∷ []) ≡ text ∷ []
one_line [] some = absurd (omega (arith, some))
one_line (byte ∷ bytes) some = refl

pub line_whole : (text : List ℕ) → 0 < length text → IsFirstByte (is_byte 10) text None → lines_of text ≡ text ∷ []
line_whole text some none = ap without_empty_end (piece_whole 10 text none) ∙ one_line text some
