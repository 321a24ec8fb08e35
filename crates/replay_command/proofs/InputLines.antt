-- The lines of the bytes that an input has left, as one line after the other is read.
use Rattle.std.proofs.Common.{◌≡◌, ℕ, suc, ◌<◌, true, false, eqb, List, [], ◌∷◌, length, refl, sym, ap, ◌∙◌, inl, inr, arith}
use Rattle.std.specs.Prelude.{◌==◌, if◌then◌else◌}
use Rattle.std.proofs.lemmas.Bool.{cases_Bool}
use Rattle.std.specs.Io.BufRead.{take_through, drop_through}
use Rattle.text_pieces.specs.Pieces.{pieces, with_byte}
use Rattle.schedule.specs.Script.{lines_of, without_empty_end}
use Rattle.script.proofs.FirstLine.{before_pieces}

-- the bytes before the first line end, and the pieces behind that
abbrev pub first_piece : List ℕ → List ℕ
first_piece [] = []
first_piece (byte ∷ bytes) = if byte == 10 then [] else byte ∷ first_piece bytes

abbrev pub pieces_behind : List ℕ → List (List ℕ)
pieces_behind [] = []
pieces_behind (byte ∷ bytes) = if byte == 10 then pieces 10 bytes else pieces_behind bytes

parted : (bytes : List ℕ) → pieces 10 bytes ≡ first_piece bytes ∷ pieces_behind bytes
parted [] = refl
parted (byte ∷ bytes) =
    elim (cases_Bool (eqb byte 10)) [
      | inl is ↦ rw is refl
      | inr other ↦ rw other (ap (with_byte byte) (parted bytes))
    ]

-- behind a line that isn't empty
behind : (first : ℕ) (line bytes : List ℕ)
    → without_empty_end ((first ∷ line) ∷ pieces_behind bytes) ≡ (first ∷ line) ∷ lines_of (drop_through 10 bytes)
behind first line [] = refl
behind first line (byte ∷ bytes) =
    elim (cases_Bool (eqb byte 10)) [
      | inl is ↦ rw is (before_pieces bytes (first ∷ line))
      | inr other ↦ rw other (behind first line bytes)
    ]

-- the first line, and those behind it
one_more : (byte : ℕ) (bytes : List ℕ)
    → lines_of (byte ∷ bytes) ≡ first_piece (byte ∷ bytes) ∷ lines_of (drop_through 10 (byte ∷ bytes))
one_more byte bytes =
    elim (cases_Bool (eqb byte 10)) [
      | inl is ↦ rw is (before_pieces bytes [])
      | inr other ↦ rw other (ap (λ (ps : List (List ℕ)). without_empty_end (with_byte byte ps)) (parted bytes)
          ∙ behind byte (first_piece bytes) bytes)
    ]

-- of a line that was read with its end
same_piece : (bytes : List ℕ) → first_piece (take_through 10 bytes) ≡ first_piece bytes
same_piece [] = refl
same_piece (byte ∷ bytes) =
    elim (cases_Bool (eqb byte 10)) [
      | inl is ↦ rw is (rw is refl)
      | inr other ↦ rw other (rw other (ap (λ (piece : List ℕ). byte ∷ piece) (same_piece bytes)))
    ]

no_more : (bytes : List ℕ) → drop_through 10 (take_through 10 bytes) ≡ []
no_more [] = refl
no_more (byte ∷ bytes) =
    elim (cases_Bool (eqb byte 10)) [
      | inl is ↦ rw is (rw is refl)
      | inr other ↦ rw other (rw other (no_more bytes))
    ]

first_of : (line : List ℕ) (lines : List (List ℕ)) (first : List ℕ) (others : List (List ℕ))
    → line ∷ lines ≡ first ∷ others → line ≡ first
first_of line lines first others e = cc

lines_of_read : (bytes read line : List ℕ) (lines : List (List ℕ)) → 0 < length read → read ≡ take_through 10 bytes
    → lines_of read ≡ line ∷ lines → line ≡ first_piece bytes
lines_of_read bytes [] line lines some is first = absurd (omega (arith, some))
lines_of_read bytes (byte ∷ read) line lines some is first =
    first_of line lines (first_piece (byte ∷ read)) (lines_of (drop_through 10 (byte ∷ read)))
    (sym first ∙ one_more byte read)
    ∙ ap first_piece is ∙ same_piece bytes

pub next_line : (bytes read line : List ℕ) (lines : List (List ℕ)) → 0 < length read → read ≡ take_through 10 bytes
    → lines_of read ≡ line ∷ lines → lines_of bytes ≡ line ∷ lines_of (drop_through 10 bytes)
next_line [] read line lines some is first = absurd (omega (arith, some, ap length is))
next_line (byte ∷ bytes) read line lines some is first =
    one_more byte bytes
    ∙ ap (λ (l : List ℕ). l ∷ lines_of (drop_through 10 (byte ∷ bytes)))
    (sym (lines_of_read (byte ∷ bytes) read line lines some is first))
