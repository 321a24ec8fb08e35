-- The words of a text that was written word by word.
use Rattle.std.proofs.Common.{◌≡◌, ℕ, ◌≤◌, false, eqb, List, [], ◌∷◌, ◌++◌, length, refl, ap, ◌∙◌, arith, append_assoc}
use Rattle.std.specs.List.{All, AllByRecursion}
use Rattle.std.proofs.lemmas.Bool.Decides.{nat_tests}
use Rattle.std.proofs.lemmas.List.Elements.{recursion_from_All}
use Rattle.text_pieces.specs.Pieces.{pieces, with_byte}
use Rattle.sweep_text.specs.Words.{non_empty, words_of}

-- a byte that is printable, and no space
pub record IsWordByte (byte : ℕ) : Type 0 where
  pub from : 33 ≤ byte
  pub to : byte ≤ 126

-- a word has a byte, and each of its bytes is one of words
pub record IsWord (text : List ℕ) : Type 0 where
  pub some : 1 ≤ length text
  pub bytes : All IsWordByte text

no_space : (byte : ℕ) → IsWordByte byte → eqb byte 32 ≡ false
no_space byte is = grind (arith, nat_tests)

-- a space ends the first piece
first_piece : (text rest : List ℕ) → AllByRecursion IsWordByte text
    → pieces 32 (text ++ 32 ∷ rest) ≡ text ∷ pieces 32 rest
first_piece [] rest bytes = refl
first_piece (byte ∷ text) rest bytes =
    rw (no_space byte bytes.0) (ap (with_byte byte) (first_piece text rest bytes.1))

-- a text with no space is one piece
one_piece : (text : List ℕ) → AllByRecursion IsWordByte text → pieces 32 text ≡ text ∷ []
one_piece [] bytes = refl
one_piece (byte ∷ text) bytes = rw (no_space byte bytes.0) (ap (with_byte byte) (one_piece text bytes.1))

-- a piece that is a word
kept : (word : List ℕ) (rest : List (List ℕ)) → 1 ≤ length word → non_empty (word ∷ rest) ≡ word ∷ non_empty rest
kept [] rest some = absurd (omega arith)
kept (byte ∷ bytes) rest some = refl

-- a word, a space and what is behind it
pub word_then : (word rest : List ℕ) → IsWord word → words_of (word ++ 32 ∷ rest) ≡ word ∷ words_of rest
word_then word rest is =
    ap non_empty (first_piece word rest (recursion_from_All IsWordByte word is.bytes))
    ∙ kept word (pieces 32 rest) is.some

-- the last word
pub last_word : (word : List ℕ) → IsWord word → words_of word ≡ word ∷ []
last_word word is =
    ap non_empty (one_piece word (recursion_from_All IsWordByte word is.bytes)) ∙ kept word [] is.some

-- the first word of a text that goes on
pub next_word : (word text rest : List ℕ) → IsWord word
    → words_of ((word ++ 32 ∷ text) ++ rest) ≡ word ∷ words_of (text ++ rest)
next_word word text rest is = ap words_of (append_assoc word (32 ∷ text) rest) ∙ word_then word (text ++ rest) is
