-- What is written of a leg is words.
use Rattle.std.proofs.Common.{◌≡◌, ℕ, ◌<◌, ◌≤◌, ◌^◌, Bool, true, ◌&&◌, nat_le, List, [], length, refl, get_or, inl, inr, sym, subst, ap, arith, decimal, codes}
use Rattle.std.specs.List.{All, list_all}
use Rattle.std.proofs.lemmas.Bool.Decides.{nat_tests}
use Rattle.std.proofs.lemmas.List.Elements.{All-from_recursion, All-weaker}
use Rattle.std.proofs.lemmas.List.Sums.{AllPass-from_list_all}
use Rattle.std.proofs.lemmas.Option.{slice_get-get_or}
use Rattle.fix_tags.specs.Price.{price_short}
use Rattle.fix_tags.proofs.Written.{IsValueByte, IsValueText, IsValueText-decimal, IsValueText-price_short, nonempty-decimal, nonempty-price_short}
use Rattle.leg.specs.Side.{side_text}
use Rattle.leg.specs.Symbol.{SymbolParts, IsSymbol, symbol_text}
use Rattle.leg.specs.declared.side.Side.{Side}
use Rattle.leg.specs.declared.side.Side.TheVariants.{Buy, Sell}
use Rattle.leg.proofs.SymbolText.{IsSymbolByte, symbol_bytes, length-joined_text}
use Rattle.desk_words.specs.VenueName.{IsNameByte, IsVenueName}
use Rattle.sweep_text.specs.Written.{AreNames, name_text, name_of}
use Rattle.sweep_text.proofs.WordsBack.{IsWordByte, IsWord}

name_byte : (byte : ℕ) → IsNameByte byte → IsWordByte byte
name_byte byte is = record { from = omega arith; to = omega arith }

symbol_byte : (byte : ℕ) → IsSymbolByte 46 byte → IsWordByte byte
symbol_byte byte (inl dot) = record { from = omega arith; to = omega arith }
symbol_byte byte (inr letter) = record { from = omega arith; to = omega arith }

value_byte : (byte : ℕ) → IsValueByte byte → IsWordByte byte
value_byte byte is = record { from = omega (arith, is.0); to = omega (arith, is.1) }

value_bytes : (text : List ℕ) → IsValueText text → All IsWordByte text
value_bytes text is =
    All-weaker IsValueByte IsWordByte value_byte text (All-from_recursion IsValueByte text is)

pub name_word : (name : List ℕ) → IsVenueName name → IsWord name
name_word name is =
    record { some = is.some; bytes = All-weaker IsNameByte IsWordByte name_byte name is.bytes }

-- a venue that has a name is called by it
pub name_at : (names : List (List ℕ)) (venue : ℕ) → venue < length names
    → name_of names venue ≡ get_or names venue []
name_at names venue within = ap name_text (slice_get-get_or names venue [] within)

pub venue_word : (names : List (List ℕ)) (venue : ℕ) → AreNames names → venue < length names
    → IsWord (name_of names venue)
venue_word names venue are within =
    subst IsWord (sym (name_at names venue within)) (name_word (get_or names venue []) (are.each venue [] within))

pub symbol_word : (symbol : SymbolParts) → IsSymbol symbol → IsWord (symbol_text symbol)
symbol_word symbol range = record {
  some = (length-joined_text 46 symbol range).some;
  bytes = All-weaker (IsSymbolByte 46) IsWordByte symbol_byte (symbol_text symbol) (symbol_bytes 46 symbol range);
}

-- whether a byte may stand in a word
abbrev is_word_byte : ℕ → Bool
is_word_byte byte = nat_le 33 byte && nat_le byte 126

word_byte : (byte : ℕ) → is_word_byte byte ≡ true → IsWordByte byte
word_byte byte passes = record { from = grind (arith, nat_tests); to = grind (arith, nat_tests) }

-- what passes the test byte by byte is made of bytes of words
pub word_bytes : (text : List ℕ) → list_all is_word_byte text ≡ true → All IsWordByte text
word_bytes text passes =
    let each = AllPass-from_list_all is_word_byte text passes in λ k d within. word_byte _ (each k d within)

side_bytes : (side : Side) → All IsWordByte (side_text side)
side_bytes Buy = word_bytes (codes "buy") refl
side_bytes Sell = word_bytes (codes "sell") refl

side_some : (side : Side) → 1 ≤ length (side_text side)
side_some Buy = omega arith
side_some Sell = omega arith

pub side_word : (side : Side) → IsWord (side_text side)
side_word side = record { some = side_some side; bytes = side_bytes side }

pub number_word : (n : ℕ) → n < 2 ^ 64 → IsWord (decimal n)
number_word n fits = record {
  some = nonempty-decimal n fits;
  bytes = value_bytes (decimal n) (IsValueText-decimal n fits);
}

pub price_word : (price : ℕ) → price < 2 ^ 64 → IsWord (price_short price)
price_word price fits = record {
  some = nonempty-price_short price fits;
  bytes = value_bytes (price_short price) (IsValueText-price_short price fits);
}
