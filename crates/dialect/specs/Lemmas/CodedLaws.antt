-- Lemmas: the laws of the dialect Coded.
use Rattle.std.proofs.Common.{◌≡◌, inl, ℕ, ◌+◌, true, false, List, ◌++◌, length, take, drop, codes, Some, refl, sym, ap, ap₂, ◌∙◌, arith, length-append}
use Rattle.std.specs.Option.{option_map_or}
use Rattle.std.proofs.lemmas.List.{take-append-drop}
use Rattle.std.proofs.lemmas.List.Elements.{All-append}
use Rattle.std.proofs.lemmas.Slice.Eq.{bytes_eq-Decides}
use Rattle.fix_text.specs.Tagged.{Tagged, value_of}
use Rattle.fix_tags.proofs.ReadBack.{price_of-price_four}
use Rattle.leg.specs.LegId.{LegIdParts, IsLegId}
use Rattle.dialect.specs.Fields.{has_value, is_text}
use Rattle.dialect.specs.Lemmas.FieldLaws.{short_field}
use Rattle.dialect.specs.Mark.{is_among, CarriesMark}
use Rattle.dialect.specs.Lemmas.MarkLaws.{value_passes}
use Rattle.dialect.specs.ShortFields.{IsShortValue}
use Rattle.dialect.specs.Digits.{digits}
use Rattle.dialect.specs.Lemmas.DigitsLaws.{digits_bytes, length-digits}
use Rattle.dialect.specs.FixedId.{fixed_id_of}
use Rattle.dialect.specs.Lemmas.FixedIdLaws.{fixed_id_of-digits, fixed_id_of-Some}
use Rattle.dialect.specs.Lemmas.SymbolLaws.{joined_symbol_back, joined_symbol_says}
use Rattle.dialect.specs.Lemmas.ValueLaws.{IsNotSoh, NoSoh, short_value, short_byte, short_price_four, short_symbol}
use Rattle.dialect.specs.Spelling.{IsSpelling}
use Rattle.dialect.specs.Coded.{coded, coded_id_text, coded_id_of}

-- the first 16 bytes are the sweep's
parts_again : (id : LegIdParts)
    → (take 16 (coded_id_text id) ≡ digits 16 16 id.sweep) × (drop 16 (coded_id_text id) ≡ digits 16 2 id.place)
unfolding coded_id_text
parts_again id = (refl, refl)

id_back : (id : LegIdParts) → IsLegId id → coded_id_of (coded_id_text id) ≡ Some id
unfolding coded_id_of
id_back id range =
    let parts = parts_again id in
    ap₂ (λ xs ys. fixed_id_of 16 16 xs ys) parts.0 parts.1
    ∙ fixed_id_of-digits 16 16 id (omega arith) (omega arith) range (omega (arith, range.sweep_high))
    (omega (arith, range.place_high))

id_says : (text : List ℕ) (id : LegIdParts) → coded_id_of text ≡ Some id → IsLegId id × (text ≡ coded_id_text id)
unfolding coded_id_of coded_id_text
id_says text id e =
    let is = fixed_id_of-Some 16 16 (take 16 text) (drop 16 text) id (omega arith) (omega arith) e in
    (is.in_range, sym (take-append-drop 16 text) ∙ ap₂ (λ xs ys. xs ++ ys) (sym is.sweep_is) (sym is.place_is))

no_soh : (width n : ℕ) → NoSoh (digits 16 width n)
no_soh width n = λ k d within. let byte = digits_bytes 16 width n (omega arith) (omega arith) k d within in
    λ e. omega arith

short_id : (id : LegIdParts) → IsLegId id → IsShortValue (coded_id_text id)
unfolding coded_id_text
short_id id range =
    let front = digits 16 16 id.sweep in
    let back = digits 16 2 id.place in
    let whole : length (front ++ back) ≡ 18 = length-append front back
    ∙ ap₂ (λ m n. m + n) (length-digits 16 16 id.sweep) (length-digits 16 2 id.place) in
    short_value (front ++ back) (omega (arith, whole)) (omega (arith, whole))
    (All-append IsNotSoh front back (no_soh 16 id.sweep) (no_soh 2 id.place))

mark_read : (fields : List Tagged) → value_of fields 9001 ≡ Some (codes "Y")
    → has_value (is_text (codes "Y")) fields 9001 ≡ true
mark_read fields there = ap (λ o. option_map_or (is_text (codes "Y")) o false) there

among_itself : is_among (codes "Y") (codes "Y") ≡ true
unfolding is_among
among_itself = refl

mark_there : (fields : List Tagged) → has_value (is_text (codes "Y")) fields 9001 ≡ true → CarriesMark coded.mark fields
mark_there fields is =
    let found = value_passes (is_text (codes "Y")) (value_of fields 9001) is in
    let text_is : found.0 ≡ codes "Y" = (bytes_eq-Decides found.0 (codes "Y")).0 found.2 in
    record { text = found.0; there = found.1; among = ap (is_among (codes "Y")) text_is ∙ among_itself }

pub coded_is_spelling : IsSpelling coded
coded_is_spelling = record {
  id_reads_back = id_back;
  id_says = id_says;
  id_short = short_id;
  mark_is_read = mark_read;
  mark_is_there = mark_there;
  mark_short = short_field 9001 _ refl (short_byte 89 (λ e. omega arith));
  mark_apart = (refl, (refl, (refl, (refl, (refl, (refl, (refl, (refl, (refl, tt)))))))));
  price_reads_back = λ price range. price_of-price_four price range.low range.high;
  price_short = short_price_four;
  symbol_tags = λ symbol. inl refl;
  symbol_short = λ symbol range. (short_field 55 _ refl (short_symbol 47 symbol (λ e. omega arith) range), tt);
  symbol_reads_back = λ symbol fields range root suffix. joined_symbol_back 47 symbol fields (omega arith) range root;
  symbol_says = λ symbol fields read. joined_symbol_says 47 symbol fields read;
  extra_few = omega arith;
  extra_short = tt;
  extra_apart = (refl, (refl, (refl, (refl, (refl, (refl, (refl, (refl, (refl, tt)))))))));
  extra_unmarked = refl;
  extra_once = refl;
}
