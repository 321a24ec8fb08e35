-- A spelling as data: what a table says, and which tables are taken.
use Rattle.std.specs.Prelude.{ℕ, zero, suc, ◌/◌, ◌-◌, Bool, true, false, ◌&&◌, not, ◌==◌, nat_le, nat_lt, List, [], ◌∷◌, ◌++◌, length, map, take, drop, Option, option_and_then, Result, if◌then◌else◌}
use Rattle.std.specs.List.{list_all}
use Rattle.fix_text.specs.Tagged.{Tagged}
use Rattle.fix_text.specs.Text.{is_writable_tag, is_writable_value}
use Rattle.fix_tags.specs.App.{is_header_tag}
use Rattle.fix_tags.specs.Price.{price_short, price_four}
use Rattle.leg.specs.LegId.{LegIdParts, leg_id_text}
use Rattle.leg.specs.Symbol.{SymbolParts, joined_text}
use Rattle.dialect.specs.declared.fault.DialectFault.{DialectFault}
use Rattle.dialect.specs.declared.words.IdShape.{IdShape}
use Rattle.dialect.specs.declared.words.IdShape.TheVariants as id
use Rattle.dialect.specs.declared.words.PriceShape.{PriceShape}
use Rattle.dialect.specs.declared.words.PriceShape.TheVariants as price
use Rattle.dialect.specs.declared.words.SymbolShape.{SymbolShape}
use Rattle.dialect.specs.declared.words.SymbolShape.TheVariants as symbol
use Rattle.dialect.specs.declared.words.Words.{Words}
use Rattle.dialect.specs.declared.words.Extra.{Extra}
use Rattle.dialect.specs.Fields.{required_as, has_value, is_text, field, has_no, has_each_once}
use Rattle.dialect.specs.Split.{parts_round}
use Rattle.dialect.specs.Mark.{is_among}
use Rattle.dialect.specs.Digits.{digits}
use Rattle.dialect.specs.FixedId.{fixed_id_of}
use Rattle.dialect.specs.JoinedSymbol.{joined_symbol_of}
use Rattle.dialect.specs.Plain.{plain, plain_id_of}
use Rattle.dialect.specs.Split4.{split4_symbol_fields, split4_symbol_in}
use Rattle.dialect.specs.Spelling.{SpellingParts, shared_tags}

-- a leg's number
unfoldable pub shaped_id_text : IdShape → LegIdParts → List ℕ
shaped_id_text id.Short i = leg_id_text i
shaped_id_text (id.Parted base width separator) i = digits base width i.sweep ++ separator ∷ digits base 2 i.place
shaped_id_text (id.Joined base width) i = digits base width i.sweep ++ digits base 2 i.place

unfoldable pub shaped_id_of : IdShape → List ℕ → Option LegIdParts
shaped_id_of id.Short text = plain_id_of text
shaped_id_of (id.Parted base width separator) text =
    option_and_then (λ (parts : List ℕ × List ℕ). fixed_id_of base width parts.0 parts.1) (parts_round separator text)
shaped_id_of (id.Joined base width) text = fixed_id_of base width (take width text) (drop width text)

-- the longer of two texts, or the first
abbrev pub longer : List ℕ → List ℕ → List ℕ
longer text other = if nat_lt (length text) (length other) then other else text

-- a price with at least so many decimals, 1 to 4: the short text, or the one in full without its last decimals
abbrev pub price_least : ℕ → ℕ → List ℕ
price_least least p = longer (price_short p) (take (length (price_four p) - (4 - least)) (price_four p))

-- a price
unfoldable pub shaped_price : PriceShape → ℕ → List ℕ
shaped_price price.Short p = price_short p
shaped_price price.Four p = price_four p
shaped_price (price.Least more) p = price_least (suc more) p

-- a symbol
unfoldable pub shaped_symbol_fields : SymbolShape → SymbolParts → List Tagged
shaped_symbol_fields (symbol.Joined separator) s = field 55 (joined_text separator s) ∷ []
shaped_symbol_fields symbol.Parted s = split4_symbol_fields s

unfoldable pub shaped_symbol_in : SymbolShape → List Tagged → Result SymbolParts DialectFault
shaped_symbol_in (symbol.Joined separator) fields = required_as (joined_symbol_of separator) fields 55
shaped_symbol_in symbol.Parted fields = split4_symbol_in fields

-- the mark
abbrev pub mark_of : Words → Tagged
mark_of w = field w.mark_tag w.mark_value.items

abbrev pub mark_test : Bool → List ℕ → List ℕ → Bool
mark_test among value text = if among then is_among value text else is_text value text

-- the fields that every order carries besides
abbrev pub extra_field : Extra → Tagged
extra_field e = field e.tag e.value.items

abbrev pub extra_of : Words → List Tagged
extra_of w = map extra_field w.extra.items

-- what a table says
abbrev pub words_spelling : Words → SpellingParts
words_spelling w = record {
  id_text = shaped_id_text w.id;
  id_of = shaped_id_of w.id;
  mark = mark_of w;
  is_marked = λ fields. has_value (mark_test w.mark_among w.mark_value.items) fields w.mark_tag;
  price_text = shaped_price w.price;
  symbol_fields = shaped_symbol_fields w.symbol;
  symbol_in = shaped_symbol_in w.symbol;
  extra = extra_of w;
}

-- what is left of a number behind its last digits, this many: nothing, where the width has room for it
abbrev pub left_of : ℕ → ℕ → ℕ → ℕ
left_of base zero n = n
left_of base (suc width) n = left_of base width (n / base)

-- a base from 2 to 16 of which two digits have room for each place, and a width that has room for each sweep
abbrev pub is_base : ℕ → Bool
is_base base = nat_le 2 base && (nat_le base 16 && left_of base 2 32 == 0)

abbrev pub is_width : ℕ → ℕ → Bool
is_width base width = nat_le width 21 && left_of base width 999_999_999_999 == 0

-- a byte below the digits and the letters, that can be seen
abbrev pub is_part_byte : ℕ → Bool
is_part_byte c = nat_lt 32 c && nat_lt c 48

unfoldable pub is_id_shape : IdShape → Bool
is_id_shape id.Short = true
is_id_shape (id.Parted base width separator) = is_base base && (is_width base width && is_part_byte separator)
is_id_shape (id.Joined base width) = is_base base && is_width base width

unfoldable pub is_price_shape : PriceShape → Bool
is_price_shape price.Short = true
is_price_shape price.Four = true
is_price_shape (price.Least more) = nat_le more 3

unfoldable pub is_symbol_shape : SymbolShape → Bool
is_symbol_shape (symbol.Joined separator) = is_part_byte separator
is_symbol_shape symbol.Parted = true

-- a mark that is none of the shared tags, and stands among its own values
unfoldable pub is_mark : Tagged → Bool
is_mark mark =
    (is_writable_tag mark.tag && not (is_header_tag mark.tag))
    && (list_all (λ tag. has_no tag (mark ∷ [])) shared_tags
    && (is_writable_value mark.value && (nat_le (length mark.value) 24 && is_among mark.value mark.value)))

-- a field that an order may carry besides: one that an application message takes, of at most 24 bytes
abbrev pub is_extra_field : Tagged → Bool
is_extra_field f =
    (is_writable_tag f.tag && not (is_header_tag f.tag)) && (is_writable_value f.value && nat_le (length f.value) 24)

-- sixteen at most, with none of the shared tags nor the mark's, and no tag twice
unfoldable pub are_extra : ℕ → List Tagged → Bool
are_extra mark fields =
    nat_le (length fields) 16
    && (list_all is_extra_field fields
    && (list_all (λ tag. has_no tag fields) shared_tags && (has_no mark fields && has_each_once fields)))

-- whether a table is taken
unfoldable pub is_words : Words → Bool
is_words w =
    is_id_shape w.id && (is_mark (mark_of w)
    && (is_symbol_shape w.symbol && (is_price_shape w.price && are_extra w.mark_tag (extra_of w))))

-- the spelling of a table that is taken. No other is ever made; for it stands Plain, so that the laws hold of all
abbrev pub spelling_by : Bool → Words → SpellingParts
spelling_by true w = words_spelling w
spelling_by false w = plain

abbrev pub worded : Words → SpellingParts
worded w = spelling_by (is_words w) w
