-- The dialect Coded: a leg's number in hexadecimal digits, a mark of its own, and prices with four decimals.
use Rattle.std.specs.Prelude.{ℕ, List, [], ◌∷◌, ◌++◌, take, drop, Option, codes}
use Rattle.fix_tags.specs.Price.{price_four}
use Rattle.leg.specs.LegId.{LegIdParts}
use Rattle.leg.specs.Symbol.{joined_text}
use Rattle.dialect.specs.Fields.{required_as, has_value, is_text, field}
use Rattle.dialect.specs.Digits.{digits}
use Rattle.dialect.specs.FixedId.{fixed_id_of}
use Rattle.dialect.specs.JoinedSymbol.{joined_symbol_of}
use Rattle.dialect.specs.Spelling.{SpellingParts}

-- a leg's number: the sweep in 16 hexadecimal digits and the place in 2, as `000000000000000c03`
unfoldable pub coded_id_text : LegIdParts → List ℕ
coded_id_text id = digits 16 16 id.sweep ++ digits 16 2 id.place

-- the leg's number of a text in its two parts
unfoldable pub coded_id_of : List ℕ → Option LegIdParts
coded_id_of text = fixed_id_of 16 16 (take 16 text) (drop 16 text)

-- a leg's number as `000000000000000c03`, field 9001 `Y`, a price as `10.2500`, and a symbol as `BRK/B`
abbrev pub coded : SpellingParts
coded = record {
  id_text = coded_id_text;
  id_of = coded_id_of;
  mark = field 9001 (codes "Y");
  is_marked = λ fields. has_value (is_text (codes "Y")) fields 9001;
  price_text = price_four;
  symbol_fields = λ symbol. field 55 (joined_text 47 symbol) ∷ [];
  symbol_in = λ fields. required_as (joined_symbol_of 47) fields 55;
  extra = [];
}
