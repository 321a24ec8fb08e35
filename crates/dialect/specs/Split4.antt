-- The dialect Split4: numbers in full, prices with four decimals, and a symbol in two fields.
use Rattle.std.specs.Prelude.{ℕ, List, [], ◌∷◌, ◌++◌, Option, Some, None, option_and_then, codes, Result, Ok}
use Rattle.std.specs.Option.{ok_or}
use Rattle.std.specs.Result.{result_ok}
use Rattle.fix_text.specs.Then.{◌>>=◌}
use Rattle.fix_text.specs.Tagged.{Tagged, value_of}
use Rattle.fix_tags.specs.Price.{price_four}
use Rattle.leg.specs.LegId.{LegIdParts}
use Rattle.leg.specs.Symbol.{SymbolParts, symbol_of}
use Rattle.dialect.specs.declared.fault.DialectFault.{DialectFault}
use Rattle.dialect.specs.declared.fault.DialectFault.TheVariants.{Bad}
use Rattle.dialect.specs.Fields.{required_as, field}
use Rattle.dialect.specs.Split.{parts_round}
use Rattle.dialect.specs.Digits.{digits}
use Rattle.dialect.specs.FixedId.{fixed_id_of}
use Rattle.dialect.specs.Mark.{sweep_mark, has_sweep_mark}
use Rattle.dialect.specs.JoinedSymbol.{suffixed_symbol_of}
use Rattle.dialect.specs.Spelling.{SpellingParts}

-- a leg's number: the sweep in 12 digits, `-` and the place in 2, as `000000000012-03`
unfoldable pub split4_id_text : LegIdParts → List ℕ
split4_id_text id = digits 10 12 id.sweep ++ codes "-" ++ digits 10 2 id.place

-- the leg's number of a text in its two parts
unfoldable pub split4_id_of : List ℕ → Option LegIdParts
split4_id_of text =
    option_and_then (λ (parts : List ℕ × List ℕ). fixed_id_of 10 12 parts.0 parts.1) (parts_round 45 text)

-- SymbolSfx (65), where there is a suffix
abbrev pub suffix_fields : List ℕ → List Tagged
suffix_fields [] = []
suffix_fields (c ∷ cs) = field 65 (c ∷ cs) ∷ []

-- Symbol (55) has the root alone
abbrev pub split4_symbol_fields : SymbolParts → List Tagged
split4_symbol_fields symbol = field 55 symbol.root ∷ suffix_fields symbol.suffix

-- the symbol of a root alone, 1 to 6 letters
abbrev pub root_of : List ℕ → Option SymbolParts
root_of text = result_ok (symbol_of text [])

-- the symbol with the suffix that field 65 has, where it is there: 1 to 3 letters
abbrev pub with_suffix : SymbolParts → Option (List ℕ) → Result SymbolParts DialectFault
with_suffix symbol None = Ok symbol
with_suffix symbol (Some suffix) = ok_or (suffixed_symbol_of symbol.root suffix) (Bad 65)

-- the symbol of both fields, the root tried first
unfoldable pub split4_symbol_in : List Tagged → Result SymbolParts DialectFault
split4_symbol_in fields = do
  symbol ← required_as root_of fields 55
  with_suffix symbol (value_of fields 65)

-- a leg's number as `000000000012-03`, ExecInst `f`, a price as `10.2500`, and a symbol as `BRK` and `B`
abbrev pub split4 : SpellingParts
split4 = record {
  id_text = split4_id_text;
  id_of = split4_id_of;
  mark = sweep_mark;
  is_marked = has_sweep_mark;
  price_text = price_four;
  symbol_fields = split4_symbol_fields;
  symbol_in = split4_symbol_in;
  extra = [];
}
