-- What a dialect is made of, beside what all dialects share: how it spells a leg's number, the mark of a sweep, a
-- price and a symbol.
use Rattle.std.specs.Prelude.{◌≡◌, ◌⊎◌, ◌≤◌, length, true, ℕ, Bool, List, [], ◌∷◌, map, Option, Some, Result, Ok}
use Rattle.std.specs.List.{AllByRecursion}
use Rattle.fix_text.specs.Tagged.{Tagged, value_of}
use Rattle.fix_tags.specs.Price.{price_of}
use Rattle.leg.specs.LegId.{LegIdParts, IsLegId}
use Rattle.leg.specs.Symbol.{SymbolParts, IsSymbol}
use Rattle.leg.specs.Terms.{IsPrice}
use Rattle.dialect.specs.Fields.{AreIn, has_no, has_each_once}
use Rattle.dialect.specs.Mark.{CarriesMark}
use Rattle.dialect.specs.ShortFields.{IsShortValue, IsShortField, IsExtraField}
use Rattle.dialect.specs.declared.fault.DialectFault.{DialectFault}

pub record SpellingParts : Type 0 where
  -- the text of a leg's number in ClOrdID (11), and the number that a text says
  pub id_text : LegIdParts → List ℕ
  pub id_of : List ℕ → Option LegIdParts
  -- the field that marks a leg of a sweep, and whether fields carry the mark
  pub mark : Tagged
  pub is_marked : List Tagged → Bool
  -- the text of a price in Price (44); every dialect reads a price in all its spellings
  pub price_text : ℕ → List ℕ
  -- the fields of a symbol, Symbol (55) and where it has one SymbolSfx (65), and the symbol that fields say, or the
  -- first fault
  pub symbol_fields : SymbolParts → List Tagged
  pub symbol_in : List Tagged → Result SymbolParts DialectFault
  -- the fields that every order carries besides, behind the others. They aren't read
  pub extra : List Tagged

-- the tags that all dialects share, which no mark may have
abbrev pub shared_tags : List ℕ
shared_tags = 11 ∷ 38 ∷ 40 ∷ 44 ∷ 54 ∷ 55 ∷ 65 ∷ 59 ∷ 60 ∷ []

-- the laws of a spelling
pub record IsSpelling (s : SpellingParts) : Type 0 where
  pub id_reads_back : (id : LegIdParts) → IsLegId id → s.id_of (s.id_text id) ≡ Some id
  pub id_says : (text : List ℕ) (id : LegIdParts) → s.id_of text ≡ Some id → IsLegId id × (text ≡ s.id_text id)
  pub id_short : (id : LegIdParts) → IsLegId id → IsShortValue (s.id_text id)
  pub mark_is_read : (fields : List Tagged) → value_of fields s.mark.tag ≡ Some s.mark.value → s.is_marked fields ≡ true
  pub mark_is_there : (fields : List Tagged) → s.is_marked fields ≡ true → CarriesMark s.mark fields
  pub mark_short : IsShortField s.mark
  pub mark_apart : AllByRecursion (λ tag. has_no tag (s.mark ∷ []) ≡ true) shared_tags
  pub price_reads_back : (price : ℕ) → IsPrice price → price_of (s.price_text price) ≡ Some price
  pub price_short : (price : ℕ) → IsPrice price → IsShortValue (s.price_text price)
  pub symbol_tags : (symbol : SymbolParts)
      → (map (λ f. f.tag) (s.symbol_fields symbol) ≡ 55 ∷ [])
      ⊎ (map (λ f. f.tag) (s.symbol_fields symbol) ≡ 55 ∷ 65 ∷ [])
  pub symbol_short : (symbol : SymbolParts) → IsSymbol symbol → AllByRecursion IsShortField (s.symbol_fields symbol)
  pub symbol_reads_back : (symbol : SymbolParts) (fields : List Tagged) → IsSymbol symbol
      → value_of fields 55 ≡ value_of (s.symbol_fields symbol) 55
      → value_of fields 65 ≡ value_of (s.symbol_fields symbol) 65
      → s.symbol_in fields ≡ Ok symbol
  pub symbol_says : (symbol : SymbolParts) (fields : List Tagged) → s.symbol_in fields ≡ Ok symbol
      → AreIn fields (s.symbol_fields symbol)
  -- the fields besides have none of the shared tags, nor the mark's, and no tag twice
  pub extra_few : length s.extra ≤ 16
  pub extra_short : AllByRecursion IsExtraField s.extra
  pub extra_apart : AllByRecursion (λ tag. has_no tag s.extra ≡ true) shared_tags
  pub extra_unmarked : has_no s.mark.tag s.extra ≡ true
  pub extra_once : has_each_once s.extra ≡ true
