-- A symbol that is read from one text: the root and, where there is one, the suffix behind a separator.
use Rattle.std.specs.Prelude.{ℕ, List, [], ◌∷◌, Option, Some, None}
use Rattle.std.specs.Result.{result_ok}
use Rattle.leg.specs.Symbol.{SymbolParts, symbol_of}
use Rattle.dialect.specs.Split.{parts_round}

-- the symbol of a root and of the suffix that stands behind its separator
abbrev pub suffixed_symbol_of : List ℕ → List ℕ → Option SymbolParts
suffixed_symbol_of root [] = None
suffixed_symbol_of root (c ∷ cs) = result_ok (symbol_of root (c ∷ cs))

-- the symbol of a text in its parts, or of a text with no separator
abbrev pub symbol_of_parts : List ℕ → Option (List ℕ × List ℕ) → Option SymbolParts
symbol_of_parts text None = result_ok (symbol_of text [])
symbol_of_parts text (Some parts) = suffixed_symbol_of parts.0 parts.1

-- what is read, with the first separator before the suffix
unfoldable pub joined_symbol_of : ℕ → List ℕ → Option SymbolParts
joined_symbol_of separator text = symbol_of_parts text (parts_round separator text)
