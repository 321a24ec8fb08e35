-- How prices and symbols are spelled, as texts.
use Rattle.std.specs.Prelude.{ℕ, ◌==◌, List, [], ◌∷◌, codes, Option, Some, None, if◌then◌else◌}
use Rattle.std.specs.Str.{bytes_eq}
use Rattle.dialect.specs.declared.words.PriceShape.{PriceShape}
use Rattle.dialect.specs.declared.words.PriceShape.TheVariants.{Short, Four, Least}
use Rattle.dialect.specs.declared.words.SymbolShape.{SymbolShape}
use Rattle.dialect.specs.declared.words.SymbolShape.TheVariants as symbol

-- prices of at least so many decimals, 1 to 4
abbrev pub price_of_decimals : ℕ → Option PriceShape
price_of_decimals decimals =
    if decimals == 1 then Some (Least 0)
    else (if decimals == 2 then Some (Least 1)
    else (if decimals == 3 then Some (Least 2) else (if decimals == 4 then Some Four else None)))

-- prices as a text names them
abbrev pub price_of_text : List ℕ → Option PriceShape
price_of_text text =
    if bytes_eq text (codes "short") then Some Short
    else (if bytes_eq text (codes "1") then Some (Least 0)
    else (if bytes_eq text (codes "2") then Some (Least 1)
    else (if bytes_eq text (codes "3") then Some (Least 2)
    else (if bytes_eq text (codes "4") then Some Four else None))))

-- what stands before a suffix
abbrev pub one_byte : List ℕ → Option SymbolShape
one_byte (c ∷ []) = Some (symbol.Joined c)
one_byte _ = None

-- symbols as a text names them: what stands before a suffix, or that the suffix stands in a field of its own
abbrev pub symbol_of_text : List ℕ → Option SymbolShape
symbol_of_text text =
    if bytes_eq text (codes "dot") then Some (symbol.Joined 46)
    else (if bytes_eq text (codes "slash") then Some (symbol.Joined 47)
    else (if bytes_eq text (codes "55+65") then Some symbol.Parted else one_byte text))
