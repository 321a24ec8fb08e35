-- What a sweep is over, in words.
use Rattle.std.specs.Prelude.{ℕ, List, ◌++◌, codes, decimal}
use Rattle.leg.specs.Symbol.{SymbolParts, symbol_text}
use Rattle.order_limits.specs.declared.over.Over.{Over}
use Rattle.order_limits.specs.declared.over.Over.TheVariants.{LegShares, LegDollars, SweepDollars, DayDollars, OtherSymbol}
use Rattle.order_limits.specs.Dollars.{dollars_text}

-- the code of a limit
abbrev pub over_code : Over → List ℕ
over_code (LegShares symbol shares limit) = codes "R11"
over_code (LegDollars symbol dollars limit) = codes "R12"
over_code (SweepDollars dollars limit) = codes "R13"
over_code (DayDollars dollars limit) = codes "R14"
over_code (OtherSymbol symbol) = codes "R15"

-- a symbol, as `BRK.B`
unfoldable pub symbol_word : SymbolParts → List ℕ
symbol_word symbol = symbol_text symbol

-- which limit a sweep is over, as `IBM has 30000 shares, and a leg may have 20000`
abbrev pub over_text : Over → List ℕ
over_text (LegShares symbol shares limit) =
    symbol_word symbol ++ codes " has " ++ decimal shares ++ codes " shares, and a leg may have " ++ decimal limit
over_text (LegDollars symbol dollars limit) =
    symbol_word symbol ++ codes " has " ++ dollars_text dollars.ten_thousandths
    ++ codes " dollars, and a leg may have " ++ dollars_text limit.ten_thousandths
over_text (SweepDollars dollars limit) =
    codes "it has " ++ dollars_text dollars.ten_thousandths ++ codes " dollars, and a sweep may have "
    ++ dollars_text limit.ten_thousandths
over_text (DayDollars dollars limit) =
    codes "the day would have " ++ dollars_text dollars.ten_thousandths ++ codes " dollars, and may have "
    ++ dollars_text limit.ten_thousandths
over_text (OtherSymbol symbol) = symbol_word symbol ++ codes " isn't among the symbols of the limits"
