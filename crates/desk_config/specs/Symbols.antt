-- The symbols that may be ordered: the array `symbols` of `[limits]`.
use Rattle.std.specs.Prelude.{◌≡◌, ℕ, ◌+◌, Bool, ◌&&◌, nat_le, List, [], ◌∷◌, ◌++◌, length, codes, Option, Some, None, option_and_then, Result, Ok, Err, if◌then◌else◌, Vec}
use Rattle.std.specs.declared.alloc.Global.{Global}
use Rattle.toml.specs.Data.{Data, array, as_str, get, Items, no_items, item}
use Rattle.leg.specs.Symbol.{SymbolParts}
use Rattle.dialect.specs.JoinedSymbol.{joined_symbol_of}
use Rattle.desk_config.specs.declared.fault.ConfigFault.{ConfigFault}
use Rattle.desk_config.specs.declared.fault.ConfigFault.TheVariants as fault
use Rattle.desk_config.specs.declared.fault.Fault.{Fault}
use Rattle.desk_config.specs.declared.fault.Fault.TheVariants.{Bad, Symbol}
use Rattle.desk_config.specs.declared.fault.KeyFault.{KeyFault}
use Rattle.desk_config.specs.declared.key.Key.TheVariants.{Symbols}
use Rattle.desk_config.specs.declared.place.Place.TheVariants as place
use Rattle.desk_config.specs.Found.{found_of, items_count}
use Rattle.desk_config.specs.Reading.{and_then, in_place}

-- the symbol that a value is, as `BRK.B`
abbrev pub symbol_at : Data → Option SymbolParts
symbol_at given = option_and_then (joined_symbol_of 46) (as_str given)

-- a symbol, or the fault that the value of this number is none
abbrev pub symbol_or_bad : ℕ → Data → Option SymbolParts → Result SymbolParts Fault
symbol_or_bad number given (Some symbol) = Ok symbol
symbol_or_bad number given None = Err (Symbol number (found_of given))

-- what the next value says, or its fault
unfoldable pub next_symbol : List SymbolParts → Data → Result SymbolParts KeyFault
next_symbol earlier given = in_place place.Limits (symbol_or_bad (length earlier + 1) given (symbol_at given))

-- what the values that are left say, behind earlier symbols, or the first fault
unfoldable pub symbols_from : List SymbolParts → Items → Result (List SymbolParts) KeyFault
symbols_from earlier no_items = Ok earlier
symbols_from earlier (item given rest) =
    and_then (next_symbol earlier given) (λ symbol. symbols_from (earlier ++ symbol ∷ []) rest)

-- whether there may be this many symbols
abbrev pub is_symbol_count : ℕ → Bool
is_symbol_count n = nat_le 1 n && nat_le n 256

-- the values of an array of 1 to 256
unfoldable pub symbol_items : Data → Result Items Fault
symbol_items (array items) =
    if is_symbol_count (items_count items) then Ok items else Err (Bad Symbols (found_of (array items)))
symbol_items given = Err (Bad Symbols (found_of given))

-- the value of `symbols`, where `[limits]` has it
abbrev pub symbols_at : Data → Option Data
symbols_at file = option_and_then (get (codes "symbols")) (get (codes "limits") file)

-- none where it hasn't
abbrev pub symbols_found : Option Data → Result (List SymbolParts) KeyFault
symbols_found None = Ok []
symbols_found (Some given) = and_then (in_place place.Limits (symbol_items given)) (λ items. symbols_from [] items)

-- what `symbols` says, or the first fault
unfoldable pub symbols_of : Data → Result (List SymbolParts) KeyFault
symbols_of file = symbols_found (symbols_at file)

-- the answer is what is said, or its fault; or memory ran out
abbrev pub AnswersSymbols : Result (List SymbolParts) KeyFault → Result (Vec SymbolParts Global) ConfigFault → Type 0
AnswersSymbols said (Ok symbols) = said ≡ Ok symbols.items
AnswersSymbols said (Err (fault.Key key_fault)) = said ≡ Err key_fault
AnswersSymbols said (Err fault.OutOfMemory) = Unit {0}
AnswersSymbols said (Err (fault.Toml error)) = ⊥
