-- The symbols that were read so far.
use Rattle.std.proofs.Common.{◌≡◌, ℕ, ◌+◌, ◌<◌, List, [], ◌∷◌, ◌++◌, length, drop, get_or, ap, ◌∙◌}
use Rattle.std.specs.Prelude.{Result, Ok, Err}
use Rattle.toml.specs.declared.value.Value.{Value}
use Rattle.toml.specs.View.{view, items_view}
use Rattle.toml.proofs.Views.{items_view-drop}
use Rattle.leg.specs.Symbol.{SymbolParts}
use Rattle.desk_config.specs.declared.fault.KeyFault.{KeyFault}
use Rattle.desk_config.specs.Symbols.{symbols_from, next_symbol}
use Rattle.desk_config.specs.Reading.{and_then}

-- what the values from an index on say
abbrev pub symbols_at : List SymbolParts → List Value → ℕ → Result (List SymbolParts) KeyFault
symbols_at earlier values i = symbols_from earlier (items_view (drop i values))

-- a symbol more, and what the values behind it say
abbrev pub behind : List SymbolParts → List Value → ℕ → SymbolParts → Result (List SymbolParts) KeyFault
behind earlier values i symbol = symbols_at (earlier ++ symbol ∷ []) values (i + 1)

-- the next value, and those behind it
symbols_step : (earlier : List SymbolParts) (values : List Value) (i : ℕ) (d : Value) → i < length values
    → symbols_at earlier values i
    ≡ and_then (next_symbol earlier (view (get_or values i d))) (behind earlier values i)
unfolding symbols_from
symbols_step earlier values i d within = ap (symbols_from earlier) (items_view-drop values i d within)

-- a symbol that was read
pub symbol_read : (earlier : List SymbolParts) (values : List Value) (i : ℕ) (d : Value) (symbol : SymbolParts)
    → i < length values
    → next_symbol earlier (view (get_or values i d)) ≡ Ok symbol
    → symbols_from earlier (items_view (drop i values))
    ≡ symbols_from (earlier ++ symbol ∷ []) (items_view (drop (i + 1) values))
symbol_read earlier values i d symbol within read =
    symbols_step earlier values i d within ∙ ap (λ r. and_then r (behind earlier values i)) read

-- a value that is none
pub symbol_refused : (earlier : List SymbolParts) (values : List Value) (i : ℕ) (d : Value) (fault : KeyFault)
    → i < length values
    → next_symbol earlier (view (get_or values i d)) ≡ Err fault
    → symbols_from earlier (items_view (drop i values)) ≡ Err fault
symbol_refused earlier values i d fault within refused =
    symbols_step earlier values i d within ∙ ap (λ r. and_then r (behind earlier values i)) refused

pub ruleset symbol_steps = (symbol_read, symbol_refused)
