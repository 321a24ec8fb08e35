use Rattle.std.proofs.Common.{◌≡◌, [], drop, ◌≤◌, length}
use Rattle.toml.specs.View.{items_view}
use Rattle.desk_config.specs.Symbols.{symbols_from}
use Rattle.desk_config.proofs.symbols.each_symbol.Given as goal

abbrev pub invariant-loop-value : goal.invariant-loop-value
invariant-loop-value l = record {
  said : symbols_from [] (items_view l.values.items)
      ≡ symbols_from l.symbols.items (items_view (drop l.value-index l.values.items));
  count : length l.symbols.items ≤ l.value-index;
}
