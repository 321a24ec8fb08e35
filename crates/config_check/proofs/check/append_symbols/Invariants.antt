use Rattle.std.proofs.Common.{◌≡◌, ◌++◌, take}
use Rattle.std.specs.List.{flat_map}
use Rattle.config_check.specs.Checked.{symbol_word}
use Rattle.config_check.proofs.check.append_symbols.Given as goal

abbrev pub invariant-loop-symbol : goal.invariant-loop-symbol
invariant-loop-symbol l =
    l.text.items ≡ l.initial.text.items ++ flat_map symbol_word (take l.symbol-index l.symbols)
