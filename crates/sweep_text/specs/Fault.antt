-- Why a line is bad.
use Rattle.std.specs.Prelude.{ℕ, List, ◌++◌, codes}
use Rattle.sweep_text.specs.declared.line_fault.LineFault.{LineFault}
use Rattle.sweep_text.specs.declared.line_fault.LineFault.TheVariants.{TooLong, NotText, Unknown, Extra, Short, NoVenue, BadSymbol, BadSide, BadShares, BadPrice, BadReference, OutOfMemory}

-- the fault in words, as `no venue ARCA2`
abbrev pub fault_text : LineFault → List ℕ
fault_text TooLong = codes "more than 65536 bytes"
fault_text NotText = codes "a byte that isn't printable text"
fault_text (Unknown word) = codes "no command " ++ word
fault_text (Extra word) = codes "a word too many, " ++ word
fault_text Short = codes "a leg is VENUE SYMBOL buy|sell SHARES PRICE"
fault_text (NoVenue word) = codes "no venue " ++ word
fault_text (BadSymbol word) = codes "bad symbol " ++ word
fault_text (BadSide word) = codes "bad side " ++ word
fault_text (BadShares word) = codes "bad shares " ++ word
fault_text (BadPrice word) = codes "bad price " ++ word
fault_text (BadReference word) = codes "bad reference " ++ word
fault_text OutOfMemory = codes "out of memory"
