-- The secret that a file has.
use Rattle.std.specs.Prelude.{ℕ, Bool, List, Option, not, bit_and, ◌==◌}
use Rattle.std.specs.Io.BufRead.{strip_last}
use Rattle.desk_words.specs.Printable.{printable_of}

-- whether a mode gives others than a file's owner a right: by its last six bits
abbrev pub is_open_to_others : ℕ → Bool
is_open_to_others mode = not (bit_and mode 0x3F == 0)

-- its one line, without its end (10, a line feed, and before it 13, a carriage return), of 1 to so many printable bytes
abbrev pub secret_of : ℕ → List ℕ → Option (List ℕ)
secret_of most text = printable_of most (strip_last 13 (strip_last 10 text))
