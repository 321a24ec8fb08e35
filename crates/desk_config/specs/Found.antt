-- What stands where another value had to.
use Rattle.std.specs.Prelude.{ℕ, ◌+◌, List, ◌++◌, codes, decimal, if◌then◌else◌}
use Rattle.std.specs.Fmt.{signed_decimal}
use Rattle.toml.specs.Data.{Data, string, integer, float, boolean, datetime, array, table, Items, no_items, item}
use Rattle.desk_words.specs.Printable.{shown}
use Rattle.desk_config.specs.declared.found.Found.{Found}
use Rattle.desk_config.specs.declared.found.Found.TheVariants as found
use Rattle.desk_config.specs.declared.found.Kind.{Kind}
use Rattle.desk_config.specs.declared.found.Kind.TheVariants.{Float, Date, Table}

-- how many items an array has
abbrev pub items_count : Items → ℕ
items_count no_items = 0
items_count (item given rest) = 1 + items_count rest

-- a value as a fault names it
abbrev pub found_of : Data → Found
found_of (string text) = found.Text (shown 40 text)
found_of (integer number) = found.Number number
found_of (float _) = found.Other Float
found_of (boolean flag) = found.Flag flag
found_of (datetime _) = found.Other Date
found_of (array items) = found.Array (items_count items)
found_of (table _) = found.Other Table

-- a kind of value in words
abbrev pub kind_text : Kind → List ℕ
kind_text Float = codes "a float"
kind_text Date = codes "a date"
kind_text Table = codes "a table"

-- the value in a fault's text
abbrev pub found_text : Found → List ℕ
found_text (found.Text text) = codes "\"" ++ text ++ codes "\""
found_text (found.Number number) = signed_decimal number
found_text (found.Flag flag) = if flag then codes "true" else codes "false"
found_text (found.Array len) = codes "an array of " ++ decimal len
found_text (found.Other kind) = kind_text kind
