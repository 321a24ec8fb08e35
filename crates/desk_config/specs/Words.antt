-- How a venue spells its orders, as a `[[venue]]` says it.
use Rattle.std.specs.Prelude.{ℕ, suc, List, codes, Option, Some, None, unwrap_or, option_and_then, Result, Ok, Err, if◌then◌else◌}
use Rattle.std.specs.Str.{bytes_eq}
use Rattle.toml.specs.Data.{Data, string, integer, array, table, as_str, get, Items, no_items, item}
use Rattle.dialect.specs.DialectName.{dialect_named}
use Rattle.dialect.specs.declared.any_dialect.AnyDialect.{AnyDialect}
use Rattle.dialect.specs.declared.any_dialect.AnyDialect.TheVariants.{Plain}
use Rattle.dialect.specs.declared.words.Words.{Words}
use Rattle.desk_words.specs.Printable.{shown}
use Rattle.venue_words.specs.Builds.{with_decimals, with_field, with_id, with_mark, with_price_text, with_symbol}
use Rattle.venue_words.specs.Table.{preset_words}
use Rattle.venue_words.specs.declared.fault.FieldFault.{FieldFault}
use Rattle.venue_words.specs.declared.fault.FieldFault.TheVariants.{NoField}
use Rattle.venue_words.specs.declared.words.VenueWords.{VenueWords}
use Rattle.venue_words.specs.declared.words.VenueWords.TheVariants as words
use Rattle.desk_config.specs.declared.fault.Fault.{Fault}
use Rattle.desk_config.specs.declared.fault.Fault.TheVariants as fault
use Rattle.desk_config.specs.declared.key.Key.{Key}
use Rattle.desk_config.specs.declared.key.Key.TheVariants as key
use Rattle.desk_config.specs.declared.keys.Keys.TheVariants as keys
use Rattle.desk_config.specs.Found.{found_of}
use Rattle.desk_config.specs.Keys.{first_unknown}
use Rattle.desk_config.specs.Number.{nat_of}
use Rattle.desk_config.specs.Reading.{and_then, value_at}

-- a dialect that has a name
abbrev pub dialect_in : Data → Option AnyDialect
dialect_in given = option_and_then dialect_named (as_str given)

-- a table with what a key's value says, or the fault that it is another
abbrev pub taken_or_bad : Key → Data → Option Words → Result Words Fault
taken_or_bad key given None = Err (fault.Bad key (found_of given))
taken_or_bad key given (Some w) = Ok w

-- what a table says once a value is there; the same where none is
abbrev pub with_value : (Data → Result Words Fault) → Words → Option Data → Result Words Fault
with_value says w None = Ok w
with_value says w (Some given) = says given

-- the table with the shape of a leg's number
abbrev pub id_by : Words → Data → Result Words Fault
id_by w given = taken_or_bad key.Id given (option_and_then (with_id w) (as_str given))

unfoldable pub id_at : Words → Data → Result Words Fault
id_at w given = with_value (id_by w) w (get (codes "id") given)

-- with prices: a text, or how many decimals they have at least
abbrev pub priced : Words → Data → Option Words
priced w (string text) = with_price_text w text
priced w (integer number) = option_and_then (with_decimals w) (nat_of number)
priced w _ = None

abbrev pub price_by : Words → Data → Result Words Fault
price_by w given = taken_or_bad key.Price given (priced w given)

unfoldable pub price_at : Words → Data → Result Words Fault
price_at w given = with_value (price_by w) w (get (codes "price") given)

-- with symbols
abbrev pub symbol_by : Words → Data → Result Words Fault
symbol_by w given = taken_or_bad key.Symbol given (option_and_then (with_symbol w) (as_str given))

unfoldable pub symbol_at : Words → Data → Result Words Fault
symbol_at w given = with_value (symbol_by w) w (get (codes "symbol") given)

-- with a mark
abbrev pub mark_or : Data → Result Words FieldFault → Result Words Fault
mark_or given (Err why) = Err (fault.Mark (found_of given) why)
mark_or given (Ok w) = Ok w

abbrev pub mark_of_text : Words → Data → Option (List ℕ) → Result Words Fault
mark_of_text w given None = Err (fault.Bad key.Mark (found_of given))
mark_of_text w given (Some text) = mark_or given (with_mark w text)

abbrev pub mark_by : Words → Data → Result Words Fault
mark_by w given = mark_of_text w given (as_str given)

unfoldable pub mark_at : Words → Data → Result Words Fault
mark_at w given = with_value (mark_by w) w (get (codes "mark") given)

-- `words` has no key that it may not have
abbrev pub known_words : Option (List ℕ) → Result (Unit {0}) Fault
known_words None = Ok tt
known_words (Some key) = Err (fault.UnknownWord (shown 40 key))

abbrev pub known_in : Data → Result (Unit {0}) Fault
known_in (table members) = known_words (first_unknown keys.Words members)
known_in given = Err (fault.Bad key.Words (found_of given))

-- the table with all that `words` says
unfoldable pub forms_by : Words → Data → Result Words Fault
forms_by w given =
    and_then (known_in given) (λ _.
    and_then (id_at w given) (λ w1.
    and_then (mark_at w1 given) (λ w2. and_then (price_at w2 given) (λ w3. symbol_at w3 given))))

-- with a field of `order`, the one of this number
abbrev pub order_or : ℕ → Data → Result Words FieldFault → Result Words Fault
order_or number given (Err why) = Err (fault.Order number (found_of given) why)
order_or number given (Ok w) = Ok w

abbrev pub order_of_text : Words → ℕ → Data → Option (List ℕ) → Result Words Fault
order_of_text w number given None = order_or number given (Err NoField)
order_of_text w number given (Some text) = order_or number given (with_field w text)

unfoldable pub next_field : Words → ℕ → Data → Result Words Fault
next_field w number given = order_of_text w number given (as_str given)

-- with the fields of `order` from the one of this number on
unfoldable pub fields_from : Words → ℕ → Items → Result Words Fault
fields_from w number no_items = Ok w
fields_from w number (item given rest) =
    and_then (next_field w number given) (λ next. fields_from next (suc number) rest)

abbrev pub order_by : Words → Data → Result Words Fault
order_by w (array items) = fields_from w 1 items
order_by w given = Err (fault.Bad key.Order (found_of given))

-- the table that `words` and `order` make of a dialect
unfoldable pub table_by : AnyDialect → Option Data → Option Data → Result Words Fault
table_by dialect said order =
    and_then (with_value (forms_by (preset_words dialect)) (preset_words dialect) said) (λ w.
    with_value (order_by w) w order)

-- a dialect where neither is there
abbrev pub words_by : AnyDialect → Option Data → Option Data → Result VenueWords Fault
words_by dialect None None = Ok (words.Preset dialect)
words_by dialect said order = and_then (table_by dialect said order) (λ w. Ok (words.Table w))

-- how a venue spells its orders
unfoldable pub words_in : Data → Result VenueWords Fault
words_in given =
    and_then (value_at dialect_in key.Dialect given) (λ dialect.
    words_by (unwrap_or dialect Plain) (get (codes "words") given) (get (codes "order") given))
