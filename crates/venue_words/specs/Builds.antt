-- A table with something else in it.
use Rattle.std.specs.Prelude.{ℕ, Bool, ◌||◌, ◌==◌, List, [], ◌∷◌, ◌++◌, length, Option, Some, None, option_and_then, Result, Ok, Err, if◌then◌else◌}
use Rattle.dialect.specs.declared.words.Extra.{Extra}
use Rattle.dialect.specs.declared.words.PriceShape.{PriceShape}
use Rattle.dialect.specs.declared.words.Words.{Words}
use Rattle.venue_words.specs.declared.fault.FieldFault.{FieldFault}
use Rattle.venue_words.specs.declared.fault.FieldFault.TheVariants.{InOrder, OfMark, Twice, TooMany, Spaced}
use Rattle.venue_words.specs.Example.{shape_of}
use Rattle.venue_words.specs.Field.{field_of}
use Rattle.venue_words.specs.Forms.{price_of_decimals, price_of_text, symbol_of_text}
use Rattle.venue_words.specs.Table.{taken}

-- with the shape of a leg's number that has an example
unfoldable pub with_id : Words → List ℕ → Option Words
with_id w text = option_and_then (λ id. taken (record w { id = id })) (shape_of text)

-- with prices so
abbrev pub with_price : Words → PriceShape → Option Words
with_price w price = taken (record w { price = price })

unfoldable pub with_price_text : Words → List ℕ → Option Words
with_price_text w text = option_and_then (with_price w) (price_of_text text)

unfoldable pub with_decimals : Words → ℕ → Option Words
with_decimals w decimals = option_and_then (with_price w) (price_of_decimals decimals)

-- with symbols so
unfoldable pub with_symbol : Words → List ℕ → Option Words
with_symbol w text = option_and_then (λ symbol. taken (record w { symbol = symbol })) (symbol_of_text text)

-- a tag that all orders have
abbrev pub is_shared : ℕ → Bool
is_shared tag =
    tag == 11 || tag == 38 || tag == 40 || tag == 44 || tag == 54 || tag == 55 || tag == 65 || tag == 59 || tag == 60

-- a table, or why not
abbrev pub taken_or : FieldFault → Option Words → Result Words FieldFault
taken_or fault None = Err fault
taken_or fault (Some w) = Ok w

-- what is done with a field that is one
abbrev pub with_read : (Extra → Result Words FieldFault) → Result Extra FieldFault → Result Words FieldFault
with_read next (Err fault) = Err fault
with_read next (Ok field) = next field

-- with a mark: in ExecInst (18) it may stand among other instructions
abbrev pub marked : Words → Extra → Words
marked w mark = record w { mark_tag = mark.tag; mark_value = mark.value; mark_among = mark.tag == 18 }

-- why a mark isn't taken
abbrev pub mark_fault : ℕ → FieldFault
mark_fault tag = if is_shared tag then InOrder else Spaced

abbrev pub mark_or : Words → Extra → Result Words FieldFault
mark_or w mark = taken_or (mark_fault mark.tag) (taken (marked w mark))

unfoldable pub with_mark : Words → List ℕ → Result Words FieldFault
with_mark w text = with_read (mark_or w) (field_of text)

-- with one more field that every order carries
abbrev pub added : Words → Extra → Words
added w field = record w { extra = record { items = w.extra.items ++ field ∷ [] } }

-- why it isn't taken
unfoldable pub fields_fault : Words → ℕ → FieldFault
fields_fault w tag = if is_shared tag then InOrder else (if tag == w.mark_tag then OfMark else Twice)

abbrev pub field_or : Words → Extra → Result Words FieldFault
field_or w field =
    if length w.extra.items == 16 then Err TooMany
    else taken_or (fields_fault w field.tag) (taken (added w field))

unfoldable pub with_field : Words → List ℕ → Result Words FieldFault
with_field w text = with_read (field_or w) (field_of text)
