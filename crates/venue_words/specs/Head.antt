-- A table at the head of a log.
use Rattle.std.specs.Prelude.{ℕ, ◌==◌, List, [], ◌∷◌, ◌++◌, codes, decimal, if◌then◌else◌}
use Rattle.dialect.specs.declared.words.Extra.{Extra}
use Rattle.dialect.specs.declared.words.PriceShape.{PriceShape}
use Rattle.dialect.specs.declared.words.PriceShape.TheVariants.{Short, Four, Least}
use Rattle.dialect.specs.declared.words.SymbolShape.{SymbolShape}
use Rattle.dialect.specs.declared.words.SymbolShape.TheVariants.{Joined, Parted}
use Rattle.dialect.specs.declared.words.Words.{Words}
use Rattle.dialect.specs.Words.{worded}
use Rattle.venue_words.specs.Example.{example_leg}

-- the number of leg 3 of sweep 12, as `S12L3`
abbrev pub example_text : Words → List ℕ
example_text w = (worded w).id_text example_leg

-- how prices are spelled
abbrev pub price_text : PriceShape → List ℕ
price_text Short = codes "short"
price_text Four = codes "4"
price_text (Least more) =
    if more == 0 then codes "1" else (if more == 1 then codes "2" else codes "3")

-- how symbols are spelled
abbrev pub symbol_text : SymbolShape → List ℕ
symbol_text (Joined separator) = separator ∷ []
symbol_text Parted = codes "55+65"

-- a field, as `528=P`
abbrev pub field_text : ℕ → List ℕ → List ℕ
field_text tag value = decimal tag ++ codes "=" ++ value

-- as `# words id S12L3 mark 18=f price short symbol .`, with the end of the line
abbrev pub forms_line : Words → List ℕ
forms_line w =
    codes "# words id " ++ example_text w ++ codes " mark " ++ field_text w.mark_tag w.mark_value.items
    ++ codes " price " ++ price_text w.price ++ codes " symbol " ++ symbol_text w.symbol ++ 10 ∷ []

-- as `# order 528=P`
abbrev pub field_line : Extra → List ℕ
field_line field = codes "# order " ++ field_text field.tag field.value.items ++ 10 ∷ []

-- a line for each field that every order carries
abbrev pub field_lines : List Extra → List ℕ
field_lines [] = []
field_lines (field ∷ fields) = field_line field ++ field_lines fields

-- the lines of a table
unfoldable pub table_text : Words → List ℕ
table_text w = forms_line w ++ field_lines w.extra.items
