-- The dialect that the head of a log names.
use Rattle.std.specs.Prelude.{ℕ, Bool, false, ◌&&◌, List, codes, drop, ◌==◌, if◌then◌else◌}
use Rattle.std.specs.Prelude.{Option, Some, None, option_and_then, option_map, slice_get, unwrap_or}
use Rattle.std.specs.List.{slice_split, starts_with}
use Rattle.std.specs.Result.{result_ok}
use Rattle.std.specs.Str.{bytes_eq, is_utf8}
use Rattle.dialect.specs.DialectName.{dialect_named}
use Rattle.dialect.specs.declared.any_dialect.AnyDialect.TheVariants.{Plain}
use Rattle.dialect.specs.declared.words.Words.{Words}
use Rattle.venue_words.specs.Builds.{with_field, with_id, with_mark, with_price_text, with_symbol}
use Rattle.venue_words.specs.Dialect.{dialect_of}
use Rattle.venue_words.specs.Table.{preset_words}
use Rattle.venue_words.specs.declared.venue_dialect.VenueDialect.{VenueDialect}
use Rattle.venue_words.specs.declared.words.VenueWords.{VenueWords}
use Rattle.venue_words.specs.declared.words.VenueWords.TheVariants.{Preset, Table}
use Rattle.log_head.specs.declared.head.Head.{Head}
use Rattle.log_head.specs.declared.head.Head.TheVariants.{Unknown, Awaited, Known}

abbrev pub text_in : List ℕ → Option (List ℕ)
text_in bytes = if is_utf8 bytes then Some bytes else None

-- the word at a place of a line, of which the first is at 0: single spaces part them
abbrev pub piece_at : List ℕ → ℕ → Option (List ℕ)
piece_at line place = slice_get (slice_split (λ c. c == 32) line) place

abbrev pub word_at : List ℕ → ℕ → Option (List ℕ)
word_at line place = option_and_then text_in (piece_at line place)

abbrev pub is_word : List ℕ → Option (List ℕ) → Bool
is_word word None = false
is_word word (Some said) = bytes_eq said word

-- whether the word at a place of a line is this one
abbrev pub says : List ℕ → ℕ → List ℕ → Bool
says line place word = is_word word (word_at line place)

-- what is known by the name of a dialect: `words` says that a table comes next
abbrev pub named : List ℕ → Head
named name =
    if bytes_eq name (codes "words") then Awaited
    else unwrap_or (option_map (λ dialect. Known (Preset dialect)) (dialect_named name)) Unknown

-- what the first line says, as `# venue NYSE address .. sender .. target .. dialect plain ..`
abbrev pub first_head : List ℕ → Head
first_head line =
    if says line 1 (codes "venue") && says line 9 (codes "dialect")
    then unwrap_or (option_map named (word_at line 10)) Unknown else Unknown

-- a table with what a line as `# words id S12L3 mark 18=f price short symbol .` says
abbrev pub with_id_of : List ℕ → Words → Option Words
with_id_of line table = option_and_then (with_id table) (word_at line 3)

abbrev pub with_mark_of : List ℕ → Words → Option Words
with_mark_of line table = option_and_then (λ mark. result_ok (with_mark table mark)) (word_at line 5)

abbrev pub with_price_of : List ℕ → Words → Option Words
with_price_of line table = option_and_then (with_price_text table) (word_at line 7)

abbrev pub with_symbol_of : List ℕ → Words → Option Words
with_symbol_of line table = option_and_then (with_symbol table) (word_at line 9)

-- the table of such a line
abbrev pub table_in : List ℕ → Option Words
table_in line =
    option_and_then (with_symbol_of line) (option_and_then (with_price_of line)
    (option_and_then (with_mark_of line) (with_id_of line (preset_words Plain))))

-- the field of a line as `# order 528=P`
abbrev pub field_in : List ℕ → Option (List ℕ)
field_in line = if starts_with (λ a b. a == b) line (codes "# order ") then Some (drop 8 line) else None

-- what is known once a table was read
abbrev pub known : Option Words → Head
known None = Unknown
known (Some table) = Known (Table table)

-- what is known behind a line that follows the first one, where that is something else
abbrev pub next_head : Head → List ℕ → Option Head
next_head Unknown line = None
next_head Awaited line =
    if starts_with (λ a b. a == b) line (codes "# words ") then Some (known (table_in line)) else None
next_head (Known (Preset dialect)) line = None
next_head (Known (Table table)) line =
    option_map (λ field. known (result_ok (with_field table field))) (field_in line)

-- what is known behind a line of this number that stands before all messages
abbrev pub head_after : ℕ → List ℕ → Head → Head
head_after number line head = if number == 1 then first_head line else unwrap_or (next_head head line) head

-- the dialect, if it is known
abbrev pub dialect_in : Head → Option VenueDialect
dialect_in (Known words) = Some (dialect_of words)
dialect_in Unknown = None
dialect_in Awaited = None

-- the venue's words, if they are known
abbrev pub words_in : Head → Option VenueWords
words_in (Known words) = Some words
words_in Unknown = None
words_in Awaited = None
