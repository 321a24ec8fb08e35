-- The head of a venue's journal, and that of its log.
use Rattle.std.specs.Prelude.{ℕ, Bool, List, [], ◌∷◌, ◌++◌, codes, decimal, ◌==◌, if◌then◌else◌}
use Rattle.std.specs.List.{flat_map}
use Rattle.desk_words.specs.Printable.{shown}
use Rattle.fix_tags.specs.Config.{ConfigParts}
use Rattle.dialect.specs.declared.any_dialect.AnyDialect.{AnyDialect}
use Rattle.dialect.specs.declared.any_dialect.AnyDialect.TheVariants.{Plain, Split4, Coded}
use Rattle.venue_words.specs.declared.words.VenueWords.{VenueWords}
use Rattle.venue_words.specs.declared.words.VenueWords.TheVariants.{Preset, Table}
use Rattle.dialect.specs.Spelled.{spelled}
use Rattle.dialect.specs.Wording.{Wording}
use Rattle.venue_words.specs.Dialect.{dialect_of, venue_spelling}
use Rattle.venue_words.specs.Head.{table_text}

-- whose journal it is: the day and the venue's name as texts, the terms of its session, and its words
pub record HeadParts : Type 0 where
  pub day : List ℕ
  pub name : List ℕ
  pub config : ConfigParts
  pub words : VenueWords

-- a dialect, as a desk's file has it
abbrev pub dialect_text : AnyDialect → List ℕ
dialect_text Plain = codes "plain"
dialect_text Split4 = codes "split"
dialect_text Coded = codes "coded"

-- a venue's dialect, which is its own where it has a table
abbrev pub words_text : VenueWords → List ℕ
words_text (Preset dialect) = dialect_text dialect
words_text (Table w) = codes "words"

-- the lines of a venue's table, if it has one
abbrev pub table_lines : VenueWords → List ℕ
table_lines (Preset dialect) = []
table_lines (Table w) = table_text w

abbrev pub yes_or_no : Bool → List ℕ
yes_or_no is_so = if is_so then codes "yes" else codes "no"

-- how its messages are spelled
abbrev pub wording_of : VenueWords → Wording
wording_of words = spelled (venue_spelling (dialect_of words))

-- ---- in the journal

-- a text without its line ends
abbrev pub shown_in_line : ℕ → List ℕ
shown_in_line byte = if byte == 10 then [] else shown 4 (byte ∷ [])

abbrev pub in_one_line : List ℕ → List ℕ
in_one_line text = flat_map shown_in_line text

-- the lines of a table, if there is one
abbrev pub behind_space : List ℕ → List ℕ
behind_space [] = []
behind_space (byte ∷ bytes) = codes " " ++ in_one_line (byte ∷ bytes)

-- the day, the venue and the comp ids
abbrev pub ids_part : HeadParts → List ℕ
ids_part h =
    codes "day " ++ h.day ++ codes " of " ++ h.name ++ codes " sender " ++ shown 16 h.config.me
    ++ codes " target " ++ shown 16 h.config.peer

-- the dialect and the session's terms, as the log has them too
abbrev pub terms_part : VenueWords → ConfigParts → List ℕ
terms_part words config =
    codes " dialect " ++ words_text words ++ codes " heartbeat " ++ decimal config.heart
    ++ codes " next_expected " ++ yes_or_no config.has_next

abbrev pub most_part : ConfigParts → List ℕ
most_part config = codes " max_number " ++ decimal config.max_number

-- as `day 2026-11-24 of NYSE sender DESK target NYSE dialect plain heartbeat 30 next_expected no max_number 999999999`
abbrev pub head_words : HeadParts → List ℕ
head_words h =
    ids_part h ++ terms_part h.words h.config ++ most_part h.config ++ behind_space (table_lines h.words)

-- ---- in the log

-- as `# venue NYSE address unknown sender DESK target NYSE`
abbrev pub place_part : HeadParts → List ℕ
place_part h =
    codes "# venue " ++ h.name ++ codes " address unknown sender " ++ h.config.me ++ codes " target " ++ h.config.peer

-- the lines at the head of the log. The address isn't in a journal
abbrev pub log_head : HeadParts → List ℕ
log_head h = place_part h ++ (terms_part h.words h.config ++ codes "\n") ++ table_lines h.words
