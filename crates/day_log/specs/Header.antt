-- The files of a day's folder, and what stands at the head of a venue's.
use Rattle.std.specs.Prelude.{ℕ, List, [], ◌∷◌, ◌++◌, Bool, codes, decimal, if◌then◌else◌}
use Rattle.dialect.specs.declared.any_dialect.AnyDialect.{AnyDialect}
use Rattle.dialect.specs.declared.any_dialect.AnyDialect.TheVariants.{Plain, Split4, Coded}
use Rattle.desk_config.specs.declared.endpoint.Endpoint.{Endpoint}
use Rattle.desk_config.specs.declared.endpoint.Endpoint.TheVariants.{At, Simulated}
use Rattle.desk_config.specs.declared.session_terms.SessionTerms.{SessionTerms}
use Rattle.desk_config.specs.declared.venue.Venue.{Venue}
use Rattle.desk_config.specs.Address.{address_text}
use Rattle.venue_words.specs.declared.words.VenueWords.{VenueWords}
use Rattle.venue_words.specs.declared.words.VenueWords.TheVariants.{Preset, Table}
use Rattle.venue_words.specs.Head.{table_text}
use Rattle.day_log.specs.declared.log_file.LogFile.{LogFile}
use Rattle.day_log.specs.declared.log_file.LogFile.TheVariants as file

-- the name of a file, as `NYSE.log`
abbrev pub file_text : LogFile → List ℕ
file_text (file.Venue name) = name ++ codes ".log"
file_text file.Sweeps = codes "sweeps.log"

-- where an exchange is, as `127.0.0.1:9001`
abbrev pub place_text : Endpoint → List ℕ
place_text (At address) = address_text address
place_text (Simulated fill) = codes "simulated"

-- a dialect, as a desk's file has it
abbrev pub dialect_text : AnyDialect → List ℕ
dialect_text Plain = codes "plain"
dialect_text Split4 = codes "split"
dialect_text Coded = codes "coded"

-- a venue's dialect, which is its own where it has a table
abbrev pub words_text : VenueWords → List ℕ
words_text (Preset dialect) = dialect_text dialect
words_text (Table w) = codes "words"

abbrev pub yes_or_no : Bool → List ℕ
yes_or_no is_so = if is_so then codes "yes" else codes "no"

-- as `# venue NYSE address 127.0.0.1:9001 sender `
abbrev pub place_part : Venue → List ℕ
place_part venue =
    codes "# venue " ++ venue.name ++ codes " address " ++ place_text venue.endpoint ++ codes " sender "

-- as ` dialect plain heartbeat 30 next_expected no`, with the end of the line
abbrev pub terms_part : VenueWords → SessionTerms → List ℕ
terms_part words terms =
    codes " dialect " ++ words_text words ++ codes " heartbeat " ++ decimal terms.heartbeat
    ++ codes " next_expected " ++ yes_or_no terms.next_expected ++ 10 ∷ []

-- the lines of a venue's table, if it has one
abbrev pub head_of_words : VenueWords → List ℕ
head_of_words (Preset dialect) = []
head_of_words (Table w) = table_text w

-- as `# venue NYSE address 127.0.0.1:9001 sender DESK target NYSE dialect plain heartbeat 30 next_expected no`
abbrev pub header_text : Venue → List ℕ
header_text venue =
    place_part venue ++ venue.sender ++ codes " target " ++ venue.target ++ terms_part venue.words venue.session
    ++ head_of_words venue.words
